-- Laws of the sets that marking makes: orbits gathered from the darts that pass a test, the cells of the darts that fail, and the row of marks. Assumes nothing.
use mathlib.Core.Path.{◌≡◌, refl, sym, ap, ◌∙◌}
use mathlib.Core.Logic.{◌⊎◌, inl, inr}
use mathlib.Core.Bool.{Bool, true, false, cond, ◌&&◌, ◌||◌, not, true≢false}
use mathlib.Core.List.{List}
use Prim.Native.Nat.{ℕ, ◌+◌, ◌≤◌, ◌<◌}
use native.Mathlib.Omega.{arith}
use lib.Dec.{eqb, ltb}
use borrow.Author.Count.{below_more}
use borrow.Author.Tests.{ltb-true, lt-ltb, eqb-true, eqb-false, not-true}
use Rattle.maps.specs.Mark.{stay}
use Rattle.maps.specs.Orbit.{Orbit, here}
use Rattle.maps.specs.Kernel.{Removable}
use Rattle.maps.specs.Table.{entry, each, listed}
use Rattle.maps.specs.Explicit.{present}
use Rattle.maps.specs.MarkCells.{Marked, CellsMarked}
use Rattle.laws.proofs.Verdicts.{and_both}
use Rattle.laws.proofs.Tables.{length_listed, get_or_listed}
use Rattle.orbits.specs.Orbits.{Added}
use Rattle.orbits.proofs.Orbits.{orbit_back, closed_orbit}
use Rattle.orbits.specs.Explicit.{ExplicitLevel, but}
use Rattle.orbits.proofs.Explicit.{Present, level_valid}
use Rattle.orbits.proofs.Cells.{cell_orbit, orbit_cell, cell_present}
use Rattle.cells.specs.Marked.{failing, Gathered, Lacks, marks_of}
use Rattle.cells.proofs.Parts.{valid_two_way}

module _ (n N : ℕ) (table : List ℕ) (rows test : ℕ → Bool) where
  pub gathered_none : (within : ℕ → Bool) → ((d : ℕ) → within d ≡ false) → Gathered n N table rows test within 0
  gathered_none within empty = record { closed = λ d j h lj u. absurd (true≢false (sym h ∙ empty d)); source = λ e h. absurd (true≢false (sym h ∙ empty e)); passed = λ b l. absurd (omega arith) }

  -- a dart that fails the test, or is reached, is passed over
  pub gathered_pass : (within : ℕ → Bool) (d : ℕ) → Gathered n N table rows test within d → (test d ≡ true → within d ≡ true) → Gathered n N table rows test within (d + 1)
  gathered_pass within d s f = record { closed = s.closed; source = s.source; passed = below_more (λ b. test b ≡ true → within b ≡ true) d s.passed f }

  -- the orbit of any other is added
  pub gathered_add : (old new : ℕ → Bool) (d : ℕ) → Gathered n N table rows test old d → test d ≡ true → d < N → Added (entry N table) n (λ j d. rows j) d old new → Gathered n N table rows test new (d + 1)
  gathered_add old new d s f l w = record {
    closed = w.closed;
    source = λ e h. elim (w.only e h) [ inl o ↦ s.source e o | inr o ↦ (d, l, f, o) ];
    passed = below_more (λ b. test b ≡ true → new b ≡ true) d (λ b k e. w.kept b (s.passed b k e)) (λ e. w.whole d here);
  }

module _ (n N : ℕ) (table : List ℕ) (δ : ℕ) where
  -- a dart that fails is present, δ ≤ n−2, and its two ends differ
  pub fails_tells : (b : ℕ) → failing n N table δ b ≡ true
      → (δ + 2 ≤ n) × (present N table b ≡ true) × (entry N table (δ + 2) (entry N table (δ + 1) b) ≡ entry N table (δ + 1) (entry N table (δ + 2) b) → ⊥)
  fails_tells b f =
      let same = eqb (entry N table (δ + 2) (entry N table (δ + 1) b)) (entry N table (δ + 1) (entry N table (δ + 2) b)) in
      let r = and_both (ltb (δ + 1) n) (present N table b && not same) f in
      let t = and_both (present N table b) (not same) r.1 in
      (omega (arith, ltb-true (δ + 1) n r.0), t.0, eqb-false _ _ (not-true same t.1))

  -- each involution leads back, so a cell has a dart that fails exactly if its darts are in the set
  pub spoilt : ExplicitLevel n N table → (within : ℕ → Bool) → Gathered n N table (but δ) (failing n N table δ) within N → Lacks n N table (Removable (entry N table) n δ) within
  spoilt level within s d ld p = go (within d) refl
    where
      back : (x y : ℕ) → Present n N table x → Orbit (entry N table) n (λ j d. but δ j) x y → Orbit (entry N table) n (λ j d. but δ j) y x
      back = orbit_back (entry N table) n (λ j d. but δ j) (Present n N table) (valid_two_way (entry N table) n (Present n N table) (level_valid n N table level) (but δ))

      spoils : within d ≡ true → Removable (entry N table) n δ d → ⊥
      spoils q ok =
          let w = s.source d q in
          let t = fails_tells w.0 w.2 in
          t.2 (ok t.0 w.0 (orbit_cell (entry N table) n δ d w.0 (back w.0 d (w.1, t.1) w.3)))

      keeps : within d ≡ false → Removable (entry N table) n δ d
      keeps q f e c = same (eqb (entry N table (δ + 2) (entry N table (δ + 1) e)) (entry N table (δ + 1) (entry N table (δ + 2) e))) refl
        where
          same : (b : Bool) → eqb (entry N table (δ + 2) (entry N table (δ + 1) e)) (entry N table (δ + 1) (entry N table (δ + 2) e)) ≡ b → entry N table (δ + 2) (entry N table (δ + 1) e) ≡ entry N table (δ + 1) (entry N table (δ + 2) e)
          same true r = eqb-true _ _ r
          same false r =
              let there = cell_present (entry N table) n δ (Present n N table) (level_valid n N table level) d e (ld, p) c in
              let bad : failing n N table δ e ≡ true = rw (lt-ltb (δ + 1) n (omega arith), there.1, r) in
              absurd (true≢false (sym (closed_orbit (entry N table) n (λ j d. but δ j) within s.closed e d (s.passed e there.0 bad) (back d e (ld, p) (cell_orbit (entry N table) n δ d e c))) ∙ q))

      go : (b : Bool) → within d ≡ b → ((within d ≡ true) × (Removable (entry N table) n δ d → ⊥)) ⊎ ((within d ≡ false) × Removable (entry N table) n δ d)
      go true q = inl (q, spoils q)
      go false q = inr (q, keeps q)

-- the row of marks
pub marks_cells : (n N : ℕ) (table : List ℕ) (δ : ℕ) (within : ℕ → Bool) → Lacks n N table (Marked (entry N table) n δ) within → CellsMarked n N table δ (listed (marks_of N table δ within) N)
marks_cells n N table δ within s = record { long = length_listed (marks_of N table δ within) N; mark = λ d ld. go d ld (present N table d) refl }
  where
    value : (d : ℕ) → d < N → (b : Bool) → (not (present N table d) || within d) ≡ b → each (listed (marks_of N table δ within) N) d ≡ cond b stay δ
    value d ld b e = get_or_listed (marks_of N table δ within) N d 0 ld ∙ ap (λ (t : Bool). cond t stay δ) e

    go : (d : ℕ) → d < N → (b : Bool) → present N table d ≡ b
        → ((present N table d ≡ true) × Marked (entry N table) n δ d × (each (listed (marks_of N table δ within) N) d ≡ δ))
        ⊎ (((present N table d ≡ true) × Marked (entry N table) n δ d → ⊥) × (each (listed (marks_of N table δ within) N) d ≡ stay))
    go d ld true p = elim (s d ld p) [ inl w ↦ inr (λ r. w.1 r.1, value d ld true (rw (w.0, p))) | inr w ↦ inl (p, w.1, value d ld false (rw (w.0, p))) ]
    go d ld false p = inr (λ r. true≢false (sym r.0 ∙ p), value d ld true (rw p))
