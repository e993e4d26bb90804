-- Laws of the search for parts: a removable cell has two parts exactly if the part of one of its darts doesn't have the a_(δ+1)-neighbour of that dart. Assumes nothing.
use mathlib.Core.Path.{◌≡◌, refl, sym, ◌∙◌}
use mathlib.Core.Logic.{◌⊎◌, inl, inr}
use mathlib.Core.Bool.{Bool, true, false, ◌&&◌, ◌||◌, not, true≢false}
use mathlib.Core.List.{List}
use Prim.Native.Nat.{ℕ, ◌+◌, ◌<◌}
use native.Mathlib.Omega.{arith}
use borrow.Author.Count.{below_more}
use borrow.Author.Tests.{not-true}
use Rattle.maps.specs.Map.{Valid}
use Rattle.maps.specs.Cell.{Cell}
use Rattle.maps.specs.Orbit.{here}
use Rattle.maps.specs.Parts.{besides, Part}
use Rattle.maps.specs.Kernel.{Removable}
use Rattle.maps.specs.Table.{entry}
use Rattle.maps.specs.Explicit.{present}
use Rattle.maps.specs.MarkCells.{WouldBeMarked}
use Rattle.laws.proofs.Verdicts.{and_both}
use Rattle.orbits.specs.Orbits.{Closed, Added}
use Rattle.orbits.proofs.Orbits.{closed_orbit}
use Rattle.orbits.specs.Explicit.{ExplicitLevel, but}
use Rattle.orbits.proofs.Explicit.{Present, level_valid}
use Rattle.orbits.proofs.Cells.{cell_orbit, orbit_cell, cell_back}
use Rattle.cells.specs.Marked.{Lacks, undivided}
use Rattle.cells.proofs.Parts.{part_back, part_cell, apart_two, two_apart}

neither : (x y : Bool) → (x || y) ≡ false → x ≡ false
neither true y e = e
neither false y e = refl

module _ (n N : ℕ) (table : List ℕ) (δ : ℕ) where
  abbrev P : ℕ → Type 0
  P = Present n N table

  -- dart d and its a_(δ+1)-neighbour lie in different parts
  abbrev Apart : ℕ → Type 0
  Apart d = Part (entry N table) n δ d (entry N table (δ + 1) d) → ⊥

  -- `parts` has the parts that were searched, `within` the cells that aren't removable and those of them that are one part
  pub record Dividing (within parts : ℕ → Bool) (k : ℕ) : Type 0 where
    pub cells_closed : Closed (entry N table) n (λ j d. but δ j) within
    pub parts_closed : Closed (entry N table) n (λ j d. besides δ j) parts
    pub removable : (d : ℕ) → P d → within d ≡ false → Removable (entry N table) n δ d
    pub unmarked : (d : ℕ) → P d → within d ≡ true → WouldBeMarked (entry N table) n δ d → ⊥
    pub apart : (d : ℕ) → P d → parts d ≡ true → within d ≡ false → Apart d
    pub passed : (d : ℕ) → d < k → P d → within d ≡ false → WouldBeMarked (entry N table) n δ d

  -- what the test tells: the dart is present, not in the set, and its neighbour in no part that was searched
  pub undivided_tells : (within parts : ℕ → Bool) (d : ℕ) → undivided N table δ within parts d ≡ true → (present N table d ≡ true) × (within d ≡ false) × (parts (entry N table (δ + 1) d) ≡ false)
  undivided_tells within parts d u =
      let w = and_both (present N table d) (not (within d || parts d) && not (parts (entry N table (δ + 1) d))) u in
      let t = and_both (not (within d || parts d)) (not (parts (entry N table (δ + 1) d))) w.1 in
      (w.0, neither (within d) (parts d) (not-true (within d || parts d) t.0), not-true (parts (entry N table (δ + 1) d)) t.1)

  module _ (level : ExplicitLevel n N table) (below : δ < n) where
    v : Valid (entry N table) n (Present n N table)
    v = level_valid n N table level

    -- it begins with the cells that aren't removable, and no part
    pub dividing_none : (within parts : ℕ → Bool) → Closed (entry N table) n (λ j d. but δ j) within → Lacks n N table (Removable (entry N table) n δ) within → ((d : ℕ) → parts d ≡ false) → Dividing within parts 0
    dividing_none within parts closed lacks empty = record {
      cells_closed = closed;
      parts_closed = λ d j h lj u. absurd (true≢false (sym h ∙ empty d));
      removable = λ d p q. elim (lacks d p.0 p.1) [ inl w ↦ absurd (true≢false (sym w.0 ∙ q)) | inr w ↦ w.1 ];
      unmarked = λ d p q m. elim (lacks d p.0 p.1) [ inl w ↦ w.1 m.removable | inr w ↦ true≢false (sym q ∙ w.0) ];
      apart = λ d p h. absurd (true≢false (sym h ∙ empty d));
      passed = λ d l. absurd (omega arith);
    }

    module _ (within parts : ℕ → Bool) (k : ℕ) (s : Dividing within parts k) where
      -- a dart that isn't in a part that was searched, but whose neighbour is, or the other way round, is apart from it
      unlike : P k → parts k ≡ false → parts (entry N table (δ + 1) k) ≡ true → Apart k
      unlike p q r h =
          let back = part_back (entry N table) n δ P v k (entry N table (δ + 1) k) p h in
          true≢false (sym (closed_orbit (entry N table) n (λ j d. besides δ j) parts s.parts_closed (entry N table (δ + 1) k) k r back) ∙ q)

      would : P k → within k ≡ false → Apart k → WouldBeMarked (entry N table) n δ k
      would p q f = record { removable = s.removable k p q; two = apart_two (entry N table) n δ P v below k p (s.removable k p q) f }

      -- a dart whose cell is decided is passed over
      pub dividing_pass : undivided N table δ within parts k ≡ false → Dividing within parts (k + 1)
      dividing_pass f = record {
        cells_closed = s.cells_closed;
        parts_closed = s.parts_closed;
        removable = s.removable;
        unmarked = s.unmarked;
        apart = s.apart;
        passed = below_more (λ d. P d → within d ≡ false → WouldBeMarked (entry N table) n δ d) k s.passed (λ p q. would p q (go p q (parts k) refl (parts (entry N table (δ + 1) k)) refl));
      }
        where
          go : P k → within k ≡ false → (b : Bool) → parts k ≡ b → (c : Bool) → parts (entry N table (δ + 1) k) ≡ c → Apart k
          go p q true r c t = s.apart k p r q
          go p q false r true t = unlike p r t
          go p q false r false t =
              let u : undivided N table δ within parts k ≡ true = rw (p.1, q, r, t) in
              absurd (true≢false (sym u ∙ f))

      module _ (p : P k) (out : within k ≡ false) (parts' : ℕ → Bool) (w : Added (entry N table) n (λ j d. besides δ j) k parts parts') where
        -- its part is searched, and doesn't have the neighbour: two parts
        pub dividing_two : parts' (entry N table (δ + 1) k) ≡ false → Dividing within parts' (k + 1)
        dividing_two f = record {
          cells_closed = s.cells_closed;
          parts_closed = w.closed;
          removable = s.removable;
          unmarked = s.unmarked;
          apart = λ d g h q. elim (w.only d h) [ inl o ↦ s.apart d g o q | inr o ↦ two_apart (entry N table) n δ P v below k d p here_would.removable here_would.two (part_cell (entry N table) n δ k d o) ];
          passed = below_more (λ d. P d → within d ≡ false → WouldBeMarked (entry N table) n δ d) k s.passed (λ g q. here_would);
        }
          where
            here_would : WouldBeMarked (entry N table) n δ k
            here_would = would p out (λ h. true≢false (sym (w.whole (entry N table (δ + 1) k) h) ∙ f))

        -- it has the neighbour: the cell is one part, and is added
        pub dividing_one : parts (entry N table (δ + 1) k) ≡ false → parts' (entry N table (δ + 1) k) ≡ true
            → (within' : ℕ → Bool) → Added (entry N table) n (λ j d. but δ j) k within within' → Dividing within' parts' (k + 1)
        dividing_one before f within' z = record {
          cells_closed = z.closed;
          parts_closed = w.closed;
          removable = λ d g q. s.removable d g (older d q (within d) refl);
          unmarked = λ d g h m. elim (z.only d h) [ inl o ↦ s.unmarked d g o m | inr o ↦ one_part d g (orbit_cell (entry N table) n δ k d o) m ];
          apart = λ d g h q. elim (w.only d h) [ inl o ↦ s.apart d g o (older d q (within d) refl) | inr o ↦ absurd (true≢false (sym (z.whole d (cell_orbit (entry N table) n δ k d (part_cell (entry N table) n δ k d o))) ∙ q)) ];
          passed = below_more (λ d. P d → within' d ≡ false → WouldBeMarked (entry N table) n δ d) k (λ d l g q. s.passed d l g (older d q (within d) refl)) (λ g q. absurd (true≢false (sym (z.whole k here) ∙ q)));
        }
          where
            older : (d : ℕ) → within' d ≡ false → (b : Bool) → within d ≡ b → within d ≡ false
            older d q true r = absurd (true≢false (sym (z.kept d r) ∙ q))
            older d q false r = r

            joined : Part (entry N table) n δ k (entry N table (δ + 1) k)
            joined = elim (w.only (entry N table (δ + 1) k) f) [ inl o ↦ absurd (true≢false (sym o ∙ before)) | inr o ↦ o ]

            one_part : (d : ℕ) → P d → Cell (entry N table) n δ k d → WouldBeMarked (entry N table) n δ d → ⊥
            one_part d g c m =
                let back = cell_back (entry N table) n δ P v k d p c in
                two_apart (entry N table) n δ P v below d k g m.removable m.two back joined

    -- at the end the set has the darts that would not be marked
    pub divided : (within parts : ℕ → Bool) → Dividing within parts N → Lacks n N table (WouldBeMarked (entry N table) n δ) within
    divided within parts s d ld p = go (within d) refl
      where
        go : (b : Bool) → within d ≡ b → ((within d ≡ true) × (WouldBeMarked (entry N table) n δ d → ⊥)) ⊎ ((within d ≡ false) × WouldBeMarked (entry N table) n δ d)
        go true q = inl (q, s.unmarked d (ld, p) q)
        go false q = inr (q, s.passed d ld (ld, p) q)
