-- Laws of counting the cells that have one of some darts, in whatever order these come: each search from a dart that is not reached yet adds one cell, so one lowest dart. Assumes nothing.
use mathlib.Core.Path.{◌≡◌, refl, sym, ap, ◌∙◌}
use mathlib.Core.Logic.{◌⊎◌, inl, inr}
use mathlib.Core.Bool.{Bool, true, false, cond, true≢false}
use mathlib.Core.List.{List}
use Prim.Native.Nat.{ℕ, zero, suc, ◌+◌, ◌<◌}
use native.Mathlib.Omega.{arith}
use lib.ListN.{get_or}
use lib.Dec.{eqb}
use borrow.Author.Tests.{eqb-true, eqb-false, eq-eqb}
use Rattle.maps.specs.Count.{count}
use Rattle.maps.specs.Cell.{Cell}
use Rattle.maps.specs.Orbit.{here}
use Rattle.maps.specs.Table.{entry}
use Rattle.maps.specs.Explicit.{present}
use Rattle.maps.specs.Census.{Lowest, CellCount}
use Rattle.laws.proofs.Counting.{minus, minus_other, count_same, count_minus}
use Rattle.orbits.specs.Orbits.{Added}
use Rattle.orbits.proofs.Orbits.{closed_orbit}
use Rattle.orbits.specs.Explicit.{ExplicitLevel, but}
use Rattle.orbits.proofs.Explicit.{Present, level_valid}
use Rattle.orbits.proofs.Cells.{cell_orbit, orbit_cell, cell_present, cell_back}
use Rattle.counting.specs.Counts.{Listed, Met}
use Rattle.counting.proofs.Survivors.{cell_lowest, lowest_one}

-- a test that holds of one number more
abbrev with_one : (ℕ → Bool) → ℕ → ℕ → Bool
with_one p m d = cond (eqb d m) true (p d)

with_old : (p : ℕ → Bool) (m d : ℕ) → p d ≡ true → with_one p m d ≡ true
with_old p m d h = go (eqb d m)
  where
    go : (b : Bool) → cond b true (p d) ≡ true
    go true = refl
    go false = h

with_new : (p : ℕ → Bool) (m d : ℕ) → with_one p m d ≡ true → (d ≡ m) ⊎ (p d ≡ true)
with_new p m d h = go (eqb d m) refl h
  where
    go : (b : Bool) → eqb d m ≡ b → cond b true (p d) ≡ true → (d ≡ m) ⊎ (p d ≡ true)
    go true q f = inl (eqb-true d m q)
    go false q f = inr f

with_more : (p : ℕ → Bool) (m N : ℕ) → m < N → p m ≡ false → count (with_one p m) N ≡ count p N + 1
with_more p m N l h =
    let here : with_one p m m ≡ true = rw (eq-eqb m m refl) in
    let e = count_minus (with_one p m) m N l here in
    let f : count (minus (with_one p m) m) N ≡ count p N = count_same (minus (with_one p m) m) p N (λ y k. go y (eqb y m) refl) in
    omega arith
  where
    go : (y : ℕ) (b : Bool) → eqb y m ≡ b → minus (with_one p m) m y ≡ p y
    go y true q = let e : y ≡ m = eqb-true y m q in rw (e, eq-eqb m m refl) (sym h)
    go y false q = let ne : y ≡ m → ⊥ = eqb-false y m q in minus_other (with_one p m) m y ne ∙ rw q

nothing : (m : ℕ) → count (λ d. false) m ≡ 0
unfolding count
nothing zero = refl
nothing (suc m) = let e = nothing m in omega arith

module _ (n N : ℕ) (table : List ℕ) (i : ℕ) (starts by : List ℕ) where
  -- it begins with no dart
  pub met_none : (within : ℕ → Bool) → ((d : ℕ) → within d ≡ false) → Met (entry N table) n N i (Listed starts by i 0) within 0
  met_none within empty = record {
    closed = λ d j h. absurd (true≢false (sym h ∙ empty d));
    has_starts = λ d w. absurd (omega (arith, w.1));
    source = λ e h. absurd (true≢false (sym h ∙ empty e));
    counted = λ d. false;
    inside = λ d h. absurd (true≢false (sym h));
    only = λ d h. absurd (true≢false (sym h));
    every = λ d h. absurd (true≢false (sym h ∙ empty d));
    is = sym (nothing N);
  }

  module _ (level : ExplicitLevel n N table) (within : ℕ → Bool) (k number : ℕ) (s : Met (entry N table) n N i (Listed starts by i k) within number) where
    later : (d : ℕ) → Listed starts by i k d → Listed starts by i (k + 1) d
    later d w = (w.0, omega (arith, w.1), w.2, w.3)

    -- what holds of the starts before and of the next holds of all
    by_place : (Q : ℕ → Type 0) → ((d : ℕ) → Listed starts by i k d → Q d) → ((get_or by k 0 ≡ i → ⊥) → Q (get_or starts k 0)) → (d : ℕ) → Listed starts by i (k + 1) d → Q d
    by_place Q old new d w = go (eqb w.0 k) refl
      where
        go : (b : Bool) → eqb w.0 k ≡ b → Q d
        go true q =
            let e : w.0 ≡ k = eqb-true w.0 k q in
            let is : get_or starts k 0 ≡ d = ap (λ (x : ℕ). get_or starts x 0) (sym e) ∙ w.2 in
            let there : Q (get_or starts k 0) = new (λ f. w.3 (ap (λ (x : ℕ). get_or by x 0) e ∙ f)) in
            rw is at there
        go false q = let ne : w.0 ≡ k → ⊥ = eqb-false w.0 k q in old d (w.0, omega (arith, w.1), w.2, w.3)

    -- a dart that is reached, or came by a_i, is passed over
    pub met_pass : ((get_or by k 0 ≡ i → ⊥) → within (get_or starts k 0) ≡ true) → Met (entry N table) n N i (Listed starts by i (k + 1)) within number
    met_pass f = record {
      closed = s.closed;
      has_starts = by_place (λ d. within d ≡ true) s.has_starts f;
      source = λ e h. let w = s.source e h in (w.0, later w.0 w.1, w.2);
      counted = s.counted;
      inside = s.inside;
      only = s.only;
      every = s.every;
      is = s.is;
    }

    -- any other adds its cell
    module _ (p : Present n N table (get_or starts k 0)) (ne : get_or by k 0 ≡ i → ⊥) (out : within (get_or starts k 0) ≡ false) (new : ℕ → Bool) (w : Added (entry N table) n (λ j d. but i j) (get_or starts k 0) within new) where
      abbrev x : ℕ
      x = get_or starts k 0

      abbrev lowest : (m : ℕ) × Present n N table m × Cell (entry N table) n i x m × Lowest (entry N table) n i m
      lowest = cell_lowest n N table level i x p

      -- which no cell before has
      fresh : s.counted lowest.0 ≡ false
      fresh = go (s.counted lowest.0) refl
        where
          go : (b : Bool) → s.counted lowest.0 ≡ b → s.counted lowest.0 ≡ false
          go true q =
              let back = cell_orbit (entry N table) n i lowest.0 x (cell_back (entry N table) n i (Present n N table) (level_valid n N table level) x lowest.0 p lowest.2) in
              absurd (true≢false (sym (closed_orbit (entry N table) n (λ j d. but i j) within s.closed lowest.0 x (s.inside lowest.0 q) back) ∙ out))
          go false q = q

      pub met_add : Met (entry N table) n N i (Listed starts by i (k + 1)) new (number + 1)
      met_add = record {
        closed = w.closed;
        has_starts = by_place (λ d. new d ≡ true) (λ d l. w.kept d (s.has_starts d l)) (λ f. w.whole x here);
        source = λ e h. elim (w.only e h) [ inl o ↦ let r = s.source e o in (r.0, later r.0 r.1, r.2) | inr o ↦ (x, (k, omega arith, refl, ne), orbit_cell (entry N table) n i x e o) ];
        counted = with_one s.counted lowest.0;
        inside = λ d h. elim (with_new s.counted lowest.0 d h) [ inl e ↦ rw e (w.whole lowest.0 (cell_orbit (entry N table) n i x lowest.0 lowest.2)) | inr q ↦ w.kept d (s.inside d q) ];
        only = λ d h. elim (with_new s.counted lowest.0 d h) [ inl e ↦ rw e lowest.3 | inr q ↦ s.only d q ];
        every = λ d h low. elim (w.only d h) [
          | inl o ↦ with_old s.counted lowest.0 d (s.every d o low)
          | inr o ↦
              let e : d ≡ lowest.0 = lowest_one n N table level i x d lowest.0 p (orbit_cell (entry N table) n i x d o) lowest.2 low lowest.3 in
              rw (e, eq-eqb lowest.0 lowest.0 refl)
        ];
        is = ap (λ (m : ℕ). m + 1) s.is ∙ sym (with_more s.counted lowest.0 N lowest.1.0 fresh);
      }

  -- where every dart present is a start, all cells are counted
  pub met_all : ExplicitLevel n N table → (within : ℕ → Bool) (k number : ℕ) → ((d : ℕ) → Present n N table d → Listed starts by i k d) → ((d : ℕ) → Listed starts by i k d → Present n N table d) → Met (entry N table) n N i (Listed starts by i k) within number
      → CellCount (entry N table) n N (present N table) i number
  met_all level within k number all there s = record {
    counted = s.counted;
    only = λ d l q. let w = s.source d (s.inside d q) in ((cell_present (entry N table) n i (Present n N table) (level_valid n N table level) w.0 d (there w.0 w.1) w.2).1, s.only d q);
    every = λ d l p low. s.every d (s.has_starts d (all d (l, p))) low;
    is = s.is;
  }
