-- Every survivor of a level lies in exactly one counted cell of each dimension. Assumes nothing.
use mathlib.Core.Path.{◌≡◌, refl, sym, ap, ◌∙◌}
use mathlib.Core.Bool.{Bool, true, false, true≢false}
use mathlib.Core.List.{List}
use Prim.Native.Nat.{ℕ, zero, suc, ◌+◌, ◌≤◌, ◌<◌, zero-le}
use native.Mathlib.Omega.{arith}
use lib.Dec.{eqb}
use borrow.Author.Tests.{eqb-true, eqb-false}
use Rattle.maps.specs.Map.{Valid}
use Rattle.maps.specs.Cell.{Cell}
use Rattle.maps.specs.Orbit.{here}
use Rattle.maps.specs.Table.{entry}
use Rattle.maps.specs.Explicit.{present}
use Rattle.maps.specs.Census.{Lowest, CellCount}
use Rattle.orbits.specs.Search.{has}
use Rattle.orbits.specs.Orbits.{Ready}
use Rattle.orbits.proofs.Sets.{none_has}
use Rattle.orbits.proofs.Decided.{none, orbit_set}
use Rattle.orbits.specs.Explicit.{ExplicitLevel, but}
use Rattle.orbits.proofs.Explicit.{Present, level_valid}
use Rattle.orbits.proofs.Cells.{cell_orbit, orbit_cell, cell_join, cell_present, cell_back}

-- the least number that passes a test
least_from : (p : ℕ → Bool) (left k : ℕ) → ((d : ℕ) → p d ≡ true → k ≤ d) → p (k + left) ≡ true → (m : ℕ) × (p m ≡ true) × ((d : ℕ) → p d ≡ true → m ≤ d)
least_from p zero k h q = let e : k + 0 ≡ k = omega arith in (k, ap p (sym e) ∙ q, h)
least_from p (suc left) k h q =
    let e : suc k + left ≡ k + suc left = omega arith in
    go (p k) refl (λ above. least_from p left (suc k) above (ap p e ∙ q))
  where
    other : p k ≡ false → (d : ℕ) → p d ≡ true → (b : Bool) → eqb d k ≡ b → suc k ≤ d
    other r d s true t = absurd (true≢false (sym s ∙ ap p (eqb-true d k t) ∙ r))
    other r d s false t = let ne = eqb-false d k t in omega (arith, h d s)

    go : (b : Bool) → p k ≡ b → (((d : ℕ) → p d ≡ true → suc k ≤ d) → (m : ℕ) × (p m ≡ true) × ((d : ℕ) → p d ≡ true → m ≤ d)) → (m : ℕ) × (p m ≡ true) × ((d : ℕ) → p d ≡ true → m ≤ d)
    go true r f = (k, r, h)
    go false r f = f (λ d s. other r d s (eqb d k) refl)

pub least : (p : ℕ → Bool) (x : ℕ) → p x ≡ true → (m : ℕ) × (p m ≡ true) × ((d : ℕ) → p d ≡ true → m ≤ d)
least p x q = least_from p x 0 (λ d s. zero-le) (let e : 0 + x ≡ x = omega arith in ap p e ∙ q)

module _ (n N : ℕ) (table : List ℕ) (level : ExplicitLevel n N table) (i : ℕ) where
  abbrev P : ℕ → Type 0
  P = Present n N table

  v : Valid (entry N table) n P
  v = level_valid n N table level

  -- a search of the cell may begin at a dart present
  ready : (x : ℕ) → P x → Ready n N table (λ j d. but i j) x (has none)
  ready x p = record {
    rows = level.rows;
    first = p.0;
    inside = λ d j o lj u. (v.inside j d lj (cell_present (entry N table) n i P v x d p (orbit_cell (entry N table) n i x d o))).0;
    closed = λ d j h. absurd (true≢false (sym h ∙ none_has 4096 d));
  }

  -- a cell has a lowest dart
  pub cell_lowest : (x : ℕ) → P x → (m : ℕ) × P m × Cell (entry N table) n i x m × Lowest (entry N table) n i m
  cell_lowest x p =
      let s = orbit_set n N table (λ j d. but i j) x (ready x p) in
      let m = least s.0 x (s.1 x here) in
      let c : Cell (entry N table) n i x m.0 = orbit_cell (entry N table) n i x m.0 (s.2 m.0 m.1) in
      (m.0, cell_present (entry N table) n i P v x m.0 p c, c, λ d e. m.2 d (s.1 d (cell_orbit (entry N table) n i x d (cell_join (entry N table) n i x m.0 d c e))))

  -- and one only
  pub lowest_one : (x y z : ℕ) → P x → Cell (entry N table) n i x y → Cell (entry N table) n i x z → Lowest (entry N table) n i y → Lowest (entry N table) n i z → y ≡ z
  lowest_one x y z h c e f g =
      let to : Cell (entry N table) n i y z = cell_join (entry N table) n i y x z (cell_back (entry N table) n i P v x y h c) e in
      let back : Cell (entry N table) n i z y = cell_join (entry N table) n i z x y (cell_back (entry N table) n i P v x z h e) c in
      omega (arith, f z to, g y back)

  -- so every dart present lies in exactly one counted cell
  pub counted_once : (number : ℕ) (c : CellCount (entry N table) n N (present N table) i number) (x : ℕ) → P x
      → (m : ℕ) × (m < N) × (c.counted m ≡ true) × Cell (entry N table) n i x m × ((z : ℕ) → z < N → c.counted z ≡ true → Cell (entry N table) n i x z → z ≡ m)
  counted_once number c x p =
      let w = cell_lowest x p in
      (w.0, w.1.0, c.every w.0 w.1.0 w.1.1 w.3, w.2, λ z lz q e. lowest_one x z w.0 p e w.2 (c.only z lz q).1 w.3)
