-- Laws of cells: a cell is the orbit by every row but one; joined, of darts present alone, the same from each dart. Assumes nothing.
use mathlib.Core.Path.{◌≡◌}
use Prim.Native.Nat.{ℕ}
use lib.Dec.{eqb}
use borrow.Author.Tests.{eqb-false, ne_eqb, not-true}
use Rattle.maps.specs.Map.{Involutions, Valid}
use Rattle.maps.specs.Cell.{Cell, itself, onward}
use Rattle.maps.specs.Orbit.{Orbit, here, further}
use Rattle.orbits.specs.Explicit.{but}

module _ (a : Involutions) (n δ : ℕ) where
  -- a cell is the orbit by every row but one
  pub cell_orbit : (x y : ℕ) → Cell a n δ x y → Orbit a n (λ j d. but δ j) x y
  cell_orbit x _ itself = here
  cell_orbit x _ (onward d j c lj ne) = further d j (cell_orbit x d c) lj (rw (ne_eqb j δ ne))

  pub orbit_cell : (x y : ℕ) → Orbit a n (λ j d. but δ j) x y → Cell a n δ x y
  orbit_cell x _ here = itself
  orbit_cell x _ (further d j o lj u) = onward d j (orbit_cell x d o) lj (eqb-false j δ (not-true (eqb j δ) u))

  -- what is reached from a dart of a cell is in it
  pub cell_join : (x y z : ℕ) → Cell a n δ x y → Cell a n δ y z → Cell a n δ x z
  cell_join x y _ c itself = c
  cell_join x y _ c (onward d j e lj ne) = onward d j (cell_join x y d c e) lj ne

module _ (a : Involutions) (n δ : ℕ) (present : ℕ → Type 0) (v : Valid a n present) where
  -- a cell has darts present alone
  pub cell_present : (x y : ℕ) → present x → Cell a n δ x y → present y
  cell_present x _ h itself = h
  cell_present x _ h (onward d j c lj ne) = v.inside j d lj (cell_present x d h c)

  -- and is the same from each of them
  pub cell_back : (x y : ℕ) → present x → Cell a n δ x y → Cell a n δ y x
  cell_back x _ h itself = itself
  cell_back x _ h (onward d j c lj ne) =
      let e : a j (a j d) ≡ d = v.twice j d lj (cell_present x d h c) in
      let back : Cell a n δ (a j d) (a j (a j d)) = onward (a j d) j itself lj ne in
      cell_join a n δ (a j d) d x (rw e at back) (cell_back x d h c)
