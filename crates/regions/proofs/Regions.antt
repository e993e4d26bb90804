-- Laws of regions of any rows and marks: joined, as orbits, one name for each dart. Assumes nothing.
use mathlib.Core.Path.{◌≡◌, refl, sym, ◌∙◌}
use mathlib.Core.Bool.{Bool, true, false}
use mathlib.Core.List.{List}
use Prim.Native.Nat.{ℕ, suc, ◌+◌, ◌≤◌, ◌<◌}
use native.Mathlib.Omega.{arith}
use lib.Seq.{ext_get_or}
use lib.Dec.{eqb, ltb}
use borrow.Author.Tests.{eqb-true, eq-eqb, ltb-true, ltb-false, lt-ltb, le-ltb}
use Rattle.maps.specs.Map.{Involutions}
use Rattle.maps.specs.Cell.{Cell, itself as cell_itself, onward}
use Rattle.maps.specs.Orbit.{Orbit, here, further}
use Rattle.maps.specs.Table.{each}
use Rattle.maps.specs.Regions.{Region, itself, along, over, RegionName, Named}
use Rattle.laws.proofs.Verdicts.{and_both}
use Rattle.regions.specs.Searches.{region_rows, Lowests}

module _ (a : Involutions) (n : ℕ) (Λ Δ : ℕ → ℕ) (l : ℕ) where
  -- what is reached from a dart reached is reached
  pub region_join : (x y z : ℕ) → Region a n Λ Δ l x y → Region a n Λ Δ l y z → Region a n Λ Δ l x z
  region_join x y _ r itself = r
  region_join x y _ r (along d i s li) = along d i (region_join x y d r s) li
  region_join x y _ r (over d s k e) = over d (region_join x y d r s) k e

  -- two names of one dart are one
  pub name_unique : (x p q : ℕ) → RegionName a n Λ Δ l x p → RegionName a n Λ Δ l x q → p ≡ q
  name_unique x p q r s = omega (arith, r.lowest q s.reached, s.lowest p r.reached)

  -- so any two name rows are equal
  pub named_one : (N : ℕ) (names names' : List ℕ) → Named a n N Λ Δ l names → Named a n N Λ Δ l names' → names ≡ names'
  named_one N names names' r s =
      ext_get_or 0 names names' (r.long ∙ sym s.long) (λ d f. name_unique d (each names d) (each names' d) (r.name d (omega (arith, r.long))) (s.name d (omega (arith, r.long))))

  -- what a dart reaches at level l it reaches at level l+1
  pub region_suc : (x y : ℕ) → Region a n Λ Δ l x y → Region a n Λ Δ (suc l) x y
  region_suc x _ itself = itself
  region_suc x _ (along d i r li) = along d i (region_suc x d r) li
  region_suc x _ (over d r k e) = over d (region_suc x d r) (omega arith) e

  -- rows that lead to darts, used as a region goes on by them
  module _ (N : ℕ) (inside : (j d : ℕ) → j ≤ n → d < N → a j d < N) (uses : ℕ → ℕ → Bool) (is : (j d : ℕ) → j ≤ n → d < N → uses j d ≡ region_rows n Λ Δ l j d) where
    -- a region is an orbit
    region_orbit_inside : (x y : ℕ) → x < N → Region a n Λ Δ l x y → Orbit a n uses x y × (y < N)
    region_orbit_inside x _ lx itself = (here, lx)
    region_orbit_inside x _ lx (along d i r li) =
        let o = region_orbit_inside x d lx r in
        (further d i o.0 (omega arith) (is i d (omega arith) o.1 ∙ rw (lt-ltb i n li)), inside i d (omega arith) o.1)
    region_orbit_inside x _ lx (over d r k e) =
        let o = region_orbit_inside x d lx r in
        (further d n o.0 (omega arith) (is n d (omega arith) o.1 ∙ rw (le-ltb n n (omega arith), lt-ltb (Λ d) l k, eq-eqb (Δ d + 1) n e)), inside n d (omega arith) o.1)

    pub region_orbit : (x y : ℕ) → x < N → Region a n Λ Δ l x y → Orbit a n uses x y
    region_orbit x y lx r = (region_orbit_inside x y lx r).0

    -- and such an orbit is a region
    orbit_region_inside : (x y : ℕ) → x < N → Orbit a n uses x y → Region a n Λ Δ l x y × (y < N)
    orbit_region_inside x _ lx here = (itself, lx)
    orbit_region_inside x _ lx (further d j o lj u) =
        let r = orbit_region_inside x d lx o in
        (go (ltb j n) refl r.0 (sym (is j d lj r.1) ∙ u), inside j d lj r.1)
      where
        go : (b : Bool) → ltb j n ≡ b → Region a n Λ Δ l x d → region_rows n Λ Δ l j d ≡ true → Region a n Λ Δ l x (a j d)
        go true q r v = along d j r (ltb-true j n q)
        go false q r v =
            let e : j ≡ n = omega (arith, ltb-false j n q) in
            let w = and_both (ltb (Λ d) l) (eqb (Δ d + 1) n) (rw q at v) in
            rw e (over d r (ltb-true (Λ d) l w.0) (eqb-true (Δ d + 1) n w.1))

    pub orbit_region : (x y : ℕ) → x < N → Orbit a n uses x y → Region a n Λ Δ l x y
    orbit_region x y lx o = (orbit_region_inside x y lx o).0

    -- so the lowest darts of orbits are the names
    pub lowests_named : (names : List ℕ) → Lowests a n N uses names → Named a n N Λ Δ l names
    lowests_named names low = record {
      long = low.long;
      name = λ d ld.
          let r = low.lowest d ld in
          record { reached = orbit_region d (each names d) ld r.reached; lowest = λ e q. r.least e (region_orbit d e ld q) };
    }

-- at level 0 a region is an n-cell of the base
pub region_base : (a : Involutions) (n : ℕ) (Λ Δ : ℕ → ℕ) (x y : ℕ) → (Region a n Λ Δ 0 x y → Cell a n n x y) × (Cell a n n x y → Region a n Λ Δ 0 x y)
region_base a n Λ Δ x y = (to x y, from x y)
  where
    to : (x y : ℕ) → Region a n Λ Δ 0 x y → Cell a n n x y
    to x _ itself = cell_itself
    to x _ (along d i r li) = onward d i (to x d r) (omega arith) (λ e. omega arith)
    to x _ (over d r k e) = absurd (omega arith)

    from : (x y : ℕ) → Cell a n n x y → Region a n Λ Δ 0 x y
    from x _ cell_itself = itself
    from x _ (onward d j c lj ne) = along d j (from x d c) (omega arith)
