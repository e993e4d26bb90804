-- Laws of orbits: joined, turned round, and in a set that no row used leads out of. Assumes nothing.
use mathlib.Core.Path.{◌≡◌}
use mathlib.Core.Bool.{Bool, true}
use Prim.Native.Nat.{ℕ}
use Rattle.maps.specs.Map.{Involutions}
use Rattle.maps.specs.Orbit.{Orbit, here, further, TwoWay}
use Rattle.orbits.specs.Orbits.{Closed}

module _ (a : Involutions) (n : ℕ) (uses : ℕ → ℕ → Bool) where
  -- what is reached from a dart reached is reached
  pub orbit_join : (x y z : ℕ) → Orbit a n uses x y → Orbit a n uses y z → Orbit a n uses x z
  orbit_join x y _ o here = o
  orbit_join x y _ o (further d j p lj u) = further d j (orbit_join x y d o p) lj u

  -- a set that no row used leads out of has the whole orbit of each of its darts
  pub closed_orbit : (within : ℕ → Bool) → Closed a n uses within → (x y : ℕ) → within x ≡ true → Orbit a n uses x y → within y ≡ true
  closed_orbit within c x _ h here = h
  closed_orbit within c x _ h (further d j o lj u) = c d j (closed_orbit within c x d h o) lj u

  module _ (present : ℕ → Type 0) (w : TwoWay a n present uses) where
    -- an orbit stays among the darts present
    pub orbit_present : (x y : ℕ) → present x → Orbit a n uses x y → present y
    orbit_present x _ p here = p
    orbit_present x _ p (further d j o lj u) = w.inside j d lj (orbit_present x d p o) u

    -- each row used leads back
    pub orbit_back : (x y : ℕ) → present x → Orbit a n uses x y → Orbit a n uses y x
    orbit_back x _ p here = here
    orbit_back x _ p (further d j o lj u) =
        let q = orbit_present x d p o in
        let e : a j (a j d) ≡ d = w.twice j d lj q u in
        let back : Orbit a n uses (a j d) (a j (a j d)) = further (a j d) j here lj (w.both j d lj q u) in
        orbit_join (a j d) d x (rw e at back) (orbit_back x d p o)
