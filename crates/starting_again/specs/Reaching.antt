-- What removing the kernels below a level asks. Assumes nothing: these are definitions.
use Rattle.std.specs.Prelude.{◌≡◌, List, ℕ, ◌≤◌}
use Rattle.maps.specs.Verdict.{accepted}
use Rattle.maps.specs.Folded.{Folded, of_parts}
use Rattle.maps.specs.CheckPyramid.{table_at}
use Rattle.climbing.specs.Climb.{Base, climbs}

-- base and marks of an accepted pyramid, and level l is one of its levels
pub record Reached (P : Folded) (l : ℕ) : Type 0 where
  pub base : Base P
  pub climbed : climbs P ≡ accepted
  pub low : l ≤ P.h

-- of some height
abbrev pub HasLevel : ℕ → ℕ → List ℕ → List ℕ → List ℕ → ℕ → Type 0
HasLevel n N rows lambda delta l = (h : ℕ) × Reached (of_parts n N h rows lambda delta) l

-- rows that hold level l, whatever the height is
abbrev pub HoldsLevel : ℕ → ℕ → List ℕ → List ℕ → List ℕ → ℕ → List ℕ → Type 0
HoldsLevel n N rows lambda delta l after = (h : ℕ) → Reached (of_parts n N h rows lambda delta) l → after ≡ table_at (of_parts n N h rows lambda delta) l
