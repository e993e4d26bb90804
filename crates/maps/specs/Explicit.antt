-- Explicit levels: the darts present, and when a table is a valid map on them. Assumes nothing: these are definitions.
use Rattle.std.specs.Prelude.{◌≡◌, Bool, true, false, not, List, ℕ, ◌≤◌, ◌<◌, eqb}
use Rattle.maps.specs.Map.{Involutions, Valid}
use Rattle.maps.specs.Table.{entry, absent}

-- Scope: 'Explicit levels'. A dart is absent where row 0 holds 65,535.
abbrev pub present : ℕ → List ℕ → ℕ → Bool
present N table d = not (eqb (entry N table 0 d) absent)

-- Scope: 'Explicit levels'. The darts below N that are present.
abbrev pub There : ℕ → (ℕ → Bool) → ℕ → Type 0
There N present d = (d < N) × (present d ≡ true)

-- Scope: 'Explicit levels'. A valid map on the darts present, and 65,535 at every entry of the others.
pub record Sound (a : Involutions) (n N : ℕ) (present : ℕ → Bool) : Type 0 where
  pub valid : Valid a n (There N present)
  pub empty : (i d : ℕ) → i ≤ n → d < N → present d ≡ false → a i d ≡ absent
