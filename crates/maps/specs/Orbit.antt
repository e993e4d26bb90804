-- Orbits: what a dart reaches by rows that are chosen for each dart. Assumes nothing: these are definitions.
use Rattle.std.specs.Prelude.{◌≡◌, Bool, true, ℕ, ◌≤◌}
use Rattle.maps.specs.Map.{Involutions}

-- Scope: 'Cells'. The orbit of a dart: itself, and what a dart of the orbit leads to by a row that is used from it (uses j d: row j is used from dart d). Of a cell every row but one is used, from every dart.
pub data Orbit (a : Involutions) (n : ℕ) (uses : ℕ → ℕ → Bool) (dart : ℕ) : ℕ → Type 0 where
  here : Orbit a n uses dart dart
  further : (d j : ℕ) → Orbit a n uses dart d → j ≤ n → uses j d ≡ true → Orbit a n uses dart (a j d)

-- Scope: 'Cells'. What an orbit needs to be the same from each of its darts: the rows used lead to darts present, and back.
pub record TwoWay (a : Involutions) (n : ℕ) (present : ℕ → Type 0) (uses : ℕ → ℕ → Bool) : Type 0 where
  pub inside : (j d : ℕ) → j ≤ n → present d → uses j d ≡ true → present (a j d)
  pub twice : (j d : ℕ) → j ≤ n → present d → uses j d ≡ true → a j (a j d) ≡ d
  pub both : (j d : ℕ) → j ≤ n → present d → uses j d ≡ true → uses j (a j d) ≡ true
