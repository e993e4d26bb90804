-- Tables: rows of N entries, row 0 first. Assumes nothing: these are definitions.
use Rattle.std.specs.Prelude.{Bool, cond, List, [], ◌∷◌, ◌++◌, ℕ, zero, suc, ◌+◌, ◌*◌, ◌/◌, ◌%◌, get_or}
use Rattle.maps.specs.Map.{Involutions}

-- Scope: 'Sizes'. The rows that a table holds: N entries each, row 0 first.
abbrev pub entry : ℕ → List ℕ → Involutions
entry N table i d = get_or table (i * N + d) 0

-- Scope: 'Mark rows'. Λ, Δ or a mark row: a number for each dart.
abbrev pub each : List ℕ → ℕ → ℕ
each row d = get_or row d 0

-- the list f 0, f 1, .., f (m − 1)
unfoldable pub listed : (ℕ → ℕ) → ℕ → List ℕ
listed f zero = []
listed f (suc m) = listed f m ++ (f m ∷ [])

-- Scope: 'Explicit levels'. What stands in place of a neighbour.
abbrev pub absent : ℕ
absent = 65535

-- Scope: 'Explicit levels'. The table of a level: every entry of a dart that is not present is 65,535.
unfoldable pub explicit : Involutions → ℕ → ℕ → (ℕ → Bool) → List ℕ
explicit a n N present = listed (λ x. cond (present (x % N)) (a (x / N) (x % N)) absent) (suc n * N)
