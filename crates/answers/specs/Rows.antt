-- A table of rows, of the exact length. Assumes nothing: these are definitions.
use Rattle.std.specs.Prelude.{◌≡◌, Bool, List, ℕ, suc, ◌+◌, ◌*◌, ◌≤◌, ◌<◌, length, eqb}
use Rattle.maps.specs.Table.{entry}

-- n+1 rows of N entries, n and N in their bounds
pub record Rows (n N : ℕ) (table : List ℕ) : Type 0 where
  pub dimension : n ≤ 4
  pub darts : N ≤ 4096
  pub exact : length table ≡ suc n * N

-- whether dart d ends at the same place by row i and then j as by j and then i
abbrev pub ends_alike : ℕ → List ℕ → ℕ → ℕ → ℕ → Bool
ends_alike N table i j d = eqb (entry N table j (entry N table i d)) (entry N table i (entry N table j d))

-- rows i and j lie in a table that is no longer than 5 rows of 4,096, and lead from dart d to darts
pub record Corner (N : ℕ) (table : List ℕ) (i j d : ℕ) : Type 0 where
  pub row_i : i * N + N ≤ length table
  pub row_j : j * N + N ≤ length table
  pub small : length table ≤ 20480
  pub dart : d < N
  pub by_i : entry N table i d < N
  pub by_j : entry N table j d < N
