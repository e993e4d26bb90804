-- Where the entries of a table lie. Assumes nothing.
use mathlib.Core.List.{List}
use Prim.Native.Nat.{ℕ, ◌+◌, ◌*◌, ◌≤◌, ◌<◌}
use native.Mathlib.Omega.{arith}
use lib.ListN.{length}
use Rattle.laws.proofs.Tables.{in_table, table_size}
use Rattle.answers.specs.Rows.{Rows}

-- what `at` asks
pub rows_entry : (n N : ℕ) (table : List ℕ) → Rows n N table → (i d : ℕ) → i ≤ n → d < N → (i * N + d < length table) × (length table ≤ 20480)
rows_entry n N table r i d li ld =
    let s = table_size n N i r.dimension r.darts li in
    (omega (arith, r.exact, in_table n N i d li ld), omega (arith, r.exact, s.1))
