-- `bases::rows_kept` meets its contract. The invariant: each entry of the rows passed is kept. Assumes nothing.
use Prim.Native.Nat.{ℕ, ◌<◌}
use Rattle.bases.specs.Valid.{Kept}
use Rattle.bases.proofs.rows_kept.Given as goal

abbrev pub invariant-loop-i : goal.invariant-loop-i
invariant-loop-i l = (k : ℕ) → k < l.i → (d : ℕ) → d < l.table.darts → Kept l.table.darts l.table.entries.now k d
