-- `bases::row_kept` meets its contract. The invariant: a yes says that each entry passed is kept. Assumes nothing.
use mathlib.Core.Path.{◌≡◌}
use mathlib.Core.Bool.{true}
use Prim.Native.Nat.{ℕ, ◌<◌}
use Rattle.bases.specs.Valid.{Kept}
use Rattle.bases.proofs.row_kept.Given as goal

abbrev pub invariant-loop-d : goal.invariant-loop-d
invariant-loop-d l = l.kept ≡ true → (k : ℕ) → k < l.d → Kept l.table.darts l.table.entries.now l.i.0 k
