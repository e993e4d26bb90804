-- `bases::darts_valid` meets its contract. The invariant: no dart before d is refused. Assumes nothing.
use mathlib.Core.Path.{◌≡◌}
use mathlib.Core.Bool.{true, not}
use Prim.Native.Nat.{ℕ, ◌≤◌, ◌<◌}
use lib.Dec.{eqb}
use Rattle.bases.specs.InTable.{present_if}
use Rattle.bases.specs.Valid.{ValidAt}
use Rattle.bases.proofs.darts_valid.Given as goal

abbrev pub invariant-loop-d : goal.invariant-loop-d
invariant-loop-d g l = (k : ℕ) → k < l.d → present_if (not (eqb g.row.EXPLICIT 0)) l.table.darts l.table.entries.now k ≡ true → (i : ℕ) → i ≤ g.row.N → ValidAt g.row.N l.table.darts l.table.entries.now i k
