-- `bases::row_valid` meets its contract. The invariant: 7 is due with no row before j. Assumes nothing.
use mathlib.Core.Path.{◌≡◌}
use mathlib.Core.Bool.{false}
use Prim.Native.Nat.{ℕ, ◌+◌, ◌≤◌, ◌<◌}
use Rattle.bases.specs.InTable.{not_commuting_in}
use Rattle.bases.proofs.row_valid.Given as goal

abbrev pub invariant-loop-j : goal.invariant-loop-j
invariant-loop-j l = (l.i.0 + 2 ≤ l.j) × ((f : ℕ) → f < l.j → not_commuting_in false l.table.darts l.table.entries.now l.i.0 f l.d ≡ false)
