-- `combinatorial::exporting::alternates` meets its contract. The invariant: the darts passed alternate. Assumes nothing.
use mathlib.Core.Path.{◌≡◌}
use mathlib.Core.Bool.{true}
use Prim.Native.Nat.{ℕ, ◌*◌, ◌≤◌, ◌<◌}
use Rattle.maps.specs.Table.{entry}
use Rattle.combinatorial.specs.Back.{alternates_at}
use Rattle.combinatorial.proofs.exporting.alternates.Given as goal

abbrev pub invariant-loop-d : goal.invariant-loop-d
invariant-loop-d l = (l.d ≤ l.d-end) × ((x : ℕ) → x < l.d → alternates_at (entry l.table.darts l.table.entries.now) (2 * x) ≡ true)
