-- `climbing::go_on` meets its contract. The invariant: from whichever base the climb came, the kernels passed are accepted, and the table holds the level that they leave. The measure is the kernels left. Assumes nothing.
use mathlib.Core.List.{List}
use Prim.Native.Nat.{ℕ, ◌-◌, ◌≤◌}
use Rattle.climbing.specs.Climb.{Climbed, over}
use Rattle.climbing.proofs.go_on.Given as goal

abbrev pub invariant-loop-l : goal.invariant-loop-l
invariant-loop-l l = (l.l ≤ l.l-end) × ((rows : List ℕ) → Climbed (over l.pyramid rows) l.fn.from.0 l.strings.head l.strings.next l.fn.table → Climbed (over l.pyramid rows) l.l l.strings.head l.strings.next l.table)

abbrev pub decreases-loop-l : goal.decreases-loop-l
decreases-loop-l l = l.l-end - l.l
