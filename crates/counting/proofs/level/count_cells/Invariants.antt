-- `counting::level::count_cells` meets its contract. The invariant: the set has the cells of the darts passed, and their lowest darts are counted, for whichever dimension the choice is of. Assumes nothing.
use mathlib.Core.Path.{◌≡◌}
use Prim.Native.Nat.{ℕ, ◌≤◌, ◌<◌}
use Rattle.orbits.specs.Choices.{uses}
use Rattle.orbits.specs.Search.{has, Room}
use Rattle.orbits.specs.Explicit.{but}
use Rattle.counting.proofs.Counts.{Counting}
use Rattle.counting.proofs.level.count_cells.Given as goal

abbrev pub invariant-loop-d : goal.invariant-loop-d
invariant-loop-d l = (l.d ≤ l.table.darts) × (l.number ≤ l.d) × ((i : ℕ) → ((j : ℕ) → j < 5 → uses l.choice j ≡ but i j) → Counting l.table.n.0 l.table.darts l.table.entries.now i (has l.reached) l.d l.number) × Room l.reached l.queue
