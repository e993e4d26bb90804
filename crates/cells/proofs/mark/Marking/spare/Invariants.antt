-- `cells::mark::Marking::spare` meets its contract. The invariant: of the pieces that would be marked as a whole, those of the darts passed have the cell of their lowest dart in the set, for whichever dimension the choice is of. Assumes nothing.
use mathlib.Core.Path.{◌≡◌}
use Prim.Native.Nat.{ℕ, ◌≤◌, ◌<◌}
use Rattle.maps.specs.Table.{entry}
use Rattle.maps.specs.MarkCells.{WouldBeMarked}
use Rattle.orbits.specs.Choices.{uses}
use Rattle.orbits.specs.Search.{has, Room}
use Rattle.orbits.specs.Orbits.{Closed}
use Rattle.orbits.specs.Explicit.{but}
use Rattle.cells.specs.Marked.{Lacks}
use Rattle.cells.proofs.Sparing.{Sparing}
use Rattle.cells.proofs.mark.Marking.spare.Given as goal

abbrev pub invariant-loop-d : goal.invariant-loop-d
invariant-loop-d l = (l.d ≤ l.self.table.darts)
    × ((δ : ℕ) → ((j : ℕ) → j < 5 → uses l.left j ≡ but δ j) → Closed (entry l.self.table.darts l.self.table.entries.now) l.self.table.n.0 (λ j d. but δ j) (has l.initial.reached) → Lacks l.self.table.n.0 l.self.table.darts l.self.table.entries.now (WouldBeMarked (entry l.self.table.darts l.self.table.entries.now) l.self.table.n.0 δ) (has l.initial.reached)
    → Sparing l.self.table.n.0 l.self.table.darts l.self.table.entries.now δ (has l.initial.reached) (has l.reached) (has l.pieces) l.d)
    × Room l.reached l.queue
    × Room l.pieces l.queue
