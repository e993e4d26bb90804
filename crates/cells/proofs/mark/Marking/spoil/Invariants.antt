-- `cells::mark::Marking::spoil` meets its contract. The invariant: the set has the cells of the darts passed that fail. Assumes nothing.
use Prim.Native.Nat.{◌≤◌}
use Rattle.orbits.specs.Search.{has, Room}
use Rattle.orbits.specs.Explicit.{but}
use Rattle.cells.specs.Marked.{failing, Gathered}
use Rattle.cells.proofs.mark.Marking.spoil.Given as goal

abbrev pub invariant-loop-d : goal.invariant-loop-d
invariant-loop-d l = (l.d ≤ l.self.table.darts) × Gathered l.self.table.n.0 l.self.table.darts l.self.table.entries.now (but l.self.dimension.0) (failing l.self.table.n.0 l.self.table.darts l.self.table.entries.now l.self.dimension.0) (has l.reached) l.d × Room l.reached l.queue
