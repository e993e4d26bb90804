-- `cells::mark::Marking::divide` meets its contract. The invariant: of the darts passed, those outside the set lie in cells of two parts. Assumes nothing.
use Prim.Native.Nat.{◌≤◌}
use Rattle.orbits.specs.Search.{has, Room}
use Rattle.cells.proofs.Dividing.{Dividing}
use Rattle.cells.proofs.mark.Marking.divide.Given as goal

abbrev pub invariant-loop-d : goal.invariant-loop-d
invariant-loop-d l = (l.d ≤ l.self.table.darts) × Dividing l.self.table.n.0 l.self.table.darts l.self.table.entries.now l.self.dimension.0 (has l.reached) (has l.parts) l.d × Room l.reached l.queue × Room l.parts l.queue
