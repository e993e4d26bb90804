-- `cells::mark::Marking::break_pieces` meets its contract. The invariant: the set has the pieces of the darts passed that are in the other. Assumes nothing.
use mathlib.Core.Bool.{Bool, true, ◌&&◌}
use mathlib.Core.List.{List}
use Prim.Native.Nat.{ℕ, ◌≤◌}
use Rattle.maps.specs.Explicit.{present}
use Rattle.orbits.specs.Search.{has, Room}
use Rattle.cells.specs.Marked.{Gathered}
use Rattle.cells.proofs.mark.Marking.break_pieces.Given as goal

-- the darts that are present and in the set
abbrev pub starts : ℕ → List ℕ → List Bool → ℕ → Bool
starts N table reached d = present N table d && has reached d

abbrev pub invariant-loop-d : goal.invariant-loop-d
invariant-loop-d l = (l.d ≤ l.self.table.darts) × Gathered l.self.table.n.0 l.self.table.darts l.self.table.entries.now (λ j. true) (starts l.self.table.darts l.self.table.entries.now l.reached) (has l.pieces) l.d × Room l.pieces l.queue
