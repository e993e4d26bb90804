-- `cells::mark::Marking::fill` meets its contract. The invariant: the darts passed have their marks. Assumes nothing.
use mathlib.Core.Path.{◌≡◌}
use Prim.Native.Nat.{ℕ, ◌≤◌, ◌<◌}
use lib.ListN.{length, get_or}
use Rattle.orbits.specs.Search.{has}
use Rattle.cells.specs.Marked.{marks_of}
use Rattle.cells.proofs.mark.Marking.fill.Given as goal

abbrev pub invariant-loop-d : goal.invariant-loop-d
invariant-loop-d l = (l.d ≤ l.self.table.darts) × (length l.out ≡ length l.initial.out) × ((k : ℕ) → k < l.d → get_or l.out k 0 ≡ marks_of l.self.table.darts l.self.table.entries.now l.self.dimension.0 (has l.reached) k)
