-- `reading::walk` meets its contract. The invariant: the whole walk is the rest of it, from row t of a dart, and the darts passed give the level so far. The measure: the reads that are left. Assumes nothing.
use Prim.Native.Nat.{◌+◌, ◌-◌, ◌*◌}
use Rattle.answers.specs.Pyramid.{folded}
use Rattle.reading.proofs.Walking.{Next}
use Rattle.reading.proofs.walk.Given as goal

abbrev pub invariant-loop-asked : goal.invariant-loop-asked
invariant-loop-asked l = Next (folded l.pyramid) l.asked.level.0 l.asked.involution.0 l.asked.dart l.t.0 l.from l.count l.since.0

abbrev pub decreases-loop-asked : goal.decreases-loop-asked
decreases-loop-asked l = 1 + 2 * l.darts - l.count
