-- `filling::onward` meets its contract. The invariant: a dart was met by row t that is not on the level, the whole walk goes on from it, and one more than the largest Λ so far is the level so far. The measure: the reads that are left. Assumes nothing.
use Prim.Native.Nat.{◌+◌, ◌-◌, ◌*◌, ◌<◌}
use Rattle.answers.specs.Pyramid.{folded}
use Rattle.reading.proofs.Walking.{Met}
use Rattle.filling.proofs.onward.Given as goal

abbrev pub invariant-loop-row : goal.invariant-loop-row
invariant-loop-row l = (l.largest.0 < l.asked.level.0) × Met (folded l.pyramid) l.asked.level.0 l.asked.involution.0 l.asked.dart l.t.0 l.from l.count (l.largest.0 + 1)

abbrev pub decreases-loop-row : goal.decreases-loop-row
decreases-loop-row l = 1 + 2 * l.darts - l.count
