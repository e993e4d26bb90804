-- The proof of the cycle of calls {reading, walk}. Twice the level falls, with one more for `reading`.
-- The invariant: the walk from the start is the walk from a place that it has come to, whose reading has met a dart. The loop's measure is the entries left to read.
-- Assumes nothing.
use Prim.Native.Nat.{◌+◌, ◌-◌, ◌*◌}
use Rattle.answers.specs.Pyramid.{folded}
use Rattle.by_levels.proofs.Readings.{Underway}
use Rattle.by_levels.proofs.+reading_walk.Given as goal

abbrev pub decreases-reading : goal.decreases-reading
decreases-reading l = 2 * l.l.0 + 1

abbrev pub decreases-walk : goal.decreases-walk
decreases-walk l = 2 * l.l.0

abbrev pub invariant-walk-loop-l : goal.invariant-walk-loop-l
invariant-walk-loop-l l = Underway (folded l.pyramid) l.l.0 l.from l.met

abbrev pub decreases-walk-loop-l : goal.decreases-walk-loop-l
decreases-walk-loop-l l = 2 + 2 * l.pyramid.sizes.darts - l.met.count
