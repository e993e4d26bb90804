-- `counting::count_levels` meets its contract. The invariant: the climb has come to a level, which the table holds, and the levels up to it are counted. Assumes nothing.
use Prim.Native.Nat.{◌+◌, ◌≤◌}
use Rattle.answers.specs.Pyramid.{folded}
use Rattle.climbing.specs.Climb.{Climbed}
use Rattle.counting.specs.Counts.{Counted}
use Rattle.counting.proofs.count_levels.Given as goal

abbrev pub invariant-loop-l : goal.invariant-loop-l
invariant-loop-l l = (l.l ≤ l.top)
    × Climbed (folded l.pyramid) l.l l.strings.head l.strings.next l.table
    × Counted (folded l.pyramid) l.counts (l.l + 1)
