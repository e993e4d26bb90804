-- `stacking::climb` meets its contract. The invariant: the kernels passed are accepted, and the blocks up to the level that they leave hold the levels. The measure is the kernels left. Assumes nothing.
use Prim.Native.Nat.{◌-◌}
use Rattle.answers.specs.Pyramid.{folded}
use Rattle.stacking.proofs.Stacks.{Stacking}
use Rattle.stacking.proofs.climb.Given as goal

abbrev pub invariant-loop-l : goal.invariant-loop-l
invariant-loop-l l = Stacking (folded l.pyramid) l.initial.tables l.tables l.l l.from

abbrev pub decreases-loop-l : goal.decreases-loop-l
decreases-loop-l l = l.top - l.l
