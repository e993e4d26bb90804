-- `kernels::Kernel::relink_alike` meets its contract. The invariant: whichever table it began with, a link is set at both ends or as before, by whether it passes one of the darts passed first or last; the turns are those of the links begun since; and only darts of the mark are passed. The measure is the darts left. Assumes nothing.
use Prim.Native.Nat.{◌-◌, ◌≤◌}
use Rattle.kernels.specs.Relinked.{Relinks}
use Rattle.kernels.proofs.Kernel.relink_alike.Given as goal

abbrev pub invariant-loop-d : goal.invariant-loop-d
invariant-loop-d l = (l.start ≤ l.d) × Relinks l.self l.initial.table l.start l.table l.d l.turns

abbrev pub decreases-loop-d : goal.decreases-loop-d
decreases-loop-d l = l.darts - l.d
