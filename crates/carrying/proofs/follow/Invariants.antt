-- `carrying::follow` meets its contract. The invariant: e is of the kernel with row i, and what is summed with what is left to sum from it is all of it. The measure is how many turns may be left. Assumes nothing.
use Prim.Native.Nat.{◌-◌}
use Rattle.carrying.proofs.Summing.{Summing}
use Rattle.carrying.proofs.follow.Given as goal

abbrev pub invariant-loop-turns : goal.invariant-loop-turns
invariant-loop-turns l = Summing l.darts l.kernel.level.0 l.kernel.lambda.now l.kernel.delta.now l.block l.reads l.i.0 l.initial.e l.sum l.turns l.e

abbrev pub decreases-loop-turns : goal.decreases-loop-turns
decreases-loop-turns l = l.darts - l.turns
