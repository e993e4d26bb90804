-- `kernels::Kernel::follow` meets its contract. The invariant: e is of the kernel, with the mark and the rows at hand, and what is left to follow from it ends where all of it does, with the turns that are left. The measure is how many these may be. Assumes nothing.
use Prim.Native.Nat.{◌-◌}
use Rattle.kernels.proofs.Relinks.{Following}
use Rattle.kernels.proofs.Kernel.follow.Given as goal

abbrev pub invariant-loop-turns : goal.invariant-loop-turns
invariant-loop-turns l = Following l.darts l.self.level.0 l.self.lambda.now l.self.delta.now l.table l.i.0 l.initial.e l.mark.0 l.rows.1.0 l.turns l.e

abbrev pub decreases-loop-turns : goal.decreases-loop-turns
decreases-loop-turns l = l.darts - l.turns
