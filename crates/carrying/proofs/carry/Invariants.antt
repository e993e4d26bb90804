-- `carrying::carry` meets its contract. The invariant: the links that lead to darts passed have their new number, the others are as before. The measure is the darts left. Assumes nothing.
use Prim.Native.Nat.{◌-◌}
use Rattle.kernels.specs.Strings.{kernel_row}
use Rattle.carrying.specs.Carried.{counted}
use Rattle.carrying.proofs.Leading.{LedTo}
use Rattle.carrying.proofs.carry.Given as goal

abbrev pub invariant-loop-d : goal.invariant-loop-d
invariant-loop-d l = LedTo l.kernel.n.0 l.darts (kernel_row l.kernel.lambda.now l.kernel.delta.now l.kernel.level.0) l.block (counted l.kernel.n.0 l.darts (kernel_row l.kernel.lambda.now l.kernel.delta.now l.kernel.level.0) l.block l.initial.reads) l.initial.reads l.reads l.d

abbrev pub decreases-loop-d : goal.decreases-loop-d
decreases-loop-d l = l.darts - l.d
