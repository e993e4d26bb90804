-- `carrying::date` meets its contract. The invariant: the links that lead to darts passed have their new number, the others are as before. The measure is the darts left. Assumes nothing.
use Prim.Native.Nat.{suc, ◌-◌}
use Rattle.kernels.specs.Strings.{kernel_row}
use Rattle.carrying.proofs.Leading.{LedTo}
use Rattle.carrying.proofs.date.Given as goal

abbrev pub invariant-loop-d : goal.invariant-loop-d
invariant-loop-d l = LedTo l.kernel.n.0 l.darts (kernel_row l.kernel.lambda.now l.kernel.delta.now l.kernel.level.0) l.block (λ _ _. suc l.kernel.level.0) l.initial.since l.since l.d

abbrev pub decreases-loop-d : goal.decreases-loop-d
decreases-loop-d l = l.darts - l.d
