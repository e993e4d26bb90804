-- `kernels::Kernel::fitting` meets its contract. The invariant: the darts of the kernel passed commute. The measure is the darts left. Assumes nothing.
use Prim.Native.Nat.{◌-◌}
use Rattle.kernels.specs.Strings.{kernel_row}
use Rattle.kernels.specs.Walked.{Walk, ten}
use Rattle.kernels.proofs.Kernel.fitting.Given as goal

abbrev pub invariant-loop-d : goal.invariant-loop-d
invariant-loop-d l = Walk l.n.0 l.darts l.self.level.0 l.self.lambda.now l.self.delta.now l.self.next.now l.table (ten l.n.0 l.darts l.self.level.0 (kernel_row l.self.lambda.now l.self.delta.now l.self.level.0) l.table) l.d

abbrev pub decreases-loop-d : goal.decreases-loop-d
decreases-loop-d l = l.darts - l.d
