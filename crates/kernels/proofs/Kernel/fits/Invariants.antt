-- `kernels::Kernel::fits` meets its contract. The invariant: neither number is due at the darts of the kernel passed. The measure is the darts left. Assumes nothing.
use Prim.Native.Nat.{◌-◌}
use Rattle.kernels.specs.Walked.{Nine, Ten}
use Rattle.kernels.proofs.Kernel.fits.Given as goal

abbrev pub invariant-loop-d : goal.invariant-loop-d
invariant-loop-d l = Nine l.self.n.0 l.self.level.0 l.self.lambda.now l.self.delta.now l.self.next.now l.table l.d × Ten l.self.n.0 l.self.level.0 l.self.lambda.now l.self.delta.now l.self.next.now l.table l.d

abbrev pub decreases-loop-d : goal.decreases-loop-d
decreases-loop-d l = l.darts - l.d
