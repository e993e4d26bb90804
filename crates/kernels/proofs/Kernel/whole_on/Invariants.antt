-- `kernels::Kernel::whole_on` meets its contract. The invariant: the darts of the kernel passed are whole, and have the mark. The measure is the darts left. Assumes nothing.
use Prim.Native.Nat.{◌-◌, ◌≤◌}
use Rattle.kernels.specs.Walked.{Nine, Alike}
use Rattle.kernels.proofs.Kernel.whole_on.Given as goal

abbrev pub invariant-loop-d : goal.invariant-loop-d
invariant-loop-d l = Nine l.n.0 l.self.level.0 l.self.lambda.now l.self.delta.now l.self.next.now l.table l.d × (l.initial.d ≤ l.d) × Alike l.self.level.0 l.self.lambda.now l.self.delta.now l.mark.0 l.initial.d l.d

abbrev pub decreases-loop-d : goal.decreases-loop-d
decreases-loop-d l = l.darts - l.d
