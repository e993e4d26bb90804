-- `kernels::Kernel::commute_alike` meets its contract. The invariant: whichever darts are strung, number 10 is due at none of those passed. The measure is the darts left. Assumes nothing.
use mathlib.Core.Bool.{Bool}
use Prim.Native.Nat.{ℕ, ◌-◌}
use Rattle.kernels.specs.Walked.{Run}
use Rattle.kernels.proofs.Runs.{RunTo}
use Rattle.kernels.proofs.Kernel.commute_alike.Given as goal

abbrev pub invariant-loop-d : goal.invariant-loop-d
invariant-loop-d l = (test : ℕ → Bool) → Run test l.n.0 l.darts l.self.next.now l.table l.initial.d → RunTo test l.n.0 l.darts l.self.next.now l.table l.mark.0 l.initial.d l.d

abbrev pub decreases-loop-d : goal.decreases-loop-d
decreases-loop-d l = l.to - l.d
