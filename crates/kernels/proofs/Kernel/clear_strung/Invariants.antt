-- `kernels::Kernel::clear_strung` meets its contract. The invariant: whichever darts are strung, those passed are cleared. The measure is the darts left. Assumes nothing.
use mathlib.Core.Bool.{Bool}
use Prim.Native.Nat.{ℕ, ◌-◌}
use Rattle.kernels.specs.Strings.{Along}
use Rattle.kernels.proofs.Clearing.{ClearTo}
use Rattle.kernels.proofs.Kernel.clear_strung.Given as goal

abbrev pub invariant-loop-d : goal.invariant-loop-d
invariant-loop-d l = (test : ℕ → Bool) → Along test l.darts l.self.first l.self.next.now → ClearTo test l.darts l.n.0 l.initial.table l.table l.d

abbrev pub decreases-loop-d : goal.decreases-loop-d
decreases-loop-d l = l.darts - l.d
