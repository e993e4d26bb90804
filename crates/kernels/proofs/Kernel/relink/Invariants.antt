-- `kernels::Kernel::relink` meets its contract. The invariant: the kernel is relinked up to the dart at hand, and the turns are those of the links begun. The measure is the darts left. Assumes nothing.
use mathlib.Core.Path.{◌≡◌}
use Prim.Native.Nat.{◌-◌}
use Rattle.kernels.specs.Strings.{kernel_row}
use Rattle.kernels.specs.Relinked.{turns_to, Onward}
use Rattle.kernels.proofs.Kernel.relink.Given as goal

abbrev pub invariant-loop-d : goal.invariant-loop-d
invariant-loop-d l = Onward l.self l.initial.table l.table l.d × (l.turns ≡ turns_to l.self.n.0 l.self.darts (kernel_row l.self.lambda.now l.self.delta.now l.self.level.0) l.initial.table l.d)

abbrev pub decreases-loop-d : goal.decreases-loop-d
decreases-loop-d l = l.darts - l.d
