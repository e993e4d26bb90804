-- `kernels::Kernel::whole` meets its contract. Along the string: the darts of the kernel passed are whole; along the involutions: none passed leaves it. The measures are the darts and the involutions left. Assumes nothing.
use mathlib.Core.Path.{◌≡◌}
use Prim.Native.Nat.{◌+◌, ◌-◌, ◌≤◌}
use Rattle.std.specs.Prelude.{Ok}
use Rattle.maps.specs.Verdict.{accepted, scan}
use Rattle.maps.specs.Table.{entry}
use Rattle.maps.specs.Check.{at9}
use Rattle.kernels.specs.Strings.{kernel_row}
use Rattle.kernels.specs.Walked.{Walk, nine}
use Rattle.kernels.proofs.Kernel.whole.Given as goal

abbrev pub invariant-loop-j : goal.invariant-loop-j
invariant-loop-j l = (l.j ≤ l.n.0 + 1) × (scan l.j (at9 (entry l.darts l.table) l.n.0 (kernel_row l.self.lambda.now l.self.delta.now l.self.level.0) l.self.level.0 l.d) ≡ accepted) × (l.found ≡ Ok tt)

abbrev pub decreases-loop-j : goal.decreases-loop-j
decreases-loop-j l = l.j-end - l.j

abbrev pub invariant-darts : goal.invariant-darts
invariant-darts l = Walk l.n.0 l.darts l.self.level.0 l.self.lambda.now l.self.delta.now l.self.next.now l.table (nine l.n.0 l.darts l.self.level.0 (kernel_row l.self.lambda.now l.self.delta.now l.self.level.0) l.table) l.d × (l.found ≡ Ok tt)

abbrev pub decreases-darts : goal.decreases-darts
decreases-darts l = l.darts - l.d
