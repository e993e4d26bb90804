-- `kernels::Kernel::together` meets its contract. The invariant: the rows passed lead into the kernel with the mark. The measure is the rows left. Assumes nothing.
use mathlib.Core.Path.{◌≡◌}
use mathlib.Core.Bool.{true}
use Prim.Native.Nat.{ℕ, ◌-◌, ◌≤◌, ◌<◌}
use lib.ListN.{length}
use lib.Dec.{eqb}
use Rattle.maps.specs.Table.{entry}
use Rattle.kernels.specs.Strings.{kernel_row}
use Rattle.kernels.specs.Walked.{other_row}
use Rattle.kernels.proofs.Kernel.together.Given as goal

abbrev pub invariant-loop-k : goal.invariant-loop-k
invariant-loop-k l = (l.k ≤ l.k-end) × ((x : ℕ) → x < l.k → eqb (kernel_row l.self.lambda.now l.self.delta.now l.self.level.0 (entry (length l.self.lambda.now) l.table (other_row l.mark.0 x) l.d)) l.mark.0 ≡ true)

abbrev pub decreases-loop-k : goal.decreases-loop-k
decreases-loop-k l = l.k-end - l.k
