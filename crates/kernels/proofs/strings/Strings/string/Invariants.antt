-- `kernels::strings::Strings::string` meets its contract. The invariant: the darts from d on are strung. The measure is d. Assumes nothing.
use mathlib.Core.Path.{◌≡◌}
use Prim.Native.Nat.{◌≤◌}
use lib.ListN.{length}
use Rattle.maps.specs.Table.{each}
use Rattle.kernels.specs.Strings.{Linked}
use Rattle.kernels.proofs.strings.Strings.string.Given as goal

abbrev pub invariant-loop-d : goal.invariant-loop-d
invariant-loop-d l = (l.d ≤ length l.lambda) × Linked (length l.lambda) (each l.lambda) l.d l.self.head l.self.next × (length l.self.head ≡ 256) × (length l.self.next ≡ 4096)

abbrev pub decreases-loop-d : goal.decreases-loop-d
decreases-loop-d l = l.d
