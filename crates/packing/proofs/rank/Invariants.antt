-- `packing::rank` meets its contract. The invariant: the darts passed have their ranks, and `below` is the rank of the next. The measure: the darts left. Assumes nothing.
use mathlib.Core.Path.{◌≡◌}
use Prim.Native.Nat.{ℕ, ◌-◌, ◌≤◌, ◌<◌}
use lib.ListN.{length, get_or}
use Rattle.maps.specs.Table.{each}
use Rattle.maps.specs.NewBase.{rank}
use Rattle.packing.proofs.rank.Given as goal

abbrev pub invariant-loop-d : goal.invariant-loop-d
invariant-loop-d l = (l.d ≤ l.d-end) × (l.below ≡ rank (each l.lambda) l.level.0 l.d) × (length l.ranks ≡ length l.initial.ranks) × ((k : ℕ) → k < l.d → get_or l.ranks k 0 ≡ rank (each l.lambda) l.level.0 k)

abbrev pub decreases-loop-d : goal.decreases-loop-d
decreases-loop-d l = l.d-end - l.d
