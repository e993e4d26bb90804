-- `counting::sums::sums_of` meets its contract. The invariant: the levels passed have their sum. Assumes nothing.
use mathlib.Core.Path.{◌≡◌}
use Prim.Native.Nat.{ℕ, ◌<◌}
use lib.ListN.{length}
use Rattle.maps.specs.Census.{alternating, count_at, sum_at}
use Rattle.counting.proofs.sums.sums_of.Given as goal

abbrev pub invariant-loop-l : goal.invariant-loop-l
invariant-loop-l l = (length l.sum-items ≡ 33) × ((x : ℕ) → x < l.l → sum_at l.sum-items x ≡ alternating (count_at l.counts x) 5)
