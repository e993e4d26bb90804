-- `joined_kernels::join_lambda` meets its contract. The invariant: the darts passed have their joined Λ. The measure: the darts left. Assumes nothing.
use Prim.Native.Nat.{◌-◌, ◌≤◌}
use lib.ListN.{length}
use Rattle.maps.specs.Table.{each}
use Rattle.maps.specs.Join.{joinΛ}
use Rattle.climbing.proofs.Rows.{RowTo}
use Rattle.joined_kernels.proofs.join_lambda.Given as goal

abbrev pub invariant-loop-own : goal.invariant-loop-own
invariant-loop-own l = (l.own-index ≤ length l.initial.lambda) × RowTo (joinΛ l.level.0 (each l.initial.lambda)) l.own-index l.initial.lambda l.lambda

abbrev pub decreases-loop-own : goal.decreases-loop-own
decreases-loop-own l = l.own-index-end - l.own-index
