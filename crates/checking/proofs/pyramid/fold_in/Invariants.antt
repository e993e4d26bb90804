-- `checking::pyramid::fold_in` meets its contract. The invariant: the darts passed have their new marks, the others their old ones. The measure is the darts left. Assumes nothing.
use Prim.Native.Nat.{◌-◌, ◌≤◌}
use lib.ListN.{length}
use Rattle.maps.specs.Table.{each}
use Rattle.maps.specs.Folded.{addΛ, addΔ}
use Rattle.climbing.proofs.Rows.{RowTo}
use Rattle.checking.proofs.pyramid.fold_in.Given as goal

abbrev pub invariant-loop-d : goal.invariant-loop-d
invariant-loop-d l = (l.d ≤ length l.row) × RowTo (addΛ l.n.0 l.h.0 (each l.initial.lambda) (each l.row)) l.d l.initial.lambda l.lambda × RowTo (addΔ l.n.0 (each l.initial.delta) (each l.row)) l.d l.initial.delta l.delta

abbrev pub decreases-loop-d : goal.decreases-loop-d
decreases-loop-d l = l.d-end - l.d
