-- `checking::pyramid::fold_in` meets its contract. The invariant: the darts passed have their new marks, the others their old ones. The measure is the darts left. Assumes nothing.
use Rattle.climbing.proofs.Rows.{row_all}
use Rattle.checking.proofs.pyramid.fold_in.Goals as goal

pub returns : goal.returns
returns c = let p = c.requires in let v = c.loop-d.invariant in record { lambda_left = row_all v.1 _ p.1 c.loop-d-test.false; delta_left = row_all v.2 _ p.2 c.loop-d-test.false }
