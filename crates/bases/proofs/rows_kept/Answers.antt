-- `bases::rows_kept` meets its contract. The invariant: each entry of the rows passed is kept. Assumes nothing.
use borrow.Author.Count.{below_more}
use Rattle.bases.proofs.rows_kept.Goals as goal

pub loop-i-preserved : goal.loop-i-preserved
loop-i-preserved c = below_more _ _ c.loop-i.invariant (c.row_kept.ensures c.if-not-row_kept.false)
