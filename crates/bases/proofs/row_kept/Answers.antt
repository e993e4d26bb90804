-- `bases::row_kept` meets its contract. The invariant: a yes says that each entry passed is kept. Assumes nothing.
use borrow.Author.Count.{below_more}
use Rattle.laws.proofs.Verdicts.{and_both}
use Rattle.bases.proofs.row_kept.Goals as goal

pub loop-d-preserved : goal.loop-d-preserved
loop-d-preserved c h =
    let l = c.loop-d in
    let b = and_both l.kept c.entry_kept-kept.result h in
    below_more _ _ (l.invariant b.0) (c.entry_kept-kept.ensures b.1)
