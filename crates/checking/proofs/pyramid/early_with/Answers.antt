-- `checking::pyramid::early_with` meets its contract. Assumes nothing.
use mathlib.Core.Path.{sym}
use Rattle.answers.specs.Pyramid.{folded}
use Rattle.checking.proofs.PyramidCheck.{with_facts}
use Rattle.checking.proofs.pyramid.early_with.Goals as goal

pub base_and_marks-requires : goal.base_and_marks-requires
base_and_marks-requires c =
    let f = with_facts (folded c.args.pyramid.now) _ (sym (rw c.fit.ensures at c.in_ok-lent.ensures)) in
    (f.base, f.lambda_long, f.delta_long)
