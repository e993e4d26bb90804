-- `checking::pyramid::base_and_marks` meets its contract. Assumes nothing.
use mathlib.Core.Path.{◌∙◌}
use Rattle.maps.specs.Check.{at8, check8}
use Rattle.maps.specs.MarksBack.{at_marks8}
use Rattle.answers.proofs.Refusals.{passed_on, refused_then}
use Rattle.answers.proofs.Marked.{marks_decide}
use Rattle.checking.proofs.PyramidCheck.{base_map}
use Rattle.checking.proofs.pyramid.base_and_marks.Goals as goal

pub returns-in_err-check_base : goal.returns-in_err-check_base
returns-in_err-check_base c =
    rw (passed_on c.from_residual.result c.from_residual.ensures.1) (
    let p = c.args.pyramid.now in
    refused_then c.in_err-check_base.field-0.0 _ _ (c.in_err-check_base.ensures ∙ base_map p.sizes.n.0 p.sizes.darts p.rows.now c.requires.0))

pub returns : goal.returns
unfolding at8 check8 at_marks8
returns c =
    let p = c.args.pyramid.now in
    rw (← (c.in_ok-check_base.ensures ∙ base_map p.sizes.n.0 p.sizes.darts p.rows.now c.requires.0)) (c.marks_refusal.ensures ∙ marks_decide p.sizes.n.0 p.sizes.darts p.sizes.h.0 p.lambda.now p.delta.now 0 c.requires.1 c.requires.2)
