-- `marks_back::marks_of` meets its contract: what is asked, then all darts, are tested before a mark is written. Assumes nothing.
use mathlib.Core.Path.{sym, ap, ◌∙◌}
use Rattle.maps.specs.Table.{listed}
use Rattle.maps.specs.MarksBack.{marks_leaves}
use Rattle.answers.proofs.Refusals.{passed_on, refusal_keeps}
use Rattle.marks_back.proofs.Accepted.{asked_refused, marks_refused, both_passed, asked_passed}
use Rattle.marks_back.proofs.marks_of.Goals as goal

pub returns-in_err-asked : goal.returns-in_err-asked
unfolding marks_leaves
returns-in_err-asked c =
    rw (passed_on c.from_residual.result c.from_residual.ensures.1) (
    let a = c.args in
    let r = c.in_err-asked.field-0.0 in
    let e = asked_refused a.sizes.n.0 a.sizes.darts a.sizes.h.0 a.lambda.now a.delta.now a.level.0 a.out.now r (rw c.all_fit-fit.ensures at c.in_err-asked.ensures) in record { verdict = e; out_left = refusal_keeps r _ _ _ e })

pub returns-in_err-marks_refusal : goal.returns-in_err-marks_refusal
unfolding marks_leaves
returns-in_err-marks_refusal c =
    rw (passed_on c.from_residual-in_err-marks_refusal.result c.from_residual-in_err-marks_refusal.ensures.1) (
    let a = c.args in
    let r = c.in_err-marks_refusal.field-0.0 in
    let e = marks_refused a.sizes.n.0 a.sizes.darts a.sizes.h.0 a.lambda.now a.delta.now a.level.0 a.out.now (rw c.all_fit-fit.ensures at c.in_ok-asked.ensures) r c.in_err-marks_refusal.ensures in record { verdict = e; out_left = refusal_keeps r _ _ _ e })

pub fill_marks-requires : goal.fill_marks-requires
fill_marks-requires c =
    let a = c.args in
    let p = asked_passed a.sizes.n.0 a.sizes.darts a.sizes.h.0 a.lambda.now a.delta.now a.level.0 a.out.now (rw c.all_fit-fit.ensures at c.in_ok-asked.ensures) in
    (p.lambda_long ∙ sym p.out_long, p.delta_long ∙ sym p.out_long)

pub returns : goal.returns
unfolding marks_leaves
returns c =
    let a = c.args in
    let asked = rw c.all_fit-fit.ensures at c.in_ok-asked.ensures in
    let p = asked_passed a.sizes.n.0 a.sizes.darts a.sizes.h.0 a.lambda.now a.delta.now a.level.0 a.out.now asked in
    let e = both_passed a.sizes.n.0 a.sizes.darts a.sizes.h.0 a.lambda.now a.delta.now a.level.0 a.out.now asked c.in_ok-marks_refusal.ensures in record { verdict = e; out_left = rw (← e) (c.fill_marks.ensures ∙ ap (listed _) p.out_long) }
