-- `answers::marks::marks_refusal` meets its contract. Assumes nothing.
use mathlib.Core.Path.{sym, ◌∙◌}
use lib.ListN.{length}
use native.Mathlib.Omega.{arith}
use borrow.Author.Tests.{eq-eqb, ne_eqb}
use Rattle.maps.specs.Sizes.{number4}
use Rattle.answers.specs.Marked.{marks_refusal}
use Rattle.answers.proofs.Marked.{none_refused, marks_decide, pair_found, pair_none}
use Rattle.answers.proofs.marks.marks_refusal.Goals.{then-lambda-width-via-then-lambda-width, then-lambda-width-via-else-lambda-width+then-delta-width}
use Rattle.answers.proofs.marks.marks_refusal.Goals as goal

pub returns-then-lambda-width : goal.returns-then-lambda-width
unfolding marks_refusal number4
returns-then-lambda-width c =
    let a = c.args in
    elim c.then-lambda-width.branch [
      | then-lambda-width-via-then-lambda-width w ↦ simp (ne_eqb (length a.lambda.now) a.sizes.darts w.if-lambda-width.true)
      | then-lambda-width-via-else-lambda-width+then-delta-width w ↦ simp (eq-eqb (length a.lambda.now) a.sizes.darts w.if-lambda-width.false, ne_eqb (length a.delta.now) a.sizes.darts w.if-delta-width.true)
    ]

pub overflow_cast-result : goal.overflow_cast-result
overflow_cast-result c =
    let a = c.args in
    omega (arith, (pair_found a.sizes.n.0 a.sizes.darts a.sizes.h.0 a.lambda.now a.delta.now a.level.0 c.if-lambda-width.false c.if-delta-width.false c.in-Some.d (sym c.first_refused.ensures ∙ c.in-Some.is)).0)

pub returns-in-Some : goal.returns-in-Some
returns-in-Some c =
    let a = c.args in
    (pair_found a.sizes.n.0 a.sizes.darts a.sizes.h.0 a.lambda.now a.delta.now a.level.0 c.if-lambda-width.false c.if-delta-width.false c.in-Some.d (sym c.first_refused.ensures ∙ c.in-Some.is)).1

pub returns-in_default : goal.returns-in_default
returns-in_default c =
    let a = c.args in
    pair_none a.sizes.n.0 a.sizes.darts a.sizes.h.0 a.lambda.now a.delta.now a.level.0 c.if-lambda-width.false c.if-delta-width.false (sym c.first_refused.ensures ∙ c.in_default.is)

pub returns-else-any_refused : goal.returns-else-any_refused
returns-else-any_refused c =
    let a = c.args in
    let m = none_refused a.sizes.n.0 a.sizes.darts a.sizes.h.0 a.lambda.now a.delta.now a.level.0 a.sizes.darts (λ x f. c.any_refused.ensures c.if-any_refused.false x (omega arith)) in
    sym (marks_decide a.sizes.n.0 a.sizes.darts a.sizes.h.0 a.lambda.now a.delta.now a.level.0 c.if-lambda-width.false c.if-delta-width.false ∙ m)
