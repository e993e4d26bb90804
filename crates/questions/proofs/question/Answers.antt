-- `questions::question` meets its contract. Assumes nothing.
use mathlib.Core.Path.{◌≡◌, sym, ap, ◌∙◌}
use mathlib.Core.Bool.{Bool}
use native.Mathlib.Omega.{arith}
use borrow.Author.Tests.{ltb-true, ltb-false}
use Rattle.maps.specs.Verdict.{Verdict}
use Rattle.maps.specs.Table.{each}
use Rattle.maps.specs.Folded.{gone, refused_marks}
use Rattle.answers.specs.Lent.{asked_of}
use Rattle.answers.specs.Pyramid.{folded}
use Rattle.answers.specs.declared.Pyramid.{Pyramid}
use Rattle.answers.specs.declared.Question.{Question}
use Rattle.answers.proofs.Refusals.{passed_on}
use Rattle.questions.proofs.Questions.{pyramid_fits, asked_lent, question_refused, no_involution, no_dart, start_marks, start_gone, start_on}
use Rattle.questions.proofs.question.Goals.{After-marks_refused}
use Rattle.questions.proofs.question.Goals as goal

-- 1 to 4 and 11 are asked of the exact lengths
exactly : (p : Pyramid) (q : Question) {fit : Bool} {v : Verdict} → fit ≡ pyramid_fits (folded p) → v ≡ asked_of p.sizes.n.0 p.sizes.darts p.sizes.h.0 fit q.level.0 q.involution.0 q.dart
    → v ≡ asked_of p.sizes.n.0 p.sizes.darts p.sizes.h.0 (pyramid_fits (folded p)) q.level.0 q.involution.0 q.dart
exactly p q e f = f ∙ ap (λ (fit : Bool). asked_of p.sizes.n.0 p.sizes.darts p.sizes.h.0 fit q.level.0 q.involution.0 q.dart) e

-- the marks of the starting dart are asked of its own Λ and Δ
marks_are : (c : After-marks_refused) → let a = c.args in c.marks_refused.result ≡ refused_marks a.pyramid.now.sizes.n.0 a.pyramid.now.sizes.h.0 (each a.pyramid.now.lambda.now a.asked.dart) (each a.pyramid.now.delta.now a.asked.dart)
marks_are c = rw (c.lambda_at-own.ensures, c.delta_at.ensures) at c.marks_refused.ensures

pub returns-in_err-asked : goal.returns-in_err-asked
returns-in_err-asked c =
    let p = c.args.pyramid.now in
    let q = c.args.asked in
    rw (passed_on c.from_residual.result c.from_residual.ensures.1) (question_refused (folded p) q.level.0 q.involution.0 q.dart c.in_err-asked.field-0.0 (exactly p q c.pyramid_fits-fit.ensures c.in_err-asked.ensures))

pub returns-then-n-involution : goal.returns-then-n-involution
returns-then-n-involution c =
    let p = c.args.pyramid.now in
    let q = c.args.asked in
    no_involution (folded p) q.level.0 q.involution.0 q.dart (exactly p q c.pyramid_fits-fit.ensures c.in_ok-asked.ensures) c.if-n-involution.true

pub returns-then-darts-dart : goal.returns-then-darts-dart
returns-then-darts-dart c =
    let p = c.args.pyramid.now in
    let q = c.args.asked in
    no_dart (folded p) q.level.0 q.involution.0 q.dart (exactly p q c.pyramid_fits-fit.ensures c.in_ok-asked.ensures) c.if-n-involution.false c.if-darts-dart.true

pub lambda_at-own-requires : goal.lambda_at-own-requires
lambda_at-own-requires c =
    let p = c.args.pyramid.now in
    let q = c.args.asked in
    omega (arith, c.if-darts-dart.false, (asked_lent (folded p) q.level.0 q.involution.0 q.dart (sym (exactly p q c.pyramid_fits-fit.ensures c.in_ok-asked.ensures))).lambda_length)

pub delta_at-requires : goal.delta_at-requires
delta_at-requires c =
    let p = c.args.pyramid.now in
    let q = c.args.asked in
    omega (arith, c.if-darts-dart.false, (asked_lent (folded p) q.level.0 q.involution.0 q.dart (sym (exactly p q c.pyramid_fits-fit.ensures c.in_ok-asked.ensures))).delta_length)

pub returns-then-marks_refused : goal.returns-then-marks_refused
returns-then-marks_refused c =
    let p = c.args.pyramid.now in
    let q = c.args.asked in
    let marks = marks_are (goal.at.returns-then-marks_refused c).After-marks_refused in
    start_marks (folded p) q.level.0 q.involution.0 q.dart (exactly p q c.pyramid_fits-fit.ensures c.in_ok-asked.ensures) c.if-n-involution.false c.if-darts-dart.false marks c.if-marks_refused.true

pub returns-then-is_gone : goal.returns-then-is_gone
returns-then-is_gone c =
    let p = c.args.pyramid.now in
    let q = c.args.asked in
    let marks = marks_are (goal.at.returns-then-is_gone c).After-marks_refused in
    let gone_is : gone (each p.lambda.now) q.level.0 q.dart ≡ c.is_gone.result = rw c.lambda_at-own.ensures at (sym c.is_gone.ensures) in
    start_gone (folded p) q.level.0 q.involution.0 q.dart (exactly p q c.pyramid_fits-fit.ensures c.in_ok-asked.ensures) c.if-n-involution.false c.if-darts-dart.false marks c.if-marks_refused.false (ltb-true _ _ (gone_is ∙ c.if-is_gone.true))

pub returns : goal.returns
returns c =
    let p = c.args.pyramid.now in
    let q = c.args.asked in
    let marks = marks_are (goal.at.returns c).After-marks_refused in
    let gone_is : gone (each p.lambda.now) q.level.0 q.dart ≡ c.is_gone.result = rw c.lambda_at-own.ensures at (sym c.is_gone.ensures) in
    start_on (folded p) q.level.0 q.involution.0 q.dart (exactly p q c.pyramid_fits-fit.ensures c.in_ok-asked.ensures) c.if-n-involution.false c.if-darts-dart.false marks c.if-marks_refused.false (ltb-false _ _ (gone_is ∙ c.if-is_gone.false))
