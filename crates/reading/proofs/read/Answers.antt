-- `reading::read` meets its contract. Assumes nothing.
use mathlib.Core.Path.{◌≡◌, sym}
use Rattle.maps.specs.Verdict.{accepted}
use Rattle.maps.specs.Read.{question, read_lent, read_since}
use Rattle.answers.specs.Pyramid.{folded}
use Rattle.answers.proofs.Refusals.{passed_on, refusal_refuses, told}
use Rattle.questions.proofs.Questions.{question_walks}
use Rattle.reading.proofs.read.Goals.{In_ok-question}
use Rattle.reading.proofs.read.Goals as goal

-- the question is accepted
ok : (c : In_ok-question) → let a = c.args in question (folded a.pyramid.now) a.asked.level.0 a.asked.involution.0 a.asked.dart ≡ accepted
ok c = sym (told c.question.ensures c.in_ok-question.was)

pub returns-in_err-question : goal.returns-in_err-question
unfolding read_lent read_since
returns-in_err-question c =
    let r = refusal_refuses c.in_err-question.field-0.0 in
    let e = sym (told c.question.ensures c.in_err-question.was) in
    rw (passed_on c.from_residual.result c.from_residual.ensures.1) (record { answer = simp (e, r.is); since = simp (e, r.is) })

pub walk-requires : goal.walk-requires
walk-requires c =
    let a = c.args in
    question_walks (folded a.pyramid.now) a.asked.level.0 a.asked.involution.0 a.asked.dart (ok c)

pub returns : goal.returns
unfolding read_lent read_since
returns c =
    let e = ok (goal.at.returns c).In_ok-question in
    record { answer = simp e c.walk.ensures.answer; since = simp e c.walk.ensures.since }
