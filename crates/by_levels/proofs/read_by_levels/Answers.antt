-- `by_levels::read_by_levels` meets its contract. Assumes nothing.
use mathlib.Core.Path.{◌≡◌, sym, ap, ◌∙◌}
use Prim.Native.Nat.{ℕ}
use native.Mathlib.Omega.{arith}
use Rattle.answers.specs.Pyramid.{folded}
use Rattle.maps.specs.Verdict.{accepted}
use Rattle.maps.specs.Folded.{Folded, base, lambda_of, delta_of}
use Rattle.maps.specs.Walk.{Walked, ended}
use Rattle.maps.specs.ByLevels.{read_level, by_levels}
use Rattle.maps.specs.Read.{none, unless, reading_of, question, read_lent_by_levels}
use Rattle.answers.specs.Numbers.{refusal_of}
use Rattle.answers.specs.declared.Refusal.{Refusal}
use Rattle.answers.proofs.Refusals.{passed_on, refusal_refuses, told}
use Rattle.questions.proofs.Questions.{question_walks}
use Rattle.by_levels.proofs.Readings.{stopped_reading}
use Rattle.by_levels.proofs.read_by_levels.Goals as goal

module _ (f : Folded) (l i d : ℕ) where
  refused : (r : Refusal) → refusal_of r ≡ question f l i d → unless (refusal_of r) (none 0 0 0 0) ≡ read_lent_by_levels f l i d
  unfolding read_lent_by_levels
  refused r e = let x = refusal_refuses r in rw (← e, x.is)

  read : accepted ≡ question f l i d → (w : Walked) → w ≡ read_level (base f) f.n f.N f.h (lambda_of f) (delta_of f) i d l i d 0 → reading_of l w ≡ read_lent_by_levels f l i d
  unfolding read_lent_by_levels by_levels
  read e w x = rw (← e) (ap (reading_of l) x)

pub returns-in_err-question : goal.returns-in_err-question
returns-in_err-question c =
    let a = c.args in
    rw (passed_on c.from_residual.result c.from_residual.ensures.1) (refused (folded a.pyramid.now) a.asked.level.0 a.asked.involution.0 a.asked.dart c.in_err-question.field-0.0 (told c.question.ensures c.in_err-question.was))

pub reading-requires : goal.reading-requires
reading-requires c =
    let a = c.args in
    let q = question_walks (folded a.pyramid.now) a.asked.level.0 a.asked.involution.0 a.asked.dart (sym (told c.question.ensures c.in_ok-question.was)) in
    record { top = a.asked.level.0; lent = q.0; under = omega arith; row = q.1; dart = q.2 }

pub returns-in-Ok : goal.returns-in-Ok
returns-in-Ok c =
    let a = c.args in
    let p = c.in-Ok.met in
    read (folded a.pyramid.now) a.asked.level.0 a.asked.involution.0 a.asked.dart (told c.question.ensures c.in_ok-question.was) (ended p.row.0 p.dart p.count) (c.in-Ok.ensures a.asked.involution.0 a.asked.dart)

pub returns-in-Err : goal.returns-in-Err
returns-in-Err c =
    let a = c.args in
    let i = a.asked.involution.0 in
    stopped_reading a.asked.level.0 i a.asked.dart c.in-Err.stopped c.refusal.result c.refusal.ensures
    ∙ read (folded a.pyramid.now) a.asked.level.0 i a.asked.dart (told c.question.ensures c.in_ok-question.was) _ (c.in-Err.ensures i a.asked.dart)
