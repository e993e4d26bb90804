-- `survivor_words::survivors` meets its contract: what is asked, then all darts, are tested before a word is written. Assumes nothing.
use mathlib.Core.Path.{ap, ◌∙◌}
use Prim.Native.Nat.{ℕ}
use native.Mathlib.Omega.{arith}
use lib.Count.{ones}
use Rattle.maps.specs.Count.{sum}
use Rattle.maps.specs.Table.{listed, each}
use Rattle.maps.specs.Survivors.{word, survivor_words, survivor_count}
use Rattle.answers.proofs.Refusals.{passed_on, refusal_keeps}
use Rattle.survivor_words.proofs.Accepted.{asked_refused, scan_refused, both_passed, asked_passed, low}
use Rattle.survivor_words.proofs.words.survivors.Goals as goal

pub returns-in_err-asked : goal.returns-in_err-asked
unfolding survivor_words survivor_count
returns-in_err-asked c =
    rw (passed_on c.from_residual.result c.from_residual.ensures.1) (
    let a = c.args in
    let r = c.in_err-asked.field-0.0 in
    let e = asked_refused a.darts a.h.0 a.lambda.now a.level.0 a.words.now r (rw c.both_fit-fit.ensures at c.in_err-asked.ensures) in record { verdict = e; count = refusal_keeps r _ _ _ e; words_left = refusal_keeps r _ _ _ e })

pub returns-in_err-lambda_tested : goal.returns-in_err-lambda_tested
unfolding survivor_words survivor_count
returns-in_err-lambda_tested c =
    rw (passed_on c.from_residual-in_err-lambda_tested.result c.from_residual-in_err-lambda_tested.ensures.1) (
    let a = c.args in
    let r = c.in_err-lambda_tested.field-0.0 in
    let e = scan_refused a.darts a.h.0 a.lambda.now a.level.0 a.words.now r (rw c.both_fit-fit.ensures at c.in_ok-asked.ensures) c.in_err-lambda_tested.ensures in record { verdict = e; count = refusal_keeps r _ _ _ e; words_left = refusal_keeps r _ _ _ e })

pub lambda_tested-requires : goal.lambda_tested-requires
lambda_tested-requires c =
    let a = c.args in (asked_passed a.darts a.h.0 a.lambda.now a.level.0 a.words.now (rw c.both_fit-fit.ensures at c.in_ok-asked.ensures)).lambda_long

pub fill_words-count-requires : goal.fill_words-count-requires
fill_words-count-requires c =
    let a = c.args in
    let p = asked_passed a.darts a.h.0 a.lambda.now a.level.0 a.words.now (rw c.both_fit-fit.ensures at c.in_ok-asked.ensures) in
    (p.words_long, omega (arith, p.height, p.level), low a.darts a.h.0 a.lambda.now a.level.0 a.words.now p c.in_ok-lambda_tested.ensures)

pub returns : goal.returns
unfolding survivor_words survivor_count word
returns c =
    let a = c.args in
    let asked = rw c.both_fit-fit.ensures at c.in_ok-asked.ensures in
    let e = both_passed a.darts a.h.0 a.lambda.now a.level.0 a.words.now asked c.in_ok-lambda_tested.ensures in
    let n = (asked_passed a.darts a.h.0 a.lambda.now a.level.0 a.words.now asked).lambda_long in
    let f = c.fill_words-count.ensures in record { verdict = e; count = rw (← e) (f.answer ∙ ap (λ (N : ℕ). sum (λ w. ones (word N (each a.lambda.now) a.level.0 w)) 64) n); words_left = rw (← e) (f.words_left ∙ ap (λ (N : ℕ). listed (word N (each a.lambda.now) a.level.0) 64) n) }
