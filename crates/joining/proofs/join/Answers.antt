-- `joining::join` meets its contract: Λ is written last, when all is tested. Assumes nothing.
use mathlib.Core.Path.{refl, sym, ap, ◌∙◌}
use borrow.Author.Tests.{leb-false}
use Prim.Native.Nat.{suc}
use Rattle.maps.specs.Table.{each, listed}
use Rattle.maps.specs.Join.{joinΛ}
use Rattle.answers.specs.Pyramid.{lent}
use Rattle.answers.specs.declared.Refusal.TheVariants.{NoLevel}
use Rattle.answers.proofs.Refusals.{passed_on}
use Rattle.checking.proofs.PyramidCheck.{early_passed}
use Rattle.joining.proofs.Whole.{check_refused, early_refused, no_two, climb_refused, lowered}
use Rattle.joining.proofs.join.Goals as goal

pub returns-in_err-check : goal.returns-in_err-check
returns-in_err-check c =
    rw (passed_on c.from_residual.result c.from_residual.ensures.1) (
    let a = c.args in
    let all = check_refused (lent a.sizes a.rows.now a.lambda.now a.delta.now) a.table.now a.level.0 c.in_err-check.field-0.0 c.in_err-check.ensures.verdict c.check.ensures.table_left in record { answer = all.0; height = all.1.0; lambda_left = all.1.1.0; table_left = all.1.1.1 })

pub returns-then-no_pair : goal.returns-then-no_pair
returns-then-no_pair c =
    let a = c.args in
    let all = no_two (lent a.sizes a.rows.now a.lambda.now a.delta.now) a.table.now a.level.0 c.in_ok-check.ensures.verdict (NoLevel a.level (record { 0 = 0 }) 0) refl (sym c.no_pair.ensures ∙ c.if-no_pair.true) c.check.ensures.table_left in record { answer = all.0; height = all.1.0; lambda_left = all.1.1.0; table_left = all.1.1.1 }

pub returns-in_err-early : goal.returns-in_err-early
returns-in_err-early c =
    rw (passed_on c.from_residual-in_err-early.result c.from_residual-in_err-early.ensures.1) (
    let a = c.args in
    let all = early_refused (lent a.sizes a.rows.now a.lambda.now a.delta.now) a.table.now a.level.0 c.in_err-early.field-0.0 c.in_err-early.ensures in record { answer = all.0; height = all.1.0; lambda_left = all.1.1.0; table_left = all.1.1.1 })

pub climb-requires : goal.climb-requires
climb-requires c =
    let a = c.args in
    let p = early_passed (lent a.sizes a.rows.now a.lambda.now a.delta.now) a.table.now (sym c.in_ok-early.ensures) in
    (p.1, leb-false a.sizes.h.0 (suc a.level.0) (sym c.no_pair.ensures ∙ c.if-no_pair.false), p.0.table_long)

pub returns-in_err-climb : goal.returns-in_err-climb
returns-in_err-climb c =
    rw (passed_on c.from_residual-in_err-climb.result c.from_residual-in_err-climb.ensures.1) (
    let a = c.args in
    let pair = leb-false a.sizes.h.0 (suc a.level.0) (sym c.no_pair.ensures ∙ c.if-no_pair.false) in
    let all = climb_refused (lent a.sizes a.rows.now a.lambda.now a.delta.now) a.table.now a.level.0 pair c.in_ok-early.ensures c.in_err-climb.field-0.0 c.in_err-climb.ensures.verdict c.climb.ensures.table_left in record { answer = all.0; height = all.1.0; lambda_left = all.1.1.0; table_left = all.1.1.1 })

pub returns : goal.returns
returns c =
    let a = c.args in
    let pair = leb-false a.sizes.h.0 (suc a.level.0) (sym c.no_pair.ensures ∙ c.if-no_pair.false) in
    let long = (early_passed (lent a.sizes a.rows.now a.lambda.now a.delta.now) a.table.now (sym c.in_ok-early.ensures)).0.lambda_long in
    let all = lowered (lent a.sizes a.rows.now a.lambda.now a.delta.now) a.table.now a.level.0 pair c.in_ok-early.ensures c.in_ok-climb.ensures.verdict (c.join_lambda.ensures ∙ ap (listed (joinΛ a.level.0 (each a.lambda.now))) long) c.climb.ensures.table_left in record { answer = all.0; height = all.1.0; lambda_left = all.1.1.0; table_left = all.1.1.1 }
