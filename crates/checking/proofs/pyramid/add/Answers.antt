-- `checking::pyramid::add` meets its contract. Assumes nothing.
use mathlib.Core.Path.{sym, ap, ◌∙◌}
use native.Mathlib.Omega.{arith}
use Rattle.maps.specs.Table.{each, listed}
use Rattle.maps.specs.Folded.{addΛ, addΔ}
use Rattle.laws.proofs.Verdicts.{then_accepted}
use Rattle.answers.specs.Pyramid.{lent}
use Rattle.answers.proofs.Refusals.{passed_on}
use Rattle.checking.specs.Checked.{base_and_marks}
use Rattle.checking.specs.Added.{row_marks}
use Rattle.checking.proofs.PyramidCheck.{based}
use Rattle.checking.proofs.AddCheck.{add_facts, row_marks_lem, sizes_refused, marks_refused, ascend_refused, grown}
use Rattle.checking.proofs.pyramid.add.Goals as goal

pub returns-in_err-add_lent : goal.returns-in_err-add_lent
returns-in_err-add_lent c =
    rw (passed_on c.from_residual.result c.from_residual.ensures.1) (
    let a = c.args in
    let all = sizes_refused (lent a.sizes a.rows.now a.lambda.now a.delta.now) a.row.now a.table.now c.in_err-add_lent.field-0.0 c.in_err-add_lent.ensures in record { answer = all.0; height = all.1.0; lambda_left = all.1.1.0; delta_left = all.1.1.1.0; table_left = all.1.1.1.1 })

pub add_marked-requires : goal.add_marked-requires
add_marked-requires c =
    let a = c.args in
    let f = add_facts (lent a.sizes a.rows.now a.lambda.now a.delta.now) a.row.now a.table.now (sym c.in_ok-add_lent.ensures) in
    (f.0.base, f.0.lambda_long, f.0.delta_long, f.1)

pub returns-in_err-add_marked : goal.returns-in_err-add_marked
returns-in_err-add_marked c =
    rw (passed_on c.from_residual-in_err-add_marked.result c.from_residual-in_err-add_marked.ensures.1) (
    let a = c.args in
    let all = marks_refused (lent a.sizes a.rows.now a.lambda.now a.delta.now) a.row.now a.table.now c.in_ok-add_lent.ensures c.in_err-add_marked.field-0.0 c.in_err-add_marked.ensures in record { answer = all.0; height = all.1.0; lambda_left = all.1.1.0; delta_left = all.1.1.1.0; table_left = all.1.1.1.1 })

pub ascend-requires : goal.ascend-requires
ascend-requires c =
    let a = c.args in
    let f = add_facts (lent a.sizes a.rows.now a.lambda.now a.delta.now) a.row.now a.table.now (sym c.in_ok-add_lent.ensures) in
    let p = then_accepted (base_and_marks (lent a.sizes a.rows.now a.lambda.now a.delta.now)) (row_marks a.sizes.n.0 a.sizes.darts a.sizes.h.0 a.lambda.now a.row.now) (sym c.in_ok-add_marked.ensures) in record {
      base = (based (lent a.sizes a.rows.now a.lambda.now a.delta.now) a.table.now f.0 p.0, f.0.height, f.0.table_long);
      row_len = (f.1, row_marks_lem (lent a.sizes a.rows.now a.lambda.now a.delta.now) a.row.now a.table.now p.1);
    }

pub returns-in_err-ascend : goal.returns-in_err-ascend
returns-in_err-ascend c =
    rw (passed_on c.from_residual-in_err-ascend.result c.from_residual-in_err-ascend.ensures.1) (
    let a = c.args in
    let all = ascend_refused (lent a.sizes a.rows.now a.lambda.now a.delta.now) a.row.now a.table.now c.in_ok-add_lent.ensures c.in_ok-add_marked.ensures c.ascend.ensures.table_left c.in_err-ascend.field-0.0 c.in_err-ascend.ensures.verdict in record { answer = all.0; height = all.1.0; lambda_left = all.1.1.0; delta_left = all.1.1.1.0; table_left = all.1.1.1.1 })

pub fold_in-requires : goal.fold_in-requires
fold_in-requires c =
    let a = c.args in
    let f = add_facts (lent a.sizes a.rows.now a.lambda.now a.delta.now) a.row.now a.table.now (sym c.in_ok-add_lent.ensures) in
    (f.0.height, f.0.lambda_long ∙ sym f.1, f.0.delta_long ∙ sym f.1)

pub overflow_add-result : goal.overflow_add-result
overflow_add-result c =
    let a = c.args in
    omega (arith, (add_facts (lent a.sizes a.rows.now a.lambda.now a.delta.now) a.row.now a.table.now (sym c.in_ok-add_lent.ensures)).0.height)

pub returns : goal.returns
returns c =
    let a = c.args in
    let long = (add_facts (lent a.sizes a.rows.now a.lambda.now a.delta.now) a.row.now a.table.now (sym c.in_ok-add_lent.ensures)).1 in
    let all = grown (lent a.sizes a.rows.now a.lambda.now a.delta.now) a.row.now a.table.now c.in_ok-add_lent.ensures c.in_ok-add_marked.ensures c.ascend.ensures.table_left c.in_ok-ascend.ensures.verdict
    (c.fold_in.ensures.lambda_left ∙ ap (listed (addΛ a.sizes.n.0 a.sizes.h.0 (each a.lambda.now) (each a.row.now))) long) (c.fold_in.ensures.delta_left ∙ ap (listed (addΔ a.sizes.n.0 (each a.delta.now) (each a.row.now))) long) in record { answer = all.0; height = all.1.0; lambda_left = all.1.1.0; delta_left = all.1.1.1.0; table_left = all.1.1.1.1 }
