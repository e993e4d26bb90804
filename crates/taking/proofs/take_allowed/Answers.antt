-- `taking::take_allowed` meets its contract: what is unpacked is handed on to the check. Assumes nothing.
use Rattle.answers.proofs.Refusals.{passed_on}
use Rattle.taking.proofs.Joined.{not_unpacked, handed_on, check_refused, check_accepted}
use Rattle.taking.proofs.take_allowed.Goals as goal

pub returns-in_err-sizes : goal.returns-in_err-sizes
returns-in_err-sizes c =
    let f = c.in_err-sizes.ensures in
    let x = not_unpacked _ _ _ _ _ _ c.in_err-sizes.field-0.0 f.answer in
    rw (passed_on c.from_residual.result c.from_residual.ensures.1) (record { answer = x.0; rows_left = f.rows_left; lambda_left = f.lambda_left; delta_left = f.delta_left; table_left = x.1 })

pub check_front-requires : goal.check_front-requires
check_front-requires c = let f = c.in_ok-sizes.ensures in handed_on _ _ _ _ _ _ f.answer f.rows_left f.lambda_left f.delta_left

pub returns-in_err-check_front : goal.returns-in_err-check_front
returns-in_err-check_front c =
    let f = c.in_ok-sizes.ensures in
    let g = c.in_err-check_front.ensures in
    let x = check_refused _ _ _ _ _ _ f.answer f.rows_left f.lambda_left f.delta_left g.table_left c.in_err-check_front.field-0.0 g.verdict in
    let out = c.from_residual-in_err-check_front in
    rw (passed_on out.result out.ensures.1) (record { answer = x.0; rows_left = f.rows_left; lambda_left = f.lambda_left; delta_left = f.delta_left; table_left = x.1 })

pub returns : goal.returns
returns c =
    let f = c.in_ok-sizes.ensures in
    let g = c.in_ok-check_front.ensures in
    let x = check_accepted _ _ _ _ _ _ f.answer f.rows_left f.lambda_left f.delta_left g.table_left g.verdict in
    record { answer = x.0; rows_left = f.rows_left; lambda_left = f.lambda_left; delta_left = f.delta_left; table_left = x.1 }
