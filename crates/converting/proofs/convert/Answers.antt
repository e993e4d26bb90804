-- `converting::convert` meets its contract: what is taken is handed on to writing. Assumes nothing.
use mathlib.Core.Path.{ap, ◌∙◌}
use mathlib.Core.List.{[]}
use native.Mathlib.Omega.{arith}
use Rattle.maps.specs.Folded.{Folded}
use Rattle.writing.specs.Answers.{putting, put_leaves}
use Rattle.answers.proofs.Refusals.{passed_on}
use Rattle.converting.proofs.Joined.{refused, fits, checked, all_written}
use Rattle.converting.proofs.convert.Goals as goal

pub returns-in_err-sizes : goal.returns-in_err-sizes
returns-in_err-sizes c =
    let f = c.in_err-sizes.ensures in
    let x = refused _ _ _ _ _ _ c.in_err-sizes.field-0.0 f.answer in
    rw (passed_on c.from_residual.result c.from_residual.ensures.1) (record { answer = x.0; rows_left = f.rows_left; lambda_left = f.lambda_left; delta_left = f.delta_left; table_left = f.table_left; new_left = x.1 })

-- whatever the buffer holds, and whichever row of marks is asked first: the lengths alone
pub at_front-requires : goal.at_front-requires
at_front-requires c =
    let f = c.in_ok-sizes.ensures in
    let long = fits _ _ _ _ _ [] f.answer f.rows_left f.lambda_left f.delta_left in
    (long.0, long.1, long.2, omega (arith, long.3, long.4), omega (arith, long.3, long.4))

pub write_accepted-requires : goal.write_accepted-requires
write_accepted-requires c = let f = c.in_ok-sizes.ensures in rw c.at_front.ensures.parts (checked _ _ _ _ _ [] f.answer f.rows_left f.lambda_left f.delta_left)

pub returns : goal.returns
returns c =
    let f = c.in_ok-sizes.ensures in
    let g = c.write_accepted.ensures in
    let new = c.args.new.now in
    let parts = c.at_front.ensures.parts in
    let answered = g.answer ∙ ap (λ (f : Folded). putting f new) parts in
    let left = g.bytes_left ∙ ap (λ (f : Folded). put_leaves f new) parts in
    let x = all_written _ _ _ _ _ _ f.answer f.rows_left f.lambda_left f.delta_left answered left in
    record { answer = x.0; rows_left = f.rows_left; lambda_left = f.lambda_left; delta_left = f.delta_left; table_left = f.table_left; new_left = x.1 }
