-- `writing::write` meets its contract: the pyramid is checked, then its record written. Assumes nothing.
use mathlib.Core.Path.{◌≡◌, sym}
use Rattle.maps.specs.Verdict.{accepted}
use Rattle.maps.specs.CheckPyramid.{check_lent}
use Rattle.maps.specs.Write.{write_table}
use Rattle.answers.specs.Pyramid.{folded}
use Rattle.answers.proofs.Refusals.{passed_on, told}
use Rattle.writing.proofs.Whole.{check_refused, check_accepted}
use Rattle.writing.proofs.write.Goals as goal

pub returns-in_err-check : goal.returns-in_err-check
unfolding write_table
returns-in_err-check c =
    rw (passed_on c.from_residual.result c.from_residual.ensures.1) (
    let k = c in
    let x = check_refused _ _ _ c.in_err-check.field-0.0 (told k.check.ensures.verdict c.in_err-check.was) in record { answer = x.0; table_left = k.check.ensures.table_left; bytes_left = x.1 }
    )

pub returns : goal.returns
unfolding write_table
returns c =
    let fine : let a = c.args in check_lent (folded a.pyramid.now) a.table.now ≡ accepted =
    sym (told c.check.ensures.verdict c.in_ok-check.was) in
    let w = c in
    let e = w in
    let k = e in
    let x = check_accepted _ c.args.table.now _ (fine) w.write_accepted.ensures.answer w.write_accepted.ensures.bytes_left in record { answer = x.0; table_left = k.check.ensures.table_left; bytes_left = x.1 }
