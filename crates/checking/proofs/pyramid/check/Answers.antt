-- `checking::pyramid::check` meets its contract. Assumes nothing.
use mathlib.Core.Path.{sym}
use Rattle.answers.specs.Pyramid.{folded}
use Rattle.answers.proofs.Refusals.{passed_on}
use Rattle.checking.proofs.PyramidCheck.{early_passed, check_early, check_climbed}
use Rattle.checking.proofs.pyramid.check.Goals as goal

pub returns-in_err-early : goal.returns-in_err-early
returns-in_err-early c =
    rw (passed_on c.from_residual.result c.from_residual.ensures.1) (
    let a = c.args in
    let both = check_early (folded a.pyramid.now) a.table.now c.in_err-early.field-0.0 c.in_err-early.ensures in record { verdict = both.0; table_left = both.1 })

pub rise-requires : goal.rise-requires
rise-requires c =
    let a = c.args in
    let p = early_passed (folded a.pyramid.now) a.table.now (sym c.in_ok-early.ensures) in
    (p.1, p.0.table_long)

pub returns : goal.returns
returns c =
    let a = c.args in
    let e = c.rise.ensures in
    let both = check_climbed (folded a.pyramid.now) a.table.now c.in_ok-early.ensures e.verdict e.table_left in record { verdict = both.0; table_left = both.1 }
