-- `unfolding::unfold_all` meets its contract. Assumes nothing.
use Rattle.answers.specs.Pyramid.{folded}
use Rattle.answers.proofs.Refusals.{passed_on}
use Rattle.unfolding.proofs.Whole.{job_lengths, told_lengths, job_refused, job_levels, job_accepted}
use Rattle.unfolding.proofs.unfold_all.Goals as goal

pub returns-in_err-lent : goal.returns-in_err-lent
returns-in_err-lent c =
    rw (passed_on c.from_residual.result c.from_residual.ensures.1) (
    let a = c.args in
    let x = job_lengths (folded a.pyramid.now) a.tables.now a.counts.now a.since.now c.in_err-lent.field-0.0 (rw c.both_fit-fit.ensures at c.in_err-lent.ensures) in record { verdict = x.0; tables_left = x.1; counts_left = x.2; since_left = x.3 })

pub returns-in_err-stack : goal.returns-in_err-stack
returns-in_err-stack c =
    rw (passed_on c.from_residual-in_err-stack.result c.from_residual-in_err-stack.ensures.1) (
    let a = c.args in
    let sized = rw c.both_fit-fit.ensures at c.in_ok-lent.ensures in
    let x = job_refused (folded a.pyramid.now) a.tables.now a.counts.now a.since.now sized c.in_err-stack.field-0.0 c.in_err-stack.ensures.verdict c.in_err-stack.ensures.tables_left in record { verdict = x.0; tables_left = x.1; counts_left = x.2; since_left = x.3 })

pub tell-requires : goal.tell-requires
tell-requires c =
    let a = c.args in
    let sized = rw c.both_fit-fit.ensures at c.in_ok-lent.ensures in
    let long = told_lengths (folded a.pyramid.now) a.tables.now a.counts.now a.since.now sized in
    (job_levels (folded a.pyramid.now) a.tables.now a.counts.now a.since.now sized c.in_ok-stack.ensures.verdict c.stack.ensures.tables_left, long.0, long.1)

pub returns : goal.returns
returns c =
    let a = c.args in
    let sized = rw c.both_fit-fit.ensures at c.in_ok-lent.ensures in
    let accepts = c.in_ok-stack.ensures.verdict in
    let x = job_accepted (folded a.pyramid.now) a.tables.now a.counts.now a.since.now sized accepts c.stack.ensures.tables_left c.tell.ensures.counts_left c.tell.ensures.since_left in record { verdict = x.0; tables_left = x.1; counts_left = x.2; since_left = x.3 }
