-- `stacking::stack` meets its contract. Assumes nothing.
use Rattle.answers.specs.Pyramid.{folded}
use Rattle.answers.proofs.Refusals.{passed_on}
use Rattle.stacking.proofs.Lengths.{stack_refused, stack_asked, stack_climbed}
use Rattle.stacking.proofs.stack.Goals as goal

pub returns-in_err-early_with : goal.returns-in_err-early_with
returns-in_err-early_with c =
    rw (passed_on c.from_residual.result c.from_residual.ensures.1) (
    let a = c.args in
    let both = stack_refused (folded a.pyramid.now) a.tables.now c.in_err-early_with.field-0.0 (rw c.blocks_fit-blocks.ensures at c.in_err-early_with.ensures) in record { verdict = both.0; tables_left = both.1 })

pub climb-requires : goal.climb-requires
climb-requires c =
    let a = c.args in stack_asked (folded a.pyramid.now) a.tables.now (rw c.blocks_fit-blocks.ensures at c.in_ok-early_with.ensures)

pub returns : goal.returns
returns c =
    let a = c.args in
    let both = stack_climbed (folded a.pyramid.now) a.tables.now (rw c.blocks_fit-blocks.ensures at c.in_ok-early_with.ensures) c.climb.ensures.verdict c.climb.ensures.tables_left in record { verdict = both.0; tables_left = both.1 }
