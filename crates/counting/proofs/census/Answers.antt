-- `counting::census` meets its contract: the check's verdict, then the counts of all levels and their sums. Assumes nothing.
use Rattle.answers.specs.Pyramid.{folded}
use Rattle.answers.proofs.Refusals.{told}
use Rattle.counting.proofs.Whole.{left_accepted, left_table, census_left}
use Rattle.counting.proofs.census.Goals as goal

pub count_levels-counts-requires : goal.count_levels-counts-requires
count_levels-counts-requires c = let a = c.args in left_accepted (folded a.pyramid.now) a.table.now a.cells.now a.sums.now (told c.check.ensures.verdict c.in_ok-check.was) _ c.check.ensures.table_left

pub returns : goal.returns
returns c =
    let a = c.args in
    let P = folded a.pyramid.now in
    let fine = told c.check.ensures.verdict c.in_ok-check.was in
    record { verdict = fine; table_left = left_table P a.table.now a.cells.now a.sums.now fine _ c.count_levels-counts.ensures.table_left; counts = census_left P a.table.now a.cells.now a.sums.now fine _ _ c.count_levels-counts.ensures.counted c.sums_of.ensures }
