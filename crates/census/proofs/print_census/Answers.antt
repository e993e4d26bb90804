-- `census::print_census` meets its contract: in an accepted pyramid n is at most 4 and h at most 32. Assumes nothing.
use mathlib.Core.Path.{sym}
use Rattle.answers.specs.Pyramid.{folded}
use Rattle.answers.proofs.Refusals.{told}
use Rattle.facts.proofs.ExactJobs.{check_accepts}
use Rattle.census.proofs.print_census.Goals as goal

pub all_levels-requires : goal.all_levels-requires
all_levels-requires g c =
    let a = c.args in
    let p = check_accepts (folded a.pyramid.now) a.table.now (sym (told c.census.ensures.verdict c.in-Ok.is)) in
    (p.dimension.1, p.height)
