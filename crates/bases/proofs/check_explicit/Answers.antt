-- `bases::check_explicit` meets its contract. Assumes nothing.
use Rattle.maps.specs.CheckBase.{check_explicit}
use Rattle.bases.proofs.check_explicit.Goals as goal

pub returns : goal.returns
unfolding check_explicit
returns c = c.check_table.ensures
