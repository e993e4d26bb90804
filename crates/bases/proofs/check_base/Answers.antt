-- `bases::check_base` meets its contract. Assumes nothing.
use Rattle.maps.specs.CheckBase.{check_base}
use Rattle.bases.proofs.check_base.Goals as goal

pub returns : goal.returns
unfolding check_base
returns c = c.check_table.ensures
