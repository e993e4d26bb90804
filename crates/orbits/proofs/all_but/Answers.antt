-- `orbits::all_but` meets its contract. Assumes nothing.
use Rattle.orbits.proofs.Choices.{bit_low, all_but}
use Rattle.orbits.proofs.all_but.Goals as goal

pub overflow_sub-result : goal.overflow_sub-result
overflow_sub-result c = bit_low c.args.row.0 c.requires

pub returns : goal.returns
returns c = all_but c.args.row.0 c.requires
