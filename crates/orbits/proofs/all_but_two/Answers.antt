-- `orbits::all_but_two` meets its contract. Assumes nothing.
use Rattle.orbits.proofs.Choices.{bits_low, all_but_two}
use Rattle.orbits.proofs.all_but_two.Goals as goal

pub overflow_sub-result : goal.overflow_sub-result
overflow_sub-result c = bits_low c.args.row.0 c.requires

pub returns : goal.returns
returns c = all_but_two c.args.row.0 c.requires
