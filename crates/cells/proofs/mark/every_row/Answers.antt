-- `cells::mark::every_row` meets its contract. Assumes nothing.
use Rattle.orbits.proofs.Choices.{all_rows}
use Rattle.cells.proofs.mark.every_row.Goals as goal

pub returns : goal.returns
returns c = all_rows
