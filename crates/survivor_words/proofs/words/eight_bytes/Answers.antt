-- `survivor_words::words::eight_bytes` meets its contract. Assumes nothing.
use native.Mathlib.Omega.{arith}
use Rattle.maps.specs.Count.{sum}
use Rattle.survivor_words.specs.Parts.{lanes}
use Rattle.survivor_words.proofs.words.eight_bytes.Goals as goal

pub returns : goal.returns
unfolding sum lanes
returns c = omega (arith, c.from_le_bytes.ensures)
