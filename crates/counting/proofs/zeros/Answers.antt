-- `counting::zeros` meets its contract. Assumes nothing.
use mathlib.Core.Path.{refl}
use Rattle.counting.specs.Counts.{zeroed}
use Rattle.counting.proofs.zeros.Goals as goal

pub returns : goal.returns
unfolding zeroed
returns c = refl
