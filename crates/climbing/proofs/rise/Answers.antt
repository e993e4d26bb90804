-- `climbing::rise` meets its contract: all kernels are those below the height. Assumes nothing.
use borrow.Author.Rules.{rules}
use Rattle.maps.specs.Check.{check_kernels}
use Rattle.climbing.proofs.rise.Goals as goal

pub returns : goal.returns
unfolding check_kernels
returns c = record { verdict = search rules; table_left = search rules }
