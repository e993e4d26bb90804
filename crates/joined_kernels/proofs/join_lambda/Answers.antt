-- `joined_kernels::join_lambda` meets its contract. The invariant: the darts passed have their joined Λ. The measure: the darts left. Assumes nothing.
use mathlib.Core.Path.{refl}
use Rattle.climbing.proofs.Rows.{row_all}
use Rattle.joined_kernels.proofs.join_lambda.Goals as goal

pub returns : goal.returns
returns c = row_all c.loop-own.invariant.1 _ refl c.loop-own-test.false
