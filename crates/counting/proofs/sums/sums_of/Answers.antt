-- `counting::sums::sums_of` meets its contract: each sum is that of the row in its place. Assumes nothing.
use native.Mathlib.Omega.{arith}
use Rattle.counting.proofs.sums.sums_of.Goals as goal

pub returns : goal.returns
returns c = record { long = c.loop-l.invariant.0; sum = λ l ll. c.loop-l.invariant.1 l (omega arith) }
