-- `kernels::removing::clear_dart` meets its contract. The invariant: the dart is cleared in the rows passed. The measure is the rows left. Assumes nothing.
use native.Mathlib.Omega.{arith}
use Rattle.kernels.proofs.Places.{place}
use Rattle.kernels.proofs.Clearing.{rows_more}
use Rattle.kernels.proofs.removing.clear_dart.Goals as goal

pub loop-i-preserved : goal.loop-i-preserved
loop-i-preserved c =
    let h = c in
    let s = c in
    (omega arith, rw c.put.ensures (rows_more s.args.d h.loop-i.invariant.1 (place s.requires.0 h.loop-i.i s.args.d (omega arith) s.requires.1)))
