-- `kernels::Kernel::clear_strung` meets its contract. The invariant: whichever darts are strung, those passed are cleared. The measure is the darts left. Assumes nothing.
use native.Mathlib.Omega.{arith}
use Rattle.kernels.proofs.Clearing.{clear_all, clear_further, clear_next}
use Rattle.kernels.proofs.Kernel.clear_strung.Goals as goal

pub loop-d-smaller : goal.loop-d-smaller
loop-d-smaller c =
    let i = c in
    let w = c.requires.0 in
    omega (arith, clear_further w.1 (i.loop-d.invariant w.0 w.1) i.loop-d-test.true c.next_of-d.ensures)

pub loop-d-preserved : goal.loop-d-preserved
loop-d-preserved c test w =
    let i = c in
    clear_next w (i.loop-d.invariant test w) i.loop-d-test.true c.next_of-d.ensures c.clear_dart.ensures

pub returns : goal.returns
returns c test w = clear_all w (c.loop-d.invariant test w) c.loop-d-test.false
