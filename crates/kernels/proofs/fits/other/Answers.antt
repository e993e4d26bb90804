-- `kernels::fits::other` meets its contract. Assumes nothing.
use native.Mathlib.Omega.{arith}
use native.Mathlib.Numerals.{add-one}
use borrow.Author.Tests.{lt-ltb, le-ltb}
use Rattle.maps.specs.Mark.{between}
use Rattle.kernels.specs.Walked.{other_row}
use Rattle.kernels.proofs.fits.other.Goals as goal

pub returns-then-k-rows : goal.returns-then-k-rows
unfolding other_row
returns-then-k-rows c =
    let b = c in
    let a = b.args in
    rw (lt-ltb a.k (between a.mark.0).0 (omega (arith, c.if-k-rows.true, b.between-rows.ensures.0)))

pub returns : goal.returns
unfolding other_row
returns c =
    let b = c in
    let a = b.args in
    rw (le-ltb a.k (between a.mark.0).0 (omega (arith, c.if-k-rows.false, b.between-rows.ensures.0))) (add-one a.k)
