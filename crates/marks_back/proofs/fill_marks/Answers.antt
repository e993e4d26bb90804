-- `marks_back::fill_marks` meets its contract. The invariant: the darts passed have their marks. The measure: the darts left. Assumes nothing.
use native.Mathlib.Omega.{arith}
use lib.ListN.{length}
use Rattle.maps.specs.Table.{each}
use Rattle.maps.specs.Folded.{marks}
use Rattle.laws.proofs.Tables.{listed_of}
use Rattle.marks_back.proofs.fill_marks.Goals as goal

pub returns : goal.returns
returns c =
    let a = c.args in
    let l = c.loop-d in
    listed_of (marks a.h.0 (each a.lambda.now) (each a.delta.now) a.level.0) (length a.out.now) l.out l.invariant.2 (λ k lt. l.invariant.3 k (omega arith))
