-- `answers::tests::in_range` meets its contract. Assumes nothing.
use native.Mathlib.Omega.{arith}
use borrow.Author.Tests.{le-leb, lt-leb, lt-ltb, le-ltb}
use Rattle.maps.specs.Sizes.{sizes, number1, number2, number3}
use Rattle.answers.proofs.tests.in_range.Goals as goal

pub returns-then-sizes-lt1 : goal.returns-then-sizes-lt1
unfolding sizes number1 number2 number3
returns-then-sizes-lt1 c = let a = c.args in simp (lt-leb 1 a.sizes.n.0 (omega arith))

pub returns-then-sizes-gt-MOST_DIMENSION : goal.returns-then-sizes-gt-MOST_DIMENSION
unfolding sizes number1 number2 number3
returns-then-sizes-gt-MOST_DIMENSION c = let a = c.args in simp (le-leb 1 a.sizes.n.0 (omega arith), lt-leb a.sizes.n.0 4 (omega arith))

pub returns-then-sizes-lt1-2 : goal.returns-then-sizes-lt1-2
unfolding sizes number1 number2 number3
returns-then-sizes-lt1-2 c = let a = c.args in simp (le-leb 1 a.sizes.n.0 (omega arith), le-leb a.sizes.n.0 4 (omega arith), lt-leb 1 a.sizes.darts (omega arith))

pub returns-then-sizes-gt-MOST_DARTS : goal.returns-then-sizes-gt-MOST_DARTS
unfolding sizes number1 number2 number3
returns-then-sizes-gt-MOST_DARTS c = let a = c.args in simp (le-leb 1 a.sizes.n.0 (omega arith), le-leb a.sizes.n.0 4 (omega arith), le-leb 1 a.sizes.darts (omega arith), lt-leb a.sizes.darts 4096 (omega arith))

pub returns-then-sizes-gt-MOST_HEIGHT : goal.returns-then-sizes-gt-MOST_HEIGHT
unfolding sizes number1 number2 number3
returns-then-sizes-gt-MOST_HEIGHT c = let a = c.args in simp (le-leb 1 a.sizes.n.0 (omega arith), le-leb a.sizes.n.0 4 (omega arith), le-leb 1 a.sizes.darts (omega arith), le-leb a.sizes.darts 4096 (omega arith), lt-ltb 32 a.sizes.h.0 (omega arith))

pub returns : goal.returns
unfolding sizes number1 number2 number3
returns c = let a = c.args in simp (le-leb 1 a.sizes.n.0 (omega arith), le-leb a.sizes.n.0 4 (omega arith), le-leb 1 a.sizes.darts (omega arith), le-leb a.sizes.darts 4096 (omega arith), le-ltb 32 a.sizes.h.0 (omega arith))
