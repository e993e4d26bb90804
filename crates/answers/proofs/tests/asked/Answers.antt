-- `answers::tests::asked` meets its contract. Assumes nothing.
use Rattle.maps.specs.Sizes.{number11}
use native.Mathlib.Omega.{arith}
use borrow.Author.Tests.{lt-ltb, le-ltb}
use Rattle.answers.proofs.tests.asked.Goals as goal

pub returns-then-sizes-level : goal.returns-then-sizes-level
unfolding number11
returns-then-sizes-level c =
    let a = c.args in
    rw (← c.lent.ensures, c.in_ok-lent.was, lt-ltb a.sizes.h.0 a.question.level.0 (omega arith))

pub returns : goal.returns
unfolding number11
returns c =
    let a = c.args in
    rw (← c.lent.ensures, c.in_ok-lent.was, le-ltb a.sizes.h.0 a.question.level.0 (omega arith))
