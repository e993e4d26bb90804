-- `answers::tests::lent` meets its contract. Assumes nothing.
use Rattle.maps.specs.Sizes.{number4}
use Rattle.answers.proofs.tests.lent.Goals as goal

pub returns-then-not-fit : goal.returns-then-not-fit
unfolding number4
returns-then-not-fit c = rw (← c.in_range.ensures, c.in_ok-in_range.was, c.if-not-fit.true)

pub returns : goal.returns
unfolding number4
returns c = rw (← c.in_range.ensures, c.in_ok-in_range.was, c.if-not-fit.false)
