-- `checking::pyramid::add_lent` meets its contract. Assumes nothing.
use borrow.Author.Tests.{eq-eqb, ne_eqb}
use Rattle.maps.specs.AddLevel.{number20}
use Rattle.checking.proofs.pyramid.add_lent.Goals as goal

pub returns-then-pyramid-eq-MOST_HEIGHT : goal.returns-then-pyramid-eq-MOST_HEIGHT
unfolding number20
returns-then-pyramid-eq-MOST_HEIGHT c = rw (← (rw (c.fit-all.ensures, c.added_fit.ensures) at c.in_ok-lent.ensures), eq-eqb c.args.pyramid.now.sizes.h.0 32 c.if-pyramid-eq-MOST_HEIGHT.true)

pub returns : goal.returns
unfolding number20
returns c = rw (← (rw (c.fit-all.ensures, c.added_fit.ensures) at c.in_ok-lent.ensures), ne_eqb c.args.pyramid.now.sizes.h.0 32 c.if-pyramid-eq-MOST_HEIGHT.false)
