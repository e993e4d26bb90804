-- `orbits::push` meets its contract. Assumes nothing.
use Rattle.orbits.specs.Search.{pushed}
use Rattle.orbits.proofs.push.Goals as goal

pub returns-then-reached-place : goal.returns-then-reached-place
unfolding pushed
returns-then-reached-place c = simp c.if-reached-place.true

pub returns : goal.returns
unfolding pushed
returns c = simp c.if-reached-place.false
