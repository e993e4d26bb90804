-- `regions::give` meets its contract. The invariant: the darts passed have the name. Assumes nothing.
use Rattle.regions.specs.Searches.{Given}
use Rattle.regions.proofs.give.Given as goal

abbrev pub invariant-loop-d : goal.invariant-loop-d
invariant-loop-d l = Given l.name l.found l.d-index l.initial.names l.names
