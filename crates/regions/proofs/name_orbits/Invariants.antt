-- `regions::name_orbits` meets its contract. The invariant: the orbits of the darts passed are reached, and their darts are named. Assumes nothing.
use Prim.Native.Nat.{◌≤◌}
use Rattle.orbits.specs.Search.{has, Room}
use Rattle.regions.proofs.Naming.{Naming}
use Rattle.regions.proofs.name_orbits.Given as goal

abbrev pub invariant-loop-start : goal.invariant-loop-start
invariant-loop-start l = (l.start ≤ l.pyramid.sizes.darts) × Naming l.pyramid.sizes.n.0 l.pyramid.sizes.darts l.pyramid.rows.now l.choices (has l.reached) l.names l.start × Room l.reached l.queue
