-- `orbits::orbit` meets its contract. The invariant: each dart before the queue's head had its turn; the measure is the darts that the queue can still take. Assumes nothing.
use mathlib.Core.Path.{◌≡◌}
use Prim.Native.Nat.{◌-◌, ◌≤◌}
use Rattle.maps.specs.Table.{entry}
use Rattle.orbits.specs.Choices.{chosen}
use Rattle.orbits.specs.Search.{state, turns}
use Rattle.orbits.proofs.orbit.Given as goal

abbrev pub invariant-loop-head : goal.invariant-loop-head
invariant-loop-head l = (l.initial.head ≤ l.head) × (l.head ≤ l.tail) × (state l.reached l.queue l.tail ≡ turns (entry l.search.darts l.table) l.search.n.0 (chosen l.choices) l.initial.head (state l.initial.reached l.initial.queue l.initial.tail) (l.head - l.initial.head))

abbrev pub decreases-loop-head : goal.decreases-loop-head
decreases-loop-head l = l.search.darts - l.head
