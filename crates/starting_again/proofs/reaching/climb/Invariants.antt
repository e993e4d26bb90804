-- `starting_again::reaching::climb` meets its contract. The invariant: the kernels passed are removed, and the rows hold the level that they leave. The measure is the kernels left. Assumes nothing.
use Prim.Native.Nat.{ℕ, ◌-◌, ◌≤◌}
use Rattle.maps.specs.Folded.{of_parts}
use Rattle.climbing.specs.Climb.{Climbed}
use Rattle.starting_again.specs.Reaching.{Reached}
use Rattle.starting_again.proofs.reaching.climb.Given as goal

abbrev pub invariant-loop-l : goal.invariant-loop-l
invariant-loop-l l = (l.l ≤ l.l-end) × ((h : ℕ) → Reached (of_parts l.n.0 l.darts h l.initial.rows l.lambda l.delta) l.l-end → Climbed (of_parts l.n.0 l.darts h l.initial.rows l.lambda l.delta) l.l l.strings.head l.strings.next l.rows)

abbrev pub decreases-loop-l : goal.decreases-loop-l
decreases-loop-l l = l.l-end - l.l
