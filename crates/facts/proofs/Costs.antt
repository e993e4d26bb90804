-- What reading a whole level of an accepted pyramid costs. Assumes nothing.
use mathlib.Core.Path.{ap}
use Prim.Native.Nat.{ℕ, suc, ◌+◌, ◌*◌, ◌≤◌}
use Rattle.maps.specs.Map.{Involutions}
use Rattle.maps.specs.Folded.{survivors, removed_below}
use Rattle.maps.specs.Walk.{count_of, walk}
use Rattle.maps.specs.Cost.{reads, cost}
use Rattle.maps.specs.Pyramid.{Pyramid}
use Rattle.facts.proofs.Readings.{own, walk_course}

-- at most (n+1)·survivors + 2·removed base entries
pub cost_bound : (a : Involutions) (n N h : ℕ) (Λ Δ : ℕ → ℕ) → Pyramid a n N h Λ Δ → (l : ℕ) → l ≤ h → cost a n N h Λ Δ l ≤ suc n * survivors N Λ l + 2 * removed_below N Λ l
unfolding cost reads
cost_bound a n N h Λ Δ y l k = (own a n N h Λ Δ y l k).bound (λ i b. count_of (walk a n N h Λ Δ l i b)) (λ i b li o. ap count_of (walk_course a n N h Λ Δ y l k i b li o))
