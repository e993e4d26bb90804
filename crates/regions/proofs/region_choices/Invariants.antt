-- `regions::region_choices` meets its contract. The invariant: the darts passed have their choices. Assumes nothing.
use mathlib.Core.Path.{◌≡◌}
use Prim.Native.Nat.{ℕ, ◌≤◌, ◌<◌}
use lib.ListN.{length}
use Rattle.maps.specs.Table.{each}
use Rattle.orbits.specs.Choices.{chosen}
use Rattle.regions.specs.Searches.{region_rows}
use Rattle.regions.proofs.region_choices.Given as goal

abbrev pub invariant-loop-d : goal.invariant-loop-d
invariant-loop-d l = (length l.entry-items ≡ length l.pyramid.lambda.now) × ((k : ℕ) → k < l.d → (j : ℕ) → j ≤ l.pyramid.sizes.n.0 → chosen l.entry-items j k ≡ region_rows l.pyramid.sizes.n.0 (each l.pyramid.lambda.now) (each l.pyramid.delta.now) l.level.0 j k)
