-- `regions::contracted` meets its contract. The invariant: no dart before is contracted. Assumes nothing.
use mathlib.Core.Path.{◌≡◌}
use mathlib.Core.Bool.{false}
use Prim.Native.Nat.{ℕ, ◌<◌}
use Rattle.maps.specs.Mark.{contracts}
use Rattle.maps.specs.Table.{each}
use Rattle.regions.proofs.contracted.Given as goal

abbrev pub invariant-loop-d : goal.invariant-loop-d
invariant-loop-d l = (k : ℕ) → k < l.d → contracts (each l.pyramid.delta.now k) ≡ false
