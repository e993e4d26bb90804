-- `combinatorial::importing::not_twice` meets its contract. The invariant: the edges of the darts passed lead back. Assumes nothing.
use mathlib.Core.Path.{◌≡◌}
use Prim.Native.Nat.{ℕ, ◌≤◌, ◌<◌}
use Rattle.maps.specs.Table.{each}
use Rattle.combinatorial.proofs.importing.not_twice.Given as goal

abbrev pub invariant-loop-d : goal.invariant-loop-d
invariant-loop-d l = (l.d ≤ l.darts) × ((x : ℕ) → x < l.d → each l.edges (each l.edges x) ≡ x)
