-- `combinatorial::importing::outside` meets its contract. The invariant: the entries passed are darts. Assumes nothing.
use Prim.Native.Nat.{ℕ, ◌≤◌, ◌<◌}
use Rattle.maps.specs.Table.{each}
use Rattle.combinatorial.proofs.importing.outside.Given as goal

abbrev pub invariant-loop-d : goal.invariant-loop-d
invariant-loop-d l = (l.d ≤ l.darts) × ((x : ℕ) → x < l.d → each l.row x < l.darts)
