-- `combinatorial::exporting::in_pairs` meets its contract. The invariant: if all were found alike, the pairs before are. Assumes nothing.
use mathlib.Core.Path.{◌≡◌}
use mathlib.Core.Bool.{true}
use Prim.Native.Nat.{ℕ, ◌≤◌, ◌<◌}
use Rattle.maps.specs.Table.{each}
use Rattle.combinatorial.specs.Back.{Paired}
use Rattle.combinatorial.proofs.exporting.in_pairs.Given as goal

abbrev pub invariant-loop-d : goal.invariant-loop-d
invariant-loop-d l = (l.d ≤ l.half) × (l.all ≡ true → (x : ℕ) → x < l.d → Paired (each l.edge) (each l.turn) x)
