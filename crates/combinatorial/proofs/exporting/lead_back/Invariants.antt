-- `combinatorial::exporting::lead_back` meets its contract. The invariant: the pairs before lead back. Assumes nothing.
use Prim.Native.Nat.{ℕ, ◌≤◌, ◌<◌}
use Rattle.maps.specs.Table.{each}
use Rattle.combinatorial.specs.Back.{Backward}
use Rattle.combinatorial.proofs.exporting.lead_back.Given as goal

abbrev pub invariant-loop-d : goal.invariant-loop-d
invariant-loop-d l = (l.d ≤ l.half) × ((x : ℕ) → x < l.d → Backward (each l.edge) (each l.turn) x)
