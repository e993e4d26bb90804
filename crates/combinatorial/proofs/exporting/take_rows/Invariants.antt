-- `combinatorial::exporting::take_rows` meets its contract. The invariant: the entries of the darts passed are written. Assumes nothing.
use mathlib.Core.Path.{◌≡◌}
use Prim.Native.Nat.{ℕ, ◌≤◌, ◌<◌}
use lib.ListN.{length, get_or}
use Rattle.maps.specs.Table.{entry}
use Rattle.combinatorial.specs.Back.{edge_of, vertex_of}
use Rattle.combinatorial.proofs.exporting.take_rows.Given as goal

abbrev pub invariant-loop-d : goal.invariant-loop-d
invariant-loop-d l = (l.d ≤ l.d-end) × (length l.edges ≡ length l.initial.edges) × (length l.vertices ≡ length l.initial.vertices) × ((k : ℕ) → k < l.d → get_or l.edges k 0 ≡ edge_of (entry l.table.darts l.table.entries.now) k) × ((k : ℕ) → k < l.d → get_or l.vertices k 0 ≡ vertex_of (entry l.table.darts l.table.entries.now) k)
