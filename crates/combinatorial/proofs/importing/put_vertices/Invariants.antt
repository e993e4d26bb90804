-- `combinatorial::importing::put_vertices` meets its contract. The invariant: the links of the darts passed are written, and nothing outside the row. Assumes nothing.
use Prim.Native.Nat.{◌*◌, ◌≤◌}
use Rattle.maps.specs.Table.{each}
use Rattle.combinatorial.specs.Rows.{Kept, Turns}
use Rattle.combinatorial.proofs.importing.put_vertices.Given as goal

abbrev pub invariant-loop-d : goal.invariant-loop-d
invariant-loop-d l = (l.d ≤ l.darts) × Turns l.d (2 * l.darts) (each l.vertices) l.rows × Kept l.darts (2 * l.darts) l.initial.rows l.rows
