-- `combinatorial::importing::put_edges` meets its contract. The invariant: the pairs of the darts passed are written, and no more. Assumes nothing.
use Prim.Native.Nat.{◌*◌, ◌≤◌}
use Rattle.maps.specs.Table.{each}
use Rattle.combinatorial.specs.Rows.{Kept, Pairs}
use Rattle.combinatorial.proofs.importing.put_edges.Given as goal

abbrev pub invariant-loop-d : goal.invariant-loop-d
invariant-loop-d l = (l.d ≤ l.darts) × (Pairs l.d 0 (λ e. 2 * each l.edges e) l.rows × Kept l.d 0 l.initial.rows l.rows)
