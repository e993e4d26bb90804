-- `combinatorial::importing::put_sides` meets its contract. The invariant: the pairs of the darts passed are written, and no more. Assumes nothing.
use Prim.Native.Nat.{◌*◌, ◌≤◌}
use Rattle.combinatorial.specs.Rows.{Kept, Pairs}
use Rattle.combinatorial.proofs.importing.put_sides.Given as goal

abbrev pub invariant-loop-d : goal.invariant-loop-d
invariant-loop-d l = (l.d ≤ l.darts) × (Pairs l.d (4 * l.darts) (λ e. 2 * e) l.rows × Kept l.d (4 * l.darts) l.initial.rows l.rows)
