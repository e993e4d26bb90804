-- `bases::first_due` meets its contract. Each loop's invariant says that no place before is due. Assumes nothing.
use mathlib.Core.Path.{◌≡◌}
use mathlib.Core.Bool.{false}
use Prim.Native.Nat.{ℕ, ◌<◌}
use Rattle.std.specs.Prelude.{None}
use Rattle.bases.specs.Places.{row, NoneBefore}
use Rattle.bases.proofs.first_due.Given as goal

abbrev pub invariant-loop-d : goal.invariant-loop-d
invariant-loop-d g l = (l.i < l.i-end) × NoneBefore (goal.F-post g l.due) l.darts l.i × ((e : ℕ) → e < l.d → goal.F-post g l.due (row l.i) e false) × (l.found ≡ None)

abbrev pub invariant-rows : goal.invariant-rows
invariant-rows g l = NoneBefore (goal.F-post g l.due) l.darts l.i × (l.found ≡ None)
