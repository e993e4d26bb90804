-- `taking::copy_rows` meets its contract. The invariant: the rows passed are laid. The measure: the rows left. Assumes nothing.
use mathlib.Core.Path.{◌≡◌}
use Prim.Native.Nat.{◌*◌, ◌-◌, ◌≤◌}
use Rattle.taking.specs.Parts.{size_of, table_entry, Laid}
use Rattle.taking.proofs.unpacking.copy_rows.Given as goal

abbrev pub invariant-loop-i : goal.invariant-loop-i
invariant-loop-i l = (l.i ≤ l.i-end) × (l.size ≡ size_of l.darts l.one) × Laid (table_entry l.bytes l.darts l.one) 0 (l.i * l.darts) l.initial.rows l.rows

abbrev pub decreases-loop-i : goal.decreases-loop-i
decreases-loop-i l = l.i-end - l.i
