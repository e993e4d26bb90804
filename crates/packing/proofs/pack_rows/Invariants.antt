-- `packing::pack_rows` meets its contract. The invariant: the rows passed are packed, `from` and `to` are where the next is read and written. The measure: the rows left. Assumes nothing.
use mathlib.Core.Path.{◌≡◌}
use Prim.Native.Nat.{◌*◌, ◌-◌, ◌≤◌}
use lib.ListN.{length}
use Rattle.maps.specs.Table.{each}
use Rattle.maps.specs.NewBase.{new_darts}
use Rattle.packing.proofs.Packs.{Rows}
use Rattle.packing.proofs.pack_rows.Given as goal

abbrev pub invariant-loop-i : goal.invariant-loop-i
invariant-loop-i l = (l.i ≤ l.i-end) × (l.to ≤ l.from) × (l.from ≤ length l.rows) × (l.from ≡ l.i * length l.lambda) × (l.to ≡ l.i * new_darts (length l.lambda) (each l.lambda) l.level.0) × Rows (each l.lambda) l.level.0 (length l.lambda) l.i l.initial.rows l.rows

abbrev pub decreases-loop-i : goal.decreases-loop-i
decreases-loop-i l = l.i-end - l.i
