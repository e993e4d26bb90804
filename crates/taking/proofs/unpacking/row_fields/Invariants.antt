-- `taking::row_fields` meets its contract. The invariant: the rows before are accepted. The measure: the rows left. Assumes nothing.
use mathlib.Core.Path.{◌≡◌}
use Prim.Native.Nat.{◌-◌, ◌≤◌}
use Rattle.maps.specs.Verdict.{accepted, scan}
use Rattle.taking.specs.Parts.{row_field}
use Rattle.taking.proofs.unpacking.row_fields.Given as goal

abbrev pub invariant-loop-i : goal.invariant-loop-i
invariant-loop-i l = (l.i ≤ l.i-end) × (scan l.i (row_field l.bytes l.one l.size) ≡ accepted)

abbrev pub decreases-loop-i : goal.decreases-loop-i
decreases-loop-i l = l.i-end - l.i
