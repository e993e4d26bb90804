-- `writing::putting::put_rows` meets its contract. The invariant: the rows passed are put. The measure: the rows left. Assumes nothing.
use Prim.Native.Nat.{◌-◌, ◌≤◌}
use Rattle.maps.specs.Write.{rows_written}
use Rattle.writing.specs.Put.{Put}
use Rattle.writing.proofs.putting.put_rows.Given as goal

abbrev pub invariant-loop-i : goal.invariant-loop-i
invariant-loop-i l = (l.i ≤ l.i-end) × Put (rows_written l.darts l.rows l.i) 7 l.initial.to l.to

abbrev pub decreases-loop-i : goal.decreases-loop-i
decreases-loop-i l = l.i-end - l.i
