-- `writing::putting::put_rows` meets its contract. The invariant: the rows passed are put. The measure: the rows left. Assumes nothing.
use mathlib.Core.Path.{◌≡◌}
use Prim.Native.Nat.{◌+◌, ◌*◌, ◌-◌, zero-le}
use native.Mathlib.Numerals.{add-one}
use native.Mathlib.Omega.{arith}
use lib.ListN.{length}
use Rattle.maps.specs.Write.{row_of, rows_written, field_written, in_two_bytes}
use Rattle.taking.proofs.Laid.{laid_none}
use Rattle.taking.proofs.Fields.{rows_written_lem, row_length, length_field}
use Rattle.taking.proofs.Reach.{row_ends}
use Rattle.writing.proofs.Put.{put_on, put_within}
use Rattle.writing.proofs.putting.put_rows.Goals as goal

pub loop-i-init : goal.loop-i-init
unfolding rows_written
loop-i-init c = (zero-le, record { laid = laid_none _ _ _ })

pub loop-i-preserved : goal.loop-i-preserved
unfolding rows_written row_of
loop-i-preserved c =
    let a = c.args in
    let l = c.loop-i in
    let N = a.darts in
    let from = l.i * N in
    let e : from + N - from ≡ N = omega arith in
    let at = 7 + l.i * (3 + 2 * N) in
    let rows = c.requires.2 in
    let written = rows_written_lem a.n.0 N a.rows.now rows l.i (omega arith) in
    let row = row_length a.n.0 N a.rows.now rows l.i (omega arith) in
    let ends = row_ends l.i a.n.0 (3 + 2 * N) (omega arith) in
    let body = in_two_bytes (row_of N a.rows.now l.i) in
    let field = put_within {list = field_written (0x10 + l.i) body} at (length l.to - at) l.to c.put_row.new.to (omega (arith, l.invariant.1.laid.long)) (omega (arith, l.invariant.1.laid.long, length_field (0x10 + l.i) body)) (rw e at c.put_row.ensures) in
    (omega arith, rw add-one (put_on l.invariant.1 field (omega arith)))
