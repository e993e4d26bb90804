-- `writing::putting::put_row` meets its contract: a head, and the entries after it. Assumes nothing.
use mathlib.Core.Path.{refl}
use native.Mathlib.Omega.{arith}
use Rattle.taking.proofs.Fields.{length_two}
use Rattle.writing.proofs.Put.{put_field, put_within}
use Rattle.writing.proofs.putting.put_row.Goals as goal

pub returns : goal.returns
returns c =
    let head = c.put_head.ensures in
    let two = length_two c.args.row.now in
    let body = put_within 3 _ c.put_head.new.to c.put_entries.new.to (omega (arith, head.laid.long)) (omega (arith, head.laid.long)) c.put_entries.ensures in
    put_field head body refl two
