-- `writing::putting::put_marks` meets its contract: a head, and the marks after it. Assumes nothing.
use mathlib.Core.Path.{refl}
use native.Mathlib.Omega.{arith}
use Rattle.writing.proofs.Put.{put_field, put_part}
use Rattle.writing.proofs.putting.put_marks.Goals as goal

pub returns : goal.returns
returns c =
    let head = c.put_head.ensures in
    let body = put_part c.args.marks.now 3 _ c.put_head.new.to (omega arith) (omega (arith, head.laid.long)) in
    put_field head (rw c.copy_bytes.ensures body) refl refl
