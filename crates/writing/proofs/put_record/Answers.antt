-- `writing::put_record` meets its contract: each field is put where the one before it ends. Assumes nothing.
use mathlib.Core.Path.{◌≡◌, refl}
use Prim.Native.Nat.{ℕ, suc, ◌+◌, ◌*◌, ◌-◌}
use native.Mathlib.Numerals.{add-one}
use native.Mathlib.Omega.{arith}
use lib.ListN.{length}
use borrow.Rule.Slice.PartMut.{put_mid}
use Rattle.maps.specs.Write.{field_written, in_two_bytes, written}
use Rattle.taking.proofs.Fields.{length_field, rows_written_lem}
use Rattle.writing.proofs.Put.{put_on, put_within}
use Rattle.writing.proofs.put_record.Goals as goal

-- where Λ stands
marks-at : (n N : ℕ) → 7 + (n + 1) * (3 + 2 * N) ≡ 7 + suc n * (3 + 2 * N)
marks-at n N = rw add-one

pub returns : goal.returns
unfolding written field_written in_two_bytes
returns c =
    let p = c.args.pyramid.now in
    let n = p.sizes.n.0 in
    let N = p.sizes.darts in
    let at = 7 + (n + 1) * (3 + 2 * N) in
    let behind = at + (3 + N) in
    let mid = c.put_rows.new.to in
    let q = marks-at n N in
    let long : length mid ≡ length c.args.bytes.now = omega (arith, c.put_rows.ensures.laid.long, c.put_header.ensures.laid.long) in
    let lambda_long = length_field 0x30 p.lambda.now in
    let delta_long = length_field 0x31 p.delta.now in
    let lambda = put_within {list = field_written 0x30 p.lambda.now} at (length mid - at) mid c.put_marks.new.to (omega arith) (omega arith) c.put_marks.ensures in
    let last = put_mid at (length mid - at) mid c.put_marks.new.to in
    let delta = put_within {list = field_written 0x31 p.delta.now} behind (length last - behind) last c.put_marks-2.new.to (omega (arith, lambda.laid.long)) (omega (arith, lambda.laid.long)) c.put_marks-2.ensures in
    let marks = put_on lambda delta (omega arith) in
    let rest = put_on c.put_rows.ensures marks (omega (arith, q, rows_written_lem n N p.rows.now c.requires.2 (suc n) (omega arith))) in
    put_on c.put_header.ensures rest refl
