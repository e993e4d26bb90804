-- `taking::unpack` meets its contract: nothing is copied before all is tested. Assumes nothing.
use mathlib.Core.Bool.{Bool, ◌&&◌}
use mathlib.Core.Path.{◌≡◌, refl, sym}
use Prim.Native.Nat.{suc, ◌*◌}
use native.Mathlib.Omega.{arith}
use lib.Dec.{leb}
use lib.ListN.{length}
use Rattle.maps.specs.Record.{one_byte_by, byte}
use Rattle.answers.proofs.Refusals.{passed_on, refused_first, refused_second}
use Rattle.taking.specs.Answers.{allowed_of}
use Rattle.taking.proofs.Whole.{Told, left_alone, lent_is, small, room_for, all_unpacked}
use Rattle.taking.proofs.unpacking.unpack.Goals.{After-from_le_bytes-darts, After-long_enough-enough}
use Rattle.taking.proofs.unpacking.unpack.Goals as goal

-- the header was read; whatever is said of the rows' kind and of the room for them
header_told : (c : After-from_le_bytes-darts) (one enough : Bool) → let a = c.args in let n = c.byte_at.result in let N = c.from_le_bytes-darts.result in one ≡ one_byte_by (allowed_of a.allowed) (byte a.bytes.now 7) N → enough ≡ (leb (suc n * N) (length a.rows.now) && (leb N (length a.lambda.now) && (leb N (length a.delta.now) && leb (suc n * N) (length a.table.now)))) → Told a.bytes.now (allowed_of a.allowed) a.rows.now a.lambda.now a.delta.now a.table.now n c.byte_at-2.result N one enough
header_told c one enough e f = record { dimension = c.byte_at.ensures; height = c.byte_at-2.ensures; darts = omega (arith, c.from_le_bytes-darts.ensures, c.byte_at-3.ensures, c.byte_at-4.ensures); kind = e; fit = f }

-- and what the code says of them
all_told : (c : After-long_enough-enough) → let a = c.args in Told a.bytes.now (allowed_of a.allowed) a.rows.now a.lambda.now a.delta.now a.table.now c.byte_at.result c.byte_at-2.result c.from_le_bytes-darts.result c.one_byte-one.result c.long_enough-enough.result
all_told c = header_told (goal.at.After-long_enough-enough c).After-from_le_bytes-darts _ _ c.one_byte-one.ensures c.long_enough-enough.ensures

pub returns-in_err-header : goal.returns-in_err-header
returns-in_err-header c =
    let t = header_told (goal.at.returns-in_err-header c).After-from_le_bytes-darts _ _ refl refl in
    let r = c.in_err-header.field-0.0 in
    let both = left_alone _ _ _ _ _ _ r (refused_first _ _ _ (lent_is t) r c.in_err-header.ensures) in
    rw (passed_on c.from_residual.result c.from_residual.ensures.1) (record { answer = both.0; rows_left = both.1.0; lambda_left = both.1.1.0; delta_left = both.1.1.1 })

pub rest-requires : goal.rest-requires
rest-requires c = let z = small (all_told c) (sym c.in_ok-header.ensures) in (z.dimension, z.darts)

pub returns-in_err-rest : goal.returns-in_err-rest
returns-in_err-rest c =
    let t = all_told (goal.at.returns-in_err-rest c).After-long_enough-enough in
    let r = c.in_err-rest.field-0.0 in
    let both = left_alone _ _ _ _ _ _ r (refused_second _ _ _ (lent_is t) r c.in_ok-header.ensures c.in_err-rest.ensures) in
    let out = c.from_residual-in_err-rest in
    rw (passed_on out.result out.ensures.1) (record { answer = both.0; rows_left = both.1.0; lambda_left = both.1.1.0; delta_left = both.1.1.1 })

pub copy_all-requires : goal.copy_all-requires
copy_all-requires c = room_for (all_told (goal.at.copy_all-requires c).After-long_enough-enough) (sym c.in_ok-header.ensures) (sym c.in_ok-rest.ensures)

pub returns : goal.returns
returns c =
    let t = all_told (goal.at.returns c).After-long_enough-enough in
    let laid = c.copy_all.ensures in
    let both = all_unpacked t (sym c.in_ok-header.ensures) (sym c.in_ok-rest.ensures) laid.rows_left laid.lambda_left laid.delta_left in
    record { answer = both.0; rows_left = both.1.0; lambda_left = both.1.1.0; delta_left = both.1.1.1 }
