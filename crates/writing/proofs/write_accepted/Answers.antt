-- `writing::write_accepted` meets its contract: nothing is written before the buffer is known to be long enough. Assumes nothing.
use mathlib.Core.Path.{ap, ◌∙◌}
use Prim.Native.Nat.{ℕ}
use native.Mathlib.Omega.{arith}
use Rattle.maps.specs.Verdict.{accepted}
use Rattle.writing.proofs.Whole.{accepts, too_short, all_written}
use Rattle.writing.proofs.write_accepted.Goals as goal

pub record_size-size-requires : goal.record_size-size-requires
record_size-size-requires c = let p = accepts _ c.requires in (p.dimension.1, p.darts.1)

pub returns-then-bytes-size : goal.returns-then-bytes-size
returns-then-bytes-size c =
    let s = c in let both =
    too_short _ c.requires c.args.bytes.now (omega (arith, s.record_size-size.ensures)) in record { answer = both.0; bytes_left = both.1 }

pub put_record-requires : goal.put_record-requires
put_record-requires c =
    let s = c in
    let p = accepts _ c.requires in
    (p.dimension.1, p.darts.1, p.rows_length, p.lambda_length, p.delta_length, omega (arith, s.record_size-size.ensures))

pub returns : goal.returns
returns c =
    let s = c in
    let x = all_written _ c.requires c.args.bytes.now (omega (arith, s.record_size-size.ensures)) c.put_record.ensures in record { answer = ap (λ (m : ℕ). record { verdict = accepted; bytes = m }) s.record_size-size.ensures ∙ x.0; bytes_left = x.1 }
