-- `writing::putting::put_header` meets its contract. Assumes nothing.
use mathlib.Core.Path.{refl}
use mathlib.Core.List.{[], ◌∷◌}
use Prim.Native.Nat.{◌/◌, ◌%◌}
use native.Mathlib.Omega.{arith}
use Rattle.maps.specs.Write.{field_written, in_two_bytes}
use Rattle.writing.proofs.Put.{high_byte, put_part}
use Rattle.writing.proofs.putting.put_header.Goals as goal

pub returns : goal.returns
unfolding field_written in_two_bytes
returns c =
    let s = c.args.sizes in
    let body = 0x01 ∷ 4 ∷ 0 ∷ s.n.0 ∷ s.h.0 ∷ s.darts % 256 ∷ s.darts / 256 % 256 ∷ [] in
    let e = high_byte s.darts (omega arith) in
    rw (← e, c.copy_from_slice.ensures.after, c.to_le_bytes-darts.ensures) (put_part body 0 7 c.args.to.now refl c.requires)
