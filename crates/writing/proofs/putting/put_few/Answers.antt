-- `writing::putting::put_few` meets its contract. The invariant: the bytes of the entries passed are laid. Assumes nothing.
use mathlib.Core.Path.{◌≡◌, ap, ◌∙◌}
use mathlib.Core.List.{List}
use Prim.Native.Nat.{ℕ, ◌*◌}
use native.Mathlib.Omega.{arith}
use lib.ListN.{length, get_or}
use Rattle.maps.specs.Write.{in_two_bytes}
use Rattle.taking.proofs.Fields.{length_two}
use Rattle.writing.proofs.Put.{high_byte, laid_entry}
use Rattle.writing.proofs.putting.put_few.Goals as goal

pub loop-d-preserved : goal.loop-d-preserved
loop-d-preserved c =
    let row = c.args.row.now in
    let l = c.loop-d in
    let x = get_or row l.d 0 in
    let pair = c.to_le_bytes-pair in
    laid_entry row l.d (get_or pair.result 0 0) (get_or pair.result 1 0) l.invariant (omega (arith, l.invariant.long)) (ap (λ (xs : List ℕ). get_or xs 0 0) pair.ensures) (ap (λ (xs : List ℕ). get_or xs 1 0) pair.ensures ∙ high_byte x (c.type_inv.row l.d).fits)

pub returns : goal.returns
returns c =
    let row = c.args.row.now in
    let e : length (in_two_bytes row) ≡ 2 * c.loop-d.d = omega (arith, length_two row) in
    record { laid = rw e c.loop-d.invariant }
