-- `writing::putting::put_entries` meets its contract. The invariant: the bytes of the parts passed are laid. Assumes nothing.
use mathlib.Core.Path.{◌≡◌, ap, ◌∙◌}
use mathlib.Core.List.{List, []}
use Prim.Native.Nat.{ℕ, ◌+◌, ◌-◌, ◌*◌, ◌/◌, ◌%◌, ◌<◌, ◌≤◌}
use native.Mathlib.Omega.{arith}
use lib.ListN.{length, get_or, take, drop, length-take, length-drop}
use Rattle.maps.specs.Write.{in_two_bytes}
use Rattle.taking.proofs.Chunks.{part_value, behind_value}
use Rattle.taking.proofs.Fields.{length_two, two_like}
use Rattle.taking.proofs.Laid.{laid_on, laid_part}
use Rattle.writing.proofs.Put.{put_within}
use Rattle.writing.proofs.putting.put_entries.Goals as goal

pub loop-k-preserved : goal.loop-k-preserved
loop-k-preserved c =
    let l = c.loop-k in
    let row = c.args.row.now in
    let parts = c.as_chunks in
    let at = 128 * l.k in
    let m = at + 128 - at in
    let new = c.copy.new.to in
    let inside : l.k < length row / 64 = omega (arith, c.loop-k-test.true, parts.ensures.front_len) in
    let fits : at + m ≤ length l.to = omega (arith, c.requires, l.invariant.long, inside) in
    let long : length (take m (drop at l.to)) ≡ m = simp (length-take, length-drop) (omega (arith, fits)) in
    let value : (d : ℕ) → d < m → get_or new d 0 ≡ get_or (in_two_bytes row) (at + d) 0 =
    λ d f. ap (λ (xs : List ℕ). get_or xs d 0) (c.copy.ensures ∙ c.bytes_of.ensures) ∙ ap (λ (xs : List (List ℕ)). get_or (in_two_bytes (get_or xs l.k [])) d 0) parts.ensures.front
    ∙ two_like _ row (64 * l.k) 64 (λ e g. part_value 64 (length row / 64) l.k e row inside g) d (omega arith) ∙ ap (λ (x : ℕ). get_or (in_two_bytes row) x 0) (omega arith) in
    laid_on _ l.invariant (laid_part at m l.to new fits (c.copy.auto.to ∙ long) value) (omega arith) (omega arith) (λ d f. ap (λ (x : ℕ). get_or (in_two_bytes row) x 0) (omega arith))

pub returns : goal.returns
returns c =
    let l = c.loop-k in
    let row = c.args.row.now in
    let parts = c.as_chunks in
    let count = parts.ensures.front_len in
    let rest = parts.result.1.now in
    let done = 128 * length parts.result.0.now in
    let m = length l.to - done in
    let all : length (in_two_bytes row) ≡ 2 * length row = length_two row in
    let few : length (in_two_bytes rest) ≡ 2 * length rest = length_two rest in
    let left : length rest ≡ length row % 64 = parts.ensures.back_len in
    let fits : done + m ≤ length l.to = omega (arith, c.requires, l.invariant.long, count) in
    let put = put_within done m l.to c.put_few.new.to fits (omega (arith, c.requires, l.invariant.long, count, few, left)) c.put_few.ensures in
    let value : (d : ℕ) → d < length (in_two_bytes rest) → get_or (in_two_bytes rest) d 0 ≡ get_or (in_two_bytes row) (128 * l.k + d) 0 =
    λ d f. two_like rest row (length row / 64 * 64) (length rest) (λ e g. ap (λ (xs : List ℕ). get_or xs e 0) parts.ensures.back ∙ behind_value (length row / 64 * 64) e row) d (omega (arith, few))
    ∙ ap (λ (x : ℕ). get_or (in_two_bytes row) x 0) (omega (arith, l.auto.k-end, c.loop-k-test.false, count)) in
    record { laid = laid_on _ l.invariant put.laid (omega (arith, l.auto.k-end, c.loop-k-test.false)) (omega (arith, l.auto.k-end, c.loop-k-test.false, count, all, few, left)) value }
