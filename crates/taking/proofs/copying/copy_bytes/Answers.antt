-- `taking::copy_bytes` meets its contract. The invariant: the parts passed are laid. Assumes nothing.
use mathlib.Core.Path.{◌≡◌, ap, ◌∙◌}
use mathlib.Core.List.{List, []}
use Prim.Native.Nat.{ℕ, ◌+◌, ◌-◌, ◌*◌, ◌/◌, ◌<◌, ◌≤◌}
use native.Mathlib.Omega.{arith}
use lib.ListN.{length, get_or, take, drop, length-take, length-drop}
use Rattle.maps.specs.Record.{byte}
use Rattle.taking.proofs.Chunks.{part_value, behind_value}
use Rattle.taking.proofs.Laid.{laid_on, laid_part, laid_all}
use Rattle.taking.proofs.copying.copy_bytes.Goals as goal

pub loop-k-preserved : goal.loop-k-preserved
loop-k-preserved c =
    let l = c.loop-k in
    let body = c.args.body.now in
    let parts = c.as_chunks in
    let at = 128 * l.k in
    let m = at + 128 - at in
    let new = c.copy_part.new.to in
    let inside : l.k < length body / 128 = omega (arith, l.auto.k-end, c.loop-k-test.true, parts.ensures.front_len) in
    let fits : at + m ≤ length l.to = omega (arith, c.requires, l.invariant.long, inside) in
    let long : length (take m (drop at l.to)) ≡ m = simp (length-take, length-drop) (omega (arith, fits)) in
    let value : (d : ℕ) → d < m → get_or new d 0 ≡ byte body (at + d) =
    λ d f. ap (λ (xs : List ℕ). get_or xs d 0) c.copy_part.ensures ∙ ap (λ (xs : List (List ℕ)). get_or (get_or xs l.k []) d 0) parts.ensures.front
    ∙ part_value 128 (length body / 128) l.k d body inside (omega arith) in
    laid_on _ l.invariant (laid_part at m l.to new fits (c.copy_part.auto.to ∙ long) value) (omega arith) (omega arith) (λ d f. ap (byte body) (omega arith))

pub returns : goal.returns
returns c =
    let l = c.loop-k in
    let body = c.args.body.now in
    let parts = c.as_chunks in
    let done = 128 * length parts.result.0.now in
    let m = length l.to - done in
    let new = c.copy.new.to in
    let count = parts.ensures.front_len in
    let fits : done + m ≤ length l.to = omega (arith, c.requires, l.invariant.long, count) in
    let long : length (take m (drop done l.to)) ≡ m = simp (length-take, length-drop) (omega (arith, fits)) in
    let value : (d : ℕ) → d < m → get_or new d 0 ≡ byte body (done + d) =
    λ d f. ap (λ (xs : List ℕ). get_or xs d 0) (c.copy.ensures ∙ parts.ensures.back) ∙ behind_value (length body / 128 * 128) d body
    ∙ ap (byte body) (omega (arith, count)) in
    let rest = laid_part done m l.to new fits (c.copy.auto.to ∙ long) value in
    laid_all body (laid_on (length body) l.invariant rest (omega (arith, l.auto.k-end, c.loop-k-test.false)) (omega (arith, c.requires, l.invariant.long, l.auto.k-end, c.loop-k-test.false, count)) (λ d f. ap (byte body) (omega (arith, l.auto.k-end, c.loop-k-test.false)))) c.requires
