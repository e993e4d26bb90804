-- `taking::copy_wide` meets its contract. The invariant: the parts passed are laid. Assumes nothing.
use mathlib.Core.Path.{◌≡◌, ap, ◌∙◌}
use mathlib.Core.List.{List, []}
use Prim.Native.Nat.{ℕ, ◌+◌, ◌-◌, ◌*◌, ◌/◌, ◌<◌, ◌≤◌}
use native.Mathlib.Omega.{arith}
use lib.ListN.{length, get_or, take, drop, length-take, length-drop}
use Rattle.maps.specs.Record.{two_bytes}
use Rattle.taking.proofs.Chunks.{part_two, behind_two}
use Rattle.taking.proofs.Laid.{laid_on, laid_part}
use Rattle.taking.proofs.copying.copy_wide.Goals as goal

pub loop-k-preserved : goal.loop-k-preserved
loop-k-preserved c =
    let l = c.loop-k in
    let body = c.args.body.now in
    let parts = c.as_chunks in
    let at = 64 * l.k in
    let m = at + 64 - at in
    let new = c.copy.new.to in
    let inside : l.k < length body / 128 = omega (arith, c.loop-k-test.true, parts.ensures.front_len) in
    let fits : at + m ≤ length l.row = omega (arith, c.requires, l.invariant.long, inside) in
    let long : length (take m (drop at l.row)) ≡ m = simp (length-take, length-drop) (omega (arith, fits)) in
    let value : (d : ℕ) → d < m → get_or new d 0 ≡ two_bytes body (0 + 2 * (at + d)) =
    λ d f. ap (λ (xs : List ℕ). get_or xs d 0) c.copy.ensures ∙ c.entries_of.ensures d (omega arith)
    ∙ ap (λ (xs : List (List ℕ)). two_bytes (get_or xs l.k []) (0 + 2 * d)) parts.ensures.front ∙ part_two (length body / 128) l.k d body inside (omega arith) in
    laid_on _ l.invariant (laid_part at m l.row new fits (c.copy.auto.to ∙ long) value) (omega arith) (omega arith) (λ d f. ap (two_bytes body) (omega arith))

pub returns : goal.returns
returns c =
    let l = c.loop-k in
    let body = c.args.body.now in
    let parts = c.as_chunks in
    let done = 64 * length parts.result.0.now in
    let m = length l.row - done in
    let new = c.copy_few.new.row in
    let w = c.copy_few.ensures in
    let count = parts.ensures.front_len in
    let fits : done + m ≤ length l.row = omega (arith, c.requires, l.invariant.long, count) in
    let long : length (take m (drop done l.row)) ≡ m = simp (length-take, length-drop) (omega (arith, fits)) in
    let value : (d : ℕ) → d < m → get_or new d 0 ≡ two_bytes body (0 + 2 * (done + d)) =
    λ d f. ap (λ (x : ℕ). get_or new x 0) (omega arith) ∙ w.written d (omega (arith, long)) ∙ ap (λ (xs : List ℕ). two_bytes xs (0 + 2 * d)) parts.ensures.back
    ∙ behind_two (length body / 128 * 128) d body ∙ ap (two_bytes body) (omega (arith, count)) in
    let rest = laid_part done m l.row new fits (w.long ∙ long) value in
    laid_on _ l.invariant rest (omega (arith, l.auto.k-end, c.loop-k-test.false)) (omega (arith, l.invariant.long, l.auto.k-end, c.loop-k-test.false, fits)) (λ d f. ap (two_bytes body) (omega (arith, l.auto.k-end, c.loop-k-test.false)))
