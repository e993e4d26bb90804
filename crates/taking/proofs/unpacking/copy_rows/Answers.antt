-- `taking::copy_rows` meets its contract. The invariant: the rows passed are laid. The measure: the rows left. Assumes nothing.
use mathlib.Core.Path.{◌≡◌, ap, ◌∙◌}
use Prim.Native.Nat.{ℕ, ◌+◌, ◌*◌, ◌-◌, ◌<◌}
use native.Mathlib.Omega.{arith}
use lib.Arith.{digits_div, digits_mod}
use lib.ListN.{length, get_or, take, drop, length-take, length-drop}
use Rattle.taking.specs.Parts.{entry_from, row_from}
use Rattle.taking.proofs.Reach.{row_ends}
use Rattle.laws.proofs.Tables.{next_row}
use Rattle.taking.proofs.Laid.{laid_on, laid_part, part_entry}
use Rattle.taking.proofs.unpacking.copy_rows.Goals as goal

pub loop-i-preserved : goal.loop-i-preserved
loop-i-preserved c =
    let a = c.args in
    let l = c.loop-i in
    let w = c.copy_row.ensures in
    let N = a.darts in
    let size : ℕ = c.row_size-size.result in
    let from : ℕ = 7 + l.i * (3 + size) + 3 in
    let next = next_row l.i N in
    let ends = row_ends l.i a.n.0 N (omega arith) in
    let place = l.i * N in
    let m = place + N - place in
    let long : length (take m (drop place l.rows)) ≡ m = simp (length-take, length-drop) (omega (arith, l.invariant.2.long)) in
    let entry : (d : ℕ) → d < m → get_or c.copy_row.new.row d 0 ≡ entry_from a.bytes.now a.one (row_from N a.one l.i + 3) d =
    λ d f. ap (λ (x : ℕ). get_or c.copy_row.new.row x 0) (omega arith) ∙ w.written d (omega arith)
    ∙ part_entry a.bytes.now a.one from N (from + size - from) d (omega (arith, c.row_size-size.ensures.0)) (omega arith)
    ∙ ap (λ (s : ℕ). entry_from a.bytes.now a.one (7 + l.i * (3 + s) + 3) d) c.row_size-size.ensures.0 in
    let part = laid_part place m l.rows c.copy_row.new.row (omega (arith, l.invariant.2.long)) (w.long ∙ long) entry in
    (omega arith, l.invariant.1, laid_on _ l.invariant.2 part (omega arith) (omega arith) (λ d f. let g : d < N = omega arith in rw (digits_mod l.i g, digits_div l.i g)))
