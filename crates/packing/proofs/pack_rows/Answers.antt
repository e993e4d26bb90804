-- `packing::pack_rows` meets its contract. The invariant: the rows passed are packed, `from` and `to` are where the next is read and written. The measure: the rows left. Assumes nothing.
use mathlib.Core.Path.{◌≡◌, ap, ◌∙◌}
use Prim.Native.Nat.{ℕ, suc, ◌+◌, ◌*◌, ◌≤◌}
use native.Mathlib.Nat.{mul-le-mul_right}
use native.Mathlib.Omega.{arith}
use lib.ListN.{length, get_or}
use Rattle.maps.specs.Table.{each, absent}
use Rattle.maps.specs.Folded.{survives}
use Rattle.maps.specs.NewBase.{new_darts}
use Rattle.maps.specs.Rebase.{packed}
use Rattle.laws.proofs.Counting.{count_le}
use Rattle.laws.proofs.Tables.{next_row, table_size, length_listed}
use Rattle.packing.proofs.Packs.{Rows, rows_more, rows_filled, filled_behind}
use Rattle.packing.proofs.pack_rows.Goals as goal

-- a row of the table lies in it, and begins at a small place
row_room : {n N i from size : ℕ} → n ≤ 4 → N ≤ 4096 → size ≡ suc n * N → from ≡ i * N → i ≤ n → (from ≤ 16384) × (from + N ≤ size)
row_room {n} {N} {i} small few e is li =
    let next : (i + 1) * N ≤ suc n * N = mul-le-mul_right N (omega arith) in
    (omega (arith, is, table_size n N i small few li), omega (arith, is, next_row i N, next, e))

pub pack_row-requires : goal.pack_row-requires
pack_row-requires c =
    let l = c.loop-i in
    let v = l.invariant in
    let b = c.requires.n_bound in
    let r = c.requires.ranks_value in
    let li : l.i ≤ c.args.n.0 = omega arith in
    let room = row_room b.0 b.1 (v.5.long ∙ b.2) v.3 li in
    let ranks-long = ap length r.0 ∙ length_listed _ _ in (
      v.1,
      room.1,
      λ d ld q.
          let e = v.5.rest (l.from + d) (omega (arith, v.3)) ∙ ap (λ (y : ℕ). get_or c.args.rows.now (y + d) 0) v.3 in
          omega (arith, e, r.1 l.i li d ld q, ranks-long),
    )

pub overflow_add-to : goal.overflow_add-to
overflow_add-to c =
    let l = c.loop-i in
    let v = l.invariant in
    let b = c.requires.n_bound in
    let a = c.args in
    let li : l.i ≤ a.n.0 = omega arith in
    let room = row_room b.0 b.1 (v.5.long ∙ b.2) v.3 li in
    omega (arith, v.1, room.0, b.1, b.3, count_le (survives (each a.lambda.now) a.level.0) (length a.lambda.now))

pub loop-i-preserved : goal.loop-i-preserved
loop-i-preserved c =
    let l = c.loop-i in
    let v = l.invariant in
    let b = c.requires.n_bound in
    let r = c.requires.ranks_value in
    let a = c.args in
    let N = length a.lambda.now in
    let Λ = each a.lambda.now in
    let li : l.i ≤ a.n.0 = omega arith in
    let room = row_room b.0 b.1 (v.5.long ∙ b.2) v.3 li in
    let more : Rows Λ a.level.0 N (l.i + 1) a.rows.now c.pack_row.new.rows = rows_more Λ a.level.0 N v.5 r.0 (r.1 l.i li) (rw (v.3, v.4) at c.pack_row.ensures) in (
      omega arith,
      omega (arith, v.1, b.3, count_le (survives Λ a.level.0) N),
      omega (arith, room.1, v.5.long, more.long),
      omega (arith, v.3, next_row l.i N),
      omega (arith, v.4, next_row l.i (new_darts N Λ a.level.0), b.3),
      more,
    )

pub returns : goal.returns
returns c =
    let l = c.loop-i in
    let v = l.invariant in
    let a = c.args in
    let N = length a.lambda.now in
    let e : l.i ≡ suc a.n.0 = omega arith in
    let end : l.to ≡ suc a.n.0 * new_darts N (each a.lambda.now) a.level.0 = v.4 ∙ ap (λ (y : ℕ). y * new_darts N (each a.lambda.now) a.level.0) e in
    let filled = filled_behind absent l.to l.rows (omega (arith, v.1, v.2)) (c.fill.ensures.after (λ y e. e)) in
    rw c.requires.n_bound.3 (rows_filled (each a.lambda.now) a.level.0 N absent (rw e at v.5) (filled ∙ ap (λ (m : ℕ). packed (each l.rows) m absent (length l.rows)) end))
