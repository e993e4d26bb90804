-- `packing::pack_row` meets its contract. The invariant: the survivors passed are packed, `next` is behind them. The measure: the darts left. Assumes nothing.
use mathlib.Core.Path.{◌≡◌, sym, ap, ◌∙◌}
use Prim.Native.Nat.{◌+◌, ◌<◌, zero-le}
use native.Mathlib.Omega.{arith}
use lib.ListN.{length, get_or}
use Rattle.maps.specs.Count.{count}
use Rattle.maps.specs.Table.{each}
use Rattle.maps.specs.Folded.{survives}
use Rattle.laws.proofs.Counting.{count_le}
use Rattle.packing.proofs.Packs.{packs_none, packs_on, packs_over, packs_ahead, count_on_lem, count_over}
use Rattle.packing.proofs.pack_row.Goals.{then-stands, else-stands}
use Rattle.packing.proofs.pack_row.Goals as goal

pub loop-d-init : goal.loop-d-init
unfolding count
loop-d-init c = (zero-le, omega arith, packs_none _ _ _ _)

pub bounds-ranks-neighbour : goal.bounds-ranks-neighbour
bounds-ranks-neighbour c =
    let l = c.loop-d in
    let e : get_or l.rows (c.args.from + l.d) 0 ≡ get_or c.args.rows.now (c.args.from + l.d) 0 = packs_ahead l.invariant.2 c.args.from c.requires.0 in
    omega (arith, e, c.requires.2 l.d (omega arith) (sym c.stands.ensures ∙ c.if-stands.true))

pub offset_bounds-rows-next : goal.offset_bounds-rows-next
offset_bounds-rows-next c =
    let a = c.args in
    let l = c.loop-d in
    omega (arith, l.invariant.1, count_le (survives (each a.lambda.now) a.level.0) l.d, c.requires.0, c.requires.1, l.invariant.2.long)

pub bounds-rows-next : goal.bounds-rows-next
bounds-rows-next c =
    let a = c.args in
    let l = c.loop-d in
    omega (arith, l.invariant.1, count_le (survives (each a.lambda.now) a.level.0) l.d, c.requires.0, c.requires.1, l.invariant.2.long)

pub overflow_add-next : goal.overflow_add-next
overflow_add-next c =
    let a = c.args in
    let l = c.loop-d in
    omega (arith, l.invariant.1, count_le (survives (each a.lambda.now) a.level.0) l.d, c.requires.0, c.requires.1, l.invariant.2.long)

pub loop-d-preserved : goal.loop-d-preserved
loop-d-preserved c =
    let a = c.args in
    let l = c.loop-d in
    let p = survives (each a.lambda.now) a.level.0 in
    let is = c.stands.ensures in
    let behind : l.next < length a.rows.now =
    omega (arith, l.invariant.1, count_le p l.d, c.requires.0, c.requires.1) in (
      omega arith,
      (elim c.if-stands.branch [
        | then-stands w ↦ omega (arith, w.next-is, l.invariant.1, count_on_lem p l.d (sym is ∙ w.if-stands.true))
        | else-stands w ↦ omega (arith, w.next-is, l.invariant.1, count_over p l.d (sym is ∙ w.if-stands.false))
      ]),
      (elim c.if-stands.branch [
        | then-stands w ↦ rw w.rows-is (packs_on l.invariant.2 (sym is ∙ w.if-stands.true) l.next _ l.invariant.1 behind (ap (each a.ranks.now) (packs_ahead l.invariant.2 a.from c.requires.0)))
        | else-stands w ↦ rw w.rows-is (packs_over l.invariant.2 (sym is ∙ w.if-stands.false))
      ]),
    )
