-- `unfolding::telling::total` meets its contract. The invariant: the rows passed are summed. The measure is the rows left. Assumes nothing.
use mathlib.Core.Path.{refl, ◌∙◌}
use mathlib.Core.Bool.{cond}
use Prim.Native.Nat.{zero-le}
use native.Mathlib.Omega.{arith}
use lib.ListN.{length}
use Rattle.maps.specs.Count.{sum}
use Rattle.maps.specs.Table.{entry, each}
use Rattle.maps.specs.Folded.{survives}
use Rattle.laws.proofs.Tables.{next_row}
use Rattle.unfolding.proofs.Totals.{sum_more, cut_total, cut_few}
use Rattle.unfolding.proofs.telling.total.Goals as goal

pub loop-i-init : goal.loop-i-init
unfolding sum
loop-i-init c = (zero-le, omega arith, refl, omega arith)

pub overflow_add-all : goal.overflow_add-all
overflow_add-all c =
    let a = c.args in
    let l = c.loop-i in
    omega (arith, l.invariant.3, c.row_total-all.ensures, cut_few a.n.0 l.i l.from a.table.now a.lambda.now a.level.0 (omega arith) l.invariant.1 c.requires.2 (λ x. (c.type_inv.table x).fits) c.requires.1)

pub loop-i-preserved : goal.loop-i-preserved
loop-i-preserved c =
    let a = c.args in
    let N = length a.lambda.now in
    let l = c.loop-i in
    let v = l.invariant in
    let e = c.row_total-all.ensures ∙ cut_total a.n.0 l.i l.from a.table.now a.lambda.now a.level.0 (omega arith) v.1 c.requires.2 in
    let few = cut_few a.n.0 l.i l.from a.table.now a.lambda.now a.level.0 (omega arith) v.1 c.requires.2 (λ x. (c.type_inv.table x).fits) c.requires.1 in
    (omega (arith, c.loop-i-test.true), omega (arith, v.1, next_row l.i N), omega (arith, v.2, sum_more (λ i. sum (λ b. cond (survives (each a.lambda.now) a.level.0 b) (entry N a.table.now i b) 0) N) l.i c.row_total-all.result e), omega (arith, v.3, few, c.row_total-all.ensures))
