-- `unfolding::telling::latest` meets its contract. The invariant: the largest of the rows passed is found. The measure is the rows left. Assumes nothing.
use mathlib.Core.Path.{◌≡◌, refl, ◌∙◌}
use mathlib.Core.Bool.{cond}
use Prim.Native.Nat.{ℕ, zero-le}
use native.Mathlib.Omega.{arith}
use lib.ListN.{length}
use Rattle.maps.specs.Trail.{largest}
use Rattle.maps.specs.Table.{entry, each}
use Rattle.maps.specs.Folded.{survives}
use Rattle.laws.proofs.Tables.{next_row}
use Rattle.unfolding.proofs.Totals.{largest_more, cut_latest}
use Rattle.unfolding.proofs.telling.latest.Goals as goal

pub loop-i-init : goal.loop-i-init
unfolding largest
loop-i-init c = (zero-le, omega arith, refl)

pub loop-i-preserved : goal.loop-i-preserved
loop-i-preserved c =
    let a = c.args in
    let N = length a.lambda.now in
    let l = c.loop-i in
    let v = l.invariant in
    let f : ℕ → ℕ = λ i. largest (λ b. cond (survives (each a.lambda.now) a.level.0 b) (entry N a.table.now i b) 0) N in
    let e : c.row_latest.result ≡ f l.i = c.row_latest.ensures ∙ cut_latest a.n.0 l.i l.from a.table.now a.lambda.now a.level.0 (omega arith) v.1 c.requires.2 in
    (omega (arith, c.loop-i-test.true), omega (arith, v.1, next_row l.i N), largest_more f l.i c.row_latest.result c.max-all.result e (omega (arith, c.max-all.ensures, v.2)))
