-- `answers::tables::block_on` meets its contract. The invariant: the survivors among the darts passed are counted. Assumes nothing.
use mathlib.Core.Path.{refl, ◌∙◌}
use Prim.Native.Nat.{zero-le}
use native.Mathlib.Omega.{arith}
use borrow.Author.Tests.{lt-ltb, le-ltb}
use Rattle.maps.specs.Count.{count}
use Rattle.maps.specs.Table.{each}
use Rattle.answers.proofs.Counted.{one_more, no_more}
use Rattle.answers.proofs.tables.block_on.Goals.{then-level-own, else-level-own}
use Rattle.answers.proofs.tables.block_on.Goals as goal

pub loop-own-init : goal.loop-own-init
unfolding count
loop-own-init c = (refl, zero-le)

pub loop-own-preserved : goal.loop-own-preserved
loop-own-preserved c =
    let a = c.args in
    let l = c.loop-own in
    let Λ = each a.part.now in (
      elim c.if-level-own.branch [ then-level-own v ↦ v.count-is ∙ one_more Λ a.level.0 l.own-index l.count l.invariant.0 (le-ltb (Λ l.own-index) a.level.0 v.if-level-own.true) | else-level-own v ↦ v.count-is ∙ no_more Λ a.level.0 l.own-index l.count l.invariant.0 (lt-ltb (Λ l.own-index) a.level.0 v.if-level-own.false) ],
      elim c.if-level-own.branch [ then-level-own v ↦ omega (arith, v.count-is, l.invariant.1) | else-level-own v ↦ omega (arith, v.count-is, l.invariant.1) ],
    )
