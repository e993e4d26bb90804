-- `answers::tables::rest_on` meets its contract. The invariant: the survivors among the darts passed are counted. Assumes nothing.
use mathlib.Core.Path.{◌≡◌, refl, sym, ◌∙◌}
use Prim.Native.Nat.{zero-le}
use native.Mathlib.Omega.{arith}
use Rattle.maps.specs.Count.{count}
use Rattle.maps.specs.Table.{each}
use Rattle.maps.specs.Folded.{gone}
use Rattle.answers.proofs.Counted.{one_more, no_more}
use Rattle.answers.proofs.tables.rest_on.Goals.{then-not-is_gone, else-not-is_gone}
use Rattle.answers.proofs.tables.rest_on.Goals as goal

pub loop-own-init : goal.loop-own-init
unfolding count
loop-own-init c = (refl, zero-le)

pub loop-own-preserved : goal.loop-own-preserved
loop-own-preserved c =
    let a = c.args in
    let l = c.loop-own in
    let Λ = each a.part.now in
    let is : gone Λ a.level.0 l.own-index ≡ c.is_gone.result = sym c.is_gone.ensures in (
      elim c.if-not-is_gone.branch [ then-not-is_gone v ↦ v.count-is ∙ one_more Λ a.level.0 l.own-index l.count l.invariant.0 (is ∙ v.if-not-is_gone.true) | else-not-is_gone v ↦ v.count-is ∙ no_more Λ a.level.0 l.own-index l.count l.invariant.0 (is ∙ v.if-not-is_gone.false) ],
      elim c.if-not-is_gone.branch [ then-not-is_gone v ↦ omega (arith, v.count-is, l.invariant.1) | else-not-is_gone v ↦ omega (arith, v.count-is, l.invariant.1) ],
    )
