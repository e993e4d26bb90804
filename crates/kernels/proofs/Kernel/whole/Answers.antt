-- `kernels::Kernel::whole` meets its contract. Along the string: the darts of the kernel passed are whole; along the involutions: none passed leaves it. The measures are the darts and the involutions left. Assumes nothing.
use mathlib.Core.Path.{refl, sym, ap, ◌∙◌}
use Prim.Native.Nat.{◌≤◌, zero-le}
use native.Mathlib.Omega.{arith}
use Rattle.maps.specs.Verdict.{scan}
use Rattle.maps.specs.Check.{check9}
use Rattle.answers.specs.Numbers.{verdict_of}
use Rattle.kernels.proofs.Places.{place}
use Rattle.kernels.proofs.Tests.{walk_start, walk_all, walk_marked, walk_inside, nine_free, nine_stays, nine_leaves}
use Rattle.kernels.proofs.Kernel.whole.Goals as goal

pub darts-init : goal.darts-init
darts-init c = (walk_start c.requires.tested c.requires.strung (nine_free _ _ _ _ c.args.table.now), refl)

pub loop-j-init : goal.loop-j-init
unfolding scan
loop-j-init c = (zero-le, refl, c.darts.invariant.1)

pub leaving-requires : goal.leaving-requires
leaving-requires c =
    let i = c in
    let w = i.darts.invariant.0 in
    let ld = i.darts-test.true in
    let lj : c.loop-j.j ≤ c.args.self.now.n.0 = omega arith in
    let le = walk_inside w ld c.loop-j.j lj in record { place = (place w.tested.shape c.loop-j.j i.darts.d lj ld, (walk_marked w ld c.delta_at-mark.ensures).1); dart_in_bounds = (omega (arith, w.marks.lambda_long), omega (arith, w.marks.delta_long)) }

pub loop-j-preserved : goal.loop-j-preserved
loop-j-preserved c =
    let h = c in
    let i = c in
    let m = h.delta_at-mark in
    (omega arith, nine_stays i.darts.invariant.0 i.darts-test.true m.result.0 m.ensures h.loop-j.j h.loop-j.invariant.1 (sym c.leaving.ensures ∙ c.if-leaving.false), h.loop-j.invariant.2)

pub returns-after-darts : goal.returns-after-darts
unfolding check9
returns-after-darts c = ap verdict_of c.darts.invariant.1 ∙ sym (walk_all c.darts.invariant.0 c.darts-test.false)

pub returns-then-leaving : goal.returns-then-leaving
returns-then-leaving c =
    let h = c in
    let i = c in
    let m = h.delta_at-mark in
    nine_leaves i.darts.invariant.0 i.darts-test.true m.result.0 m.ensures h.loop-j.j h.loop-j.invariant.1 (omega arith) (sym c.leaving.ensures ∙ c.if-leaving.true)
