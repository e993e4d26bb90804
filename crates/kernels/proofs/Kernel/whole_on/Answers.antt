-- `kernels::Kernel::whole_on` meets its contract. The invariant: the darts of the kernel passed are whole, and have the mark. The measure is the darts left. Assumes nothing.
use mathlib.Core.Path.{◌≡◌, sym, ◌∙◌}
use native.Mathlib.Omega.{arith}
use Rattle.maps.specs.Table.{each}
use Rattle.kernels.proofs.Strung.{same_is}
use Rattle.kernels.proofs.Tests.{walk_marked, walk_inside, walk_further}
use Rattle.kernels.proofs.Runs.{nine_next, alike_next}
use Rattle.kernels.proofs.Kernel.whole_on.Goals as goal

pub together-requires : goal.together-requires
together-requires c =
    let own : let h = c in c.args.mark.0 ≡ each c.args.self.now.delta.now h.loop-d.d =
    sym (same_is _ _ c.ne.ensures c.if-ne.false) ∙ c.delta_at.ensures in
    let i = c in
    let w = i.loop-d.invariant.0 in
    let ld = i.loop-d-test.true in record { rows = (w.tested.shape, w.marks.delta_long, ld, (walk_marked w ld (own)).0); by_index = walk_inside w ld }

pub loop-d-preserved : goal.loop-d-preserved
loop-d-preserved c =
    let own : let h = c in c.args.mark.0 ≡ each c.args.self.now.delta.now h.loop-d.d =
    sym (same_is _ _ c.ne.ensures c.if-ne.false) ∙ c.delta_at.ensures in
    let o = c in
    let i = c in
    let v = i.loop-d.invariant in
    let ld = i.loop-d-test.true in
    let is = c.next_of-d.ensures in
    let t = c.together.ensures c.if-not-together.false in
    (nine_next v.0 ld _ (own) t is, omega (arith, v.1, walk_further v.0 ld is), alike_next v.0 ld _ (sym (own)) is _ v.2)
