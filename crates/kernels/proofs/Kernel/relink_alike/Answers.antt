-- `kernels::Kernel::relink_alike` meets its contract. The invariant: whichever table it began with, a link is set at both ends or as before, by whether it passes one of the darts passed first or last; the turns are those of the links begun since; and only darts of the mark are passed. The measure is the darts left. Assumes nothing.
use mathlib.Core.Path.{◌≡◌, sym, ap, ◌∙◌}
use Prim.Native.Nat.{ℕ, ◌≤◌, ◌<◌}
use native.Mathlib.Omega.{arith}
use borrow.Author.Tests.{eqb-true}
use mathlib.Core.List.{List}
use Rattle.maps.specs.Mark.{between}
use Rattle.maps.specs.Table.{entry, each}
use Rattle.laws.proofs.Marks.{mark_byte}
use Rattle.kernels.specs.declared.Kernel.{Kernel}
use Rattle.kernels.specs.Ready.{row_of, Place}
use Rattle.kernels.specs.Relinked.{Onward}
use Rattle.kernels.proofs.Strung.{same_is, in_kernel_lem, mark_is}
use Rattle.kernels.proofs.Links.{turns_fit, turns_few}
use Rattle.kernels.proofs.Places.{place, place_still}
use Rattle.kernels.proofs.Relinks.{low, relink_followed, b_dart, further, relink_kept, relink_known, relink_joined, count_kept, count_known, count_joined}
use Rattle.kernels.proofs.Kernel.relink_alike.Goals.{then-not-removed+then-at-d, then-not-removed+else-at-d, else-not-removed}
use Rattle.kernels.proofs.Kernel.relink_alike.Goals as goal

pub between-rows-requires : goal.between-rows-requires
between-rows-requires c =
    let s = c in
    let o = s.requires.1.1 in
    let z = o.ready.tested.shape.dimension in
    let is = c.delta_at-mark.ensures ∙ mark_is o.strung.marks z s.args.start s.requires.0 (o.to.here s.requires.0) in
    mark_byte s.args.self.now.n.0 c.delta_at-mark.result.0 (omega arith) (rw is (o.to.here s.requires.0))

-- a dart of the string, its mark, which is the one at hand, and the mark's first row
module _ (k : Kernel) {before after : List ℕ} {d m i : ℕ} (o : Onward k before after d) (ld : d < k.darts) (own : m ≡ each k.delta.now d) (is : i ≡ (between m).0) where
  first_row : i ≡ (between (row_of k d)).0
  first_row = is ∙ ap (λ (x : ℕ). (between x).0) (own ∙ mark_is o.strung.marks o.ready.tested.shape.dimension d ld (o.to.here ld))

  row_low : i ≤ k.n.0
  row_low = low o.ready o.strung.string o.to ld first_row

  room : (x : ℕ) → x < k.darts → Place k.darts after i x
  room x l = place_still o.to.table.long (place o.ready.tested.shape i x row_low l)

  in_kernel : each k.lambda.now d ≡ k.level.0
  in_kernel = eqb-true _ _ (in_kernel_lem o.strung.marks o.ready.tested.shape.dimension d ld ∙ o.to.here ld)

  -- where it leads
  inside : {b : ℕ} → b ≡ entry k.darts after i d → b < k.darts
  inside = b_dart o.ready o.strung.string o.to ld first_row

pub at-b-requires : goal.at-b-requires
at-b-requires c =
    let o = (c.loop-d.invariant.1 c.requires.1.0 c.requires.1.1).0 in
    let own = sym (same_is _ _ c.ne.ensures c.if-ne.false) ∙ c.delta_at.ensures in
    room c.args.self.now o c.loop-d-test.true own c.between-rows.ensures.0 c.loop-d.d c.loop-d-test.true

pub removed-requires : goal.removed-requires
removed-requires c =
    let o = (c.loop-d.invariant.1 c.requires.1.0 c.requires.1.1).0 in
    let own = sym (same_is _ _ c.ne.ensures c.if-ne.false) ∙ c.delta_at.ensures in
    omega (arith, inside c.args.self.now o c.loop-d-test.true own c.between-rows.ensures.0 c.at-b.ensures.0, o.strung.marks.lambda_long)

pub at-requires : goal.at-requires
at-requires c =
    let o = (c.loop-d.invariant.1 c.requires.1.0 c.requires.1.1).0 in
    let own = sym (same_is _ _ c.ne.ensures c.if-ne.false) ∙ c.delta_at.ensures in
    room c.args.self.now o c.loop-d-test.true own c.between-rows.ensures.0 _ (inside c.args.self.now o c.loop-d-test.true own c.between-rows.ensures.0 c.at-b.ensures.0)

pub follow-end-requires : goal.follow-end-requires
follow-end-requires c =
    let o = (c.loop-d.invariant.1 c.requires.1.0 c.requires.1.1).0 in
    let own = sym (same_is _ _ c.ne.ensures c.if-ne.false) ∙ c.delta_at.ensures in
    let ld = c.loop-d-test.true in
    let is = c.between-rows.ensures.0 in
    let k = c.args.self.now in record {
      marks = (o.strung.marks, relink_followed o.ready o.strung.string o.to ld (first_row k o ld own is));
      row_le_n = (row_low k o ld own is, ld, in_kernel k o ld own is, ap (λ (x : ℕ). (between x).0) (sym own) ∙ sym is);
    }

pub join-requires : goal.join-requires
join-requires c =
    let o = (c.loop-d.invariant.1 c.requires.1.0 c.requires.1.1).0 in
    let own = sym (same_is _ _ c.ne.ensures c.if-ne.false) ∙ c.delta_at.ensures in
    let there = room c.args.self.now o c.loop-d-test.true own c.between-rows.ensures.0 in
    (there _ (inside c.args.self.now o c.loop-d-test.true own c.between-rows.ensures.0 c.at-b.ensures.0), there _ c.follow-end.ensures.end.1)

pub overflow_add-turns : goal.overflow_add-turns
overflow_add-turns c =
    let v = c.loop-d.invariant.1 c.requires.1.0 c.requires.1.1 in
    let N = v.0.ready.tested.shape.darts in
    let few = turns_few c.args.self.now.n.0 c.args.self.now.darts (row_of c.args.self.now) c.requires.1.0 c.loop-d.d N in
    let these : c.follow-end.result.turns ≤ c.args.self.now.darts = rw c.follow-end.ensures.turns (turns_fit _ _ _ _ _ _) in
    omega (arith, v.1, few, c.loop-d-test.true, N)

pub loop-d-preserved : goal.loop-d-preserved
loop-d-preserved c =
    let k = c.args.self.now in
    let w = (c.loop-d.invariant.1 c.requires.1.0 c.requires.1.1).0 in
    let own = sym (same_is _ _ c.ne.ensures c.if-ne.false) ∙ c.delta_at.ensures in
    let ld = c.loop-d-test.true in
    let at = c.at-b.ensures.0 in
    let next = c.next_of-d.ensures in
    let f = first_row k w ld own c.between-rows.ensures.0 in
    let said = sym (in_kernel_lem w.strung.marks w.ready.tested.shape.dimension c.at-b.result (inside k w ld own c.between-rows.ensures.0 at)) ∙ sym c.removed.ensures in (
      omega (arith, c.loop-d.invariant.0, further w.ready w.strung.string w.to ld f at next),
      λ before first.
          let v = c.loop-d.invariant.1 before first in
          let o = v.0 in
          elim c.if-not-removed.branch [
            | then-not-removed+then-at-d x ↦
                let stays = said ∙ x.if-not-removed.true in
                let leads = sym x.at.ensures.0 ∙ x.if-at-d.true in (
                  record { ready = o.ready; strung = o.strung; to = rw (x.table-is, x.join.ensures) (relink_joined o.ready o.strung.string o.to ld f at next stays x.follow-end.ensures.end.0) },
                  rw x.turns-is (omega (arith, v.1, x.follow-end.ensures.turns, count_joined o.ready o.strung.string o.to ld f at next stays leads)),
                )
            | then-not-removed+else-at-d x ↦
                let stays = said ∙ x.if-not-removed.true in (
                  record { ready = o.ready; strung = o.strung; to = rw x.table-is (relink_known o.ready o.strung.string o.to ld f at next stays (λ e. x.if-at-d.false (x.at.ensures.0 ∙ e))) },
                  rw x.turns-is (omega (arith, v.1, count_known o.ready o.strung.string o.to ld f at next stays (λ e. x.if-at-d.false (x.at.ensures.0 ∙ e)))),
                )
            | else-not-removed x ↦
                let marked = said ∙ x.if-not-removed.false in (
                  record { ready = o.ready; strung = o.strung; to = rw x.table-is (relink_kept o.ready o.strung.string o.to ld f at next marked) },
                  rw x.turns-is (omega (arith, v.1, count_kept o.ready o.strung.string o.to ld f at next marked)),
                )
          ],
    )
