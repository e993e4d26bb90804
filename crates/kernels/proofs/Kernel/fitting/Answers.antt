-- `kernels::Kernel::fitting` meets its contract. The invariant: the darts of the kernel passed commute. The measure is the darts left. Assumes nothing.
use mathlib.Core.Path.{sym, ap, ◌∙◌}
use mathlib.Core.Bool.{not}
use Rattle.maps.specs.Check.{check10}
use Rattle.kernels.proofs.Tests.{walk_start, walk_all, walk_marked, walk_inside, ten_free, ten_passed, ten_refused}
use Rattle.kernels.proofs.Kernel.fitting.Goals.{else-has_beyond-via-then-has_beyond+else-not-commuting, else-has_beyond-via-else-has_beyond}
use Rattle.kernels.proofs.Kernel.fitting.Goals as goal

pub loop-d-init : goal.loop-d-init
loop-d-init c = let s = c in walk_start s.requires.tested s.requires.strung (ten_free _ _ _ _ s.args.table.now)

pub commuting-requires : goal.commuting-requires
commuting-requires c =
    let w = c.loop-d.invariant in
    let ld = c.loop-d-test.true in record { rows = (w.tested.shape, (walk_marked w ld c.delta_at-mark.ensures).0, ld, sym c.has_beyond.ensures ∙ c.if-has_beyond.true); by_index = walk_inside w ld }

pub between-rows-requires : goal.between-rows-requires
between-rows-requires c = (walk_marked c.loop-d.invariant c.loop-d-test.true c.delta_at-mark.ensures).1

pub loop-d-preserved : goal.loop-d-preserved
loop-d-preserved c =
    let w = c.loop-d.invariant in
    let ld = c.loop-d-test.true in
    let m = c.delta_at-mark in
    elim c.else-has_beyond.branch [
      | else-has_beyond-via-then-has_beyond+else-not-commuting u ↦ ten_passed w ld m.result.0 m.ensures (sym u.commuting.ensures ∙ ap not u.if-not-commuting.false) c.next_of-d.ensures
      | else-has_beyond-via-else-has_beyond u ↦ ten_passed w ld m.result.0 m.ensures (rw (sym c.has_beyond.ensures ∙ u.if-has_beyond.false)) c.next_of-d.ensures
    ]

pub returns-then-not-commuting : goal.returns-then-not-commuting
returns-then-not-commuting c =
    let m = c.delta_at-mark in
    ten_refused c.loop-d.invariant c.loop-d-test.true m.result.0 m.ensures (sym c.commuting.ensures ∙ ap not c.if-not-commuting.true) c.between-rows.ensures.1

pub returns : goal.returns
unfolding check10
returns c = sym (walk_all c.loop-d.invariant c.loop-d-test.false)
