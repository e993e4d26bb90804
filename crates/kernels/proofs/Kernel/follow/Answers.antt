-- `kernels::Kernel::follow` meets its contract. The invariant: e is of the kernel, with the mark and the rows at hand, and what is left to follow from it ends where all of it does, with the turns that are left. The measure is how many these may be. Assumes nothing.
use mathlib.Core.Path.{◌≡◌, sym, ◌∙◌}
use Prim.Native.Nat.{◌-◌}
use native.Mathlib.Omega.{arith}
use borrow.Author.Tests.{eq-eqb}
use Rattle.maps.specs.Removal.{go_on, turns_from}
use Rattle.kernels.proofs.Places.{place}
use Rattle.kernels.proofs.Strung.{same_is, not_same}
use Rattle.kernels.proofs.Relinks.{follow_byte, turn_row, turn_first, turn_dart, turn_leaves, turn_byte, turn_stops, turn_on}
use Rattle.kernels.proofs.Kernel.follow.Goals as goal

pub between-rows-requires : goal.between-rows-requires
between-rows-requires c =
    let s = c in
    let p = s.requires in
    follow_byte p.marks.0 p.marks.1 s.args.i.0 _ p.row_le_n.1 (eq-eqb _ _ p.row_le_n.2) c.delta_at-mark.ensures

pub at-requires : goal.at-requires
at-requires c = let p = c.requires in let s = c.loop-turns.invariant in place p.marks.1.shape _ _ (turn_row p.marks.0 p.marks.1 p.row_le_n.0 s) s.dart

pub at-e-requires : goal.at-e-requires
at-e-requires c = let h = c in let p = c.requires in place p.marks.1.shape _ _ p.row_le_n.0 (turn_first p.marks.0 p.marks.1 p.row_le_n.0 h.loop-turns.invariant c.at.ensures.0)

pub removed-requires : goal.removed-requires
removed-requires c =
    omega (arith, turn_dart c.requires.marks.0 c.requires.marks.1 c.requires.row_le_n.0 c.loop-turns.invariant c.at.ensures.0 c.at-e.ensures.0, c.requires.marks.0.lambda_long)

pub returns-then-not-removed : goal.returns-then-not-removed
returns-then-not-removed c =
    let t = c in
    let p = c.requires in
    let g = turn_leaves p.marks.0 p.marks.1 p.row_le_n.0 c.loop-turns.invariant t.at.ensures.0 t.at-e.ensures.0 t.loop-turns-test.true (sym c.removed.ensures ∙ c.if-not-removed.true) in record { end = (sym g.0, turn_dart c.requires.marks.0 c.requires.marks.1 c.requires.row_le_n.0 c.loop-turns.invariant c.at.ensures.0 c.at-e.ensures.0); turns = sym g.1 }

pub delta_at-met-requires : goal.delta_at-met-requires
delta_at-met-requires c =
    let t = c in omega (arith, turn_dart c.requires.marks.0 c.requires.marks.1 c.requires.row_le_n.0 c.loop-turns.invariant c.at.ensures.0 c.at-e.ensures.0, c.requires.marks.0.delta_long)

pub between-rows-requires-then-ne : goal.between-rows-requires-then-ne
between-rows-requires-then-ne c =
    let t = c in
    let p = c.requires in
    turn_byte p.marks.0 p.marks.1 p.row_le_n.0 c.loop-turns.invariant t.at.ensures.0 t.at-e.ensures.0 t.loop-turns-test.true (sym c.removed.ensures ∙ c.if-not-removed.false) c.delta_at-met.ensures

pub returns-then-ne-2 : goal.returns-then-ne-2
returns-then-ne-2 c =
    let b = c in
    let t = c in
    let p = c.requires in
    let g = turn_stops p.marks.0 p.marks.1 p.row_le_n.0 c.loop-turns.invariant t.at.ensures.0 t.at-e.ensures.0 t.loop-turns-test.true (sym c.removed.ensures ∙ c.if-not-removed.false) b.delta_at-met.ensures (λ e. not_same _ _ c.ne-then-ne.ensures c.if-ne-2.true (b.between-rows-then-ne.ensures.0 ∙ e)) in record { end = (sym g.0, turn_dart c.requires.marks.0 c.requires.marks.1 c.requires.row_le_n.0 c.loop-turns.invariant c.at.ensures.0 c.at-e.ensures.0); turns = sym g.1 }

pub loop-turns-preserved-else-ne-2 : goal.loop-turns-preserved-else-ne-2
loop-turns-preserved-else-ne-2 c =
    let b = c in
    let t = c in
    let p = c.requires in
    turn_on p.marks.0 p.marks.1 p.row_le_n.0 c.loop-turns.invariant t.at.ensures.0 t.at-e.ensures.0 t.loop-turns-test.true (sym c.removed.ensures ∙ c.if-not-removed.false) b.delta_at-met.ensures (sym b.between-rows-then-ne.ensures.0 ∙ same_is _ _ c.ne-then-ne.ensures c.if-ne-2.false) b.between-rows-then-ne.ensures.1

pub loop-turns-preserved : goal.loop-turns-preserved
loop-turns-preserved c =
    let e = c in
    let t = e in
    let p = c.requires in
    let s = c.loop-turns.invariant in
    turn_on p.marks.0 p.marks.1 p.row_le_n.0 s t.at.ensures.0 t.at-e.ensures.0 t.loop-turns-test.true (sym c.removed.ensures ∙ c.if-not-removed.false) (sym (same_is _ _ c.ne.ensures c.if-ne.false) ∙ c.delta_at-met.ensures) s.first_row s.second_row

pub returns : goal.returns
unfolding go_on turns_from
returns c =
    let l = c.loop-turns in
    let s = c in
    let p = s.requires in
    let z : s.args.self.now.darts - l.turns ≡ 0 = omega arith in
    let g = rw z at (l.invariant.rest _ p.marks.0 p.marks.1 p.row_le_n.0) in record { end = (sym g.0, l.invariant.dart); turns = omega (arith, g.1) }
