-- `carrying::follow` meets its contract. The invariant: e is of the kernel with row i, and what is summed with what is left to sum from it is all of it. The measure is how many turns may be left. Assumes nothing.
use mathlib.Core.Path.{◌≡◌, sym, ap, ◌∙◌}
use Prim.Native.Nat.{ℕ, ◌-◌, ◌<◌, ◌≤◌}
use native.Mathlib.Omega.{arith}
use borrow.Author.Tests.{eq-eqb}
use Rattle.maps.specs.Mark.{between}
use Rattle.maps.specs.Table.{entry}
use Rattle.kernels.specs.Strings.{kernel_row}
use Rattle.kernels.proofs.Places.{place, place_still}
use Rattle.carrying.proofs.Local.{counts_none}
use Rattle.carrying.proofs.Summing.{sum_byte, sum_second, sum_met, sum_end, sum_ends, sum_on}
use Rattle.carrying.proofs.follow.Goals as goal

-- the second row of a mark, under its other name
second_is : {s m y : ℕ} → s ≡ (between m).1 → m ≡ y → s ≡ (between y).1
second_is e is = e ∙ ap (λ (x : ℕ). (between x).1) is

pub between-rows-requires : goal.between-rows-requires
between-rows-requires c = let h = c in let p = c.requires.can_follow in rw c.delta_at.ensures (sum_byte p.0 p.1 h.loop-turns.invariant.dart h.loop-turns.invariant.removed)

pub at-y-requires : goal.at-y-requires
at-y-requires c =
    let low : c.between-rows.result.1.0 ≤ c.args.kernel.now.n.0 =
    let p = c.requires in sum_second p.can_follow.0 p.can_follow.1 c.loop-turns.invariant.dart c.loop-turns.invariant.removed p.row_le_n.0 (second_is c.between-rows.ensures.1 c.delta_at.ensures) in
    let h = c in place c.requires.can_follow.1.shape _ _ low h.loop-turns.invariant.dart

pub at-requires : goal.at-requires
at-requires c =
    let low : c.between-rows.result.1.0 ≤ c.args.kernel.now.n.0 =
    let p = c.requires in sum_second p.can_follow.0 p.can_follow.1 c.loop-turns.invariant.dart c.loop-turns.invariant.removed p.row_le_n.0 (second_is c.between-rows.ensures.1 c.delta_at.ensures) in
    let h = c in place_still c.requires.can_follow.2 (place c.requires.can_follow.1.shape _ _ low h.loop-turns.invariant.dart)

pub at-requires-in-loop-turns : goal.at-requires-in-loop-turns
at-requires-in-loop-turns c =
    let met : c.at-y.result < c.args.kernel.now.darts =
    let h = c in let p = c.requires in sum_met p.can_follow.0 p.can_follow.1 h.loop-turns.invariant.dart h.loop-turns.invariant.removed p.row_le_n.0 (second_is c.between-rows.ensures.1 c.delta_at.ensures) c.at-y.ensures.0 in
    let h = c in let p = c.requires in place_still p.can_follow.2 (place p.can_follow.1.shape _ _ p.row_le_n.0 (met))

pub at-e-requires : goal.at-e-requires
at-e-requires c =
    let met : c.at-y.result < c.args.kernel.now.darts =
    let h = c in let p = c.requires in sum_met p.can_follow.0 p.can_follow.1 h.loop-turns.invariant.dart h.loop-turns.invariant.removed p.row_le_n.0 (second_is c.between-rows.ensures.1 c.delta_at.ensures) c.at-y.ensures.0 in
    let h = c in let p = c.requires in place p.can_follow.1.shape _ _ p.row_le_n.0 (met)

pub passes-requires : goal.passes-requires
passes-requires c =
    let reached : c.at-e.result < c.args.kernel.now.darts =
    let h = c in
    let p = c.requires in
    omega (arith, c.at-e.ensures.0, sum_end p.can_follow.0 p.can_follow.1 h.loop-turns.invariant.dart h.loop-turns.invariant.removed p.row_le_n.0 (second_is c.between-rows.ensures.1 c.delta_at.ensures) c.at-y.ensures.0) in
    let p = c.requires.can_follow in
    (omega (arith, reached, p.0.lambda_long), omega (arith, reached, p.0.delta_long), λ q. sum_byte p.0 p.1 (reached) (eq-eqb _ _ q))

pub returns-then-not-passes : goal.returns-then-not-passes
returns-then-not-passes c =
    let a = c in
    let h = c in
    let p = c.requires in
    let e = sum_ends h.loop-turns.invariant c.loop-turns-test.true (second_is c.between-rows.ensures.1 c.delta_at.ensures) a.at-y.ensures.0 a.at.ensures.0 a.at-in-loop-turns.ensures.0 a.at-e.ensures.0 p.can_follow.0 p.can_follow.1 p.row_le_n.0 (sym c.passes.ensures ∙ c.if-not-passes.true) in record { answer = e; small = omega (arith, a.at-in-loop-turns.ensures.1, a.at.ensures.1, h.loop-turns.invariant.small, c.loop-turns-test.true, p.can_follow.1.shape.darts) }

pub loop-turns-preserved : goal.loop-turns-preserved
loop-turns-preserved c =
    let a = c in
    let h = c in
    let p = c.requires in
    sum_on h.loop-turns.invariant c.loop-turns-test.true (second_is c.between-rows.ensures.1 c.delta_at.ensures) a.at-y.ensures.0 a.at.ensures.0 a.at-in-loop-turns.ensures.0 a.at-e.ensures.0 p.can_follow.0 p.can_follow.1 p.row_le_n.0 (sym c.passes.ensures ∙ c.if-not-passes.false)
    a.at.ensures.1 a.at-in-loop-turns.ensures.1

pub returns : goal.returns
returns c =
    let l = c.loop-turns in
    let s = c in
    let p = s.requires in
    let a = s.args in
    let z : s.args.kernel.now.darts - l.turns ≡ 0 = omega (arith, l.invariant.fits, c.loop-turns-test.false) in
    let g = rw z at (l.invariant.rest _ p.can_follow.0 p.can_follow.1 p.row_le_n.0) in record { answer = omega (arith, g, counts_none (entry a.kernel.now.darts a.block.now) a.kernel.now.n.0 (kernel_row a.kernel.now.lambda.now a.kernel.now.delta.now a.kernel.now.level.0) (entry a.kernel.now.darts a.reads.now) a.i.0 l.e); small = omega (arith, l.invariant.small, l.invariant.fits, p.can_follow.1.shape.darts) }
