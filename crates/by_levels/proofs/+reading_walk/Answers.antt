-- The proof of the cycle of calls {reading, walk}. Assumes nothing.
use mathlib.Core.Path.{◌≡◌, refl, sym, ◌∙◌}
use Prim.Native.Nat.{ℕ, ◌-◌, ◌<◌}
use native.Mathlib.Omega.{arith}
use borrow.Author.Tests.{eqb-true, ltb-true, ltb-false}
use Rattle.std.specs.Prelude.{Ok, Err}
use Rattle.answers.specs.Pyramid.{folded}
use Rattle.maps.specs.Table.{each}
use Rattle.laws.proofs.Marks.{mark_byte, mark_rows}
use Rattle.laws.proofs.Verdicts.{and_both}
use Rattle.by_levels.specs.declared.Place.{Place}
use Rattle.by_levels.specs.declared.Stop.TheVariants.{NoPass}
use Rattle.by_levels.proofs.Readings.{End, OnWay, stopped_on, Meets, Passes, Turned, Crossed, nearer, pass_stops, pass_comes, step_stops, step_ends, step_lands, no_second, kernel_mark, crossing_stops, across_lands, across_ends, across_no_pass}
use Rattle.by_levels.proofs.+reading_walk.Goals.{walk-Else-not-is_gone, walk-In_ok-next, walk-Else-not-same_kernel}
use Rattle.by_levels.proofs.+reading_walk.Goals as goal

-- the dart met is not on level l
left : (t : ℕ) (c : walk-Else-not-is_gone t) → each c.args.pyramid.now.lambda.now c.loop-l.met.dart < c.args.l.0
left t c = ltb-true _ _ (rw c.lambda_at-own.ensures at (sym c.is_gone.ensures) ∙ c.if-not-is_gone.false)

-- it was met on the level below
meets : (t : ℕ) (c : walk-Else-not-is_gone t) → Meets (folded c.args.pyramid.now) (c.args.l.0 - 1) c.loop-l.met
meets t c =
    let p = c.requires.0 in
    let s = c.loop-l.invariant.stepped in
    let x = step_lands s in
    record { asked = record { top = p.top; lent = p.lent; under = omega (arith, p.under, c.requires.1); row = omega (arith, p.row, x.row, s.way.row); dart = x.dart }; marks = x.marks }

-- how it was passed or not
turned : (t : ℕ) (c : walk-Else-not-is_gone t) (end : End) → Passes (folded c.args.pyramid.now) (c.args.l.0 - 1) c.loop-l.met end → Turned (folded c.args.pyramid.now) c.args.l.0 c.args.from c.loop-l.invariant.at end
turned t c end pass = record { met = c.loop-l.met; step = c.loop-l.invariant.stepped; left = left t c; pass = pass }

-- by its mark's second row a place was reached
reached : (t : ℕ) (c : walk-In_ok-next t) → Crossed (folded c.args.pyramid.now) (c.args.l.0 - 1) c.loop-l.met (Ok c.in_ok-next.next)
reached t c = record { second = c.in-Some.across; second_row = c.in-Some.ensures; read = c.in_ok-next.ensures }

-- the walk goes on from there
passed : (t : ℕ) (c : walk-Else-not-same_kernel t) → Turned (folded c.args.pyramid.now) c.args.l.0 c.args.from c.loop-l.invariant.at (Ok c.in_ok-next.next)
passed t c =
    let at = goal.at.walk-Else-not-same_kernel t c in
    turned t at.Else-not-is_gone (Ok c.in_ok-next.next) (across_ends (reached t at.In_ok-next) c.same_kernel.ensures c.if-not-same_kernel.false)

pub walk-returns-in_err-met : goal.walk-returns-in_err-met
walk-returns-in_err-met t c =
    let a = c.args in
    let way : OnWay (folded a.pyramid.now) a.l.0 a.from a.from = record { row = refl; dart = c.requires.0.dart; same = λ i b. refl } in
    rw (stopped_on c.from_residual.result c.from_residual.ensures.1) (step_stops (record { above = c.requires.1; way = way; read = c.in_err-met.ensures }))

pub walk-lambda_at-own-requires : goal.walk-lambda_at-own-requires
walk-lambda_at-own-requires t c = omega (arith, (step_lands c.loop-l.invariant.stepped).dart, c.requires.0.lent.lambda_length)

pub walk-returns-then-not-is_gone : goal.walk-returns-then-not-is_gone
walk-returns-then-not-is_gone t c =
    step_ends c.loop-l.invariant.stepped (ltb-false _ _ (rw c.lambda_at-own.ensures at (sym c.is_gone.ensures) ∙ c.if-not-is_gone.true))

pub walk-second_row-requires : goal.walk-second_row-requires
walk-second_row-requires t c =
    let p = c.args.pyramid.now in
    let m = meets t c in
    record {
      lambda_has = omega (arith, m.asked.dart, m.asked.lent.lambda_length);
      delta_has = omega (arith, m.asked.dart, m.asked.lent.delta_length);
      marked = λ kernel. mark_byte p.sizes.n.0 (each p.delta.now c.loop-l.met.dart) (omega (arith, m.asked.lent.dimension)) (kernel_mark m kernel);
    }

pub walk-returns-in_default : goal.walk-returns-in_default
walk-returns-in_default t c =
    let at = goal.at.walk-returns-in_default t c in
    pass_stops {s = record { 0 = NoPass; 1 = c.loop-l.met }} (turned t at.Else-not-is_gone _ (no_second (folded c.args.pyramid.now) (c.args.l.0 - 1) c.loop-l.met c.in_default.ensures))

pub walk-reading-requires-in-loop-l : goal.walk-reading-requires-in-loop-l
walk-reading-requires-in-loop-l t c =
    let a = c.args in
    let m = meets t (goal.at.walk-reading-requires-in-loop-l t c).Else-not-is_gone in
    let two = c.in-Some.ensures in
    let kernel : each a.pyramid.now.lambda.now c.loop-l.met.dart ≡ a.l.0 - 1 = eqb-true _ _ (and_both _ _ two.0).0 in
    let p = m.asked in (
      omega (arith, c.requires.1, c.decreases),
      record {
        top = p.top;
        lent = p.lent;
        under = omega (arith, p.under);
        row = omega (arith, (mark_rows a.pyramid.now.sizes.n.0 (each a.pyramid.now.delta.now c.loop-l.met.dart) (kernel_mark m kernel)).second, two.1);
        dart = p.dart;
      },
    )

pub walk-returns-in_err-next : goal.walk-returns-in_err-next
walk-returns-in_err-next t c =
    let at = goal.at.walk-returns-in_err-next t c in
    let crossed : Crossed (folded c.args.pyramid.now) (c.args.l.0 - 1) c.loop-l.met (Err c.in_err-next.field-0.0) = record { second = c.in-Some.across; second_row = c.in-Some.ensures; read = c.in_err-next.ensures } in
    rw (stopped_on c.from_residual-in_err-next.result c.from_residual-in_err-next.ensures.1) (crossing_stops c.loop-l.invariant.stepped (left t at.Else-not-is_gone) crossed)

pub walk-same_kernel-requires : goal.walk-same_kernel-requires
walk-same_kernel-requires t c =
    let m = (meets t (goal.at.walk-same_kernel-requires t c).Else-not-is_gone).asked in
    let x = across_lands (reached t c) in
    (omega (arith, x.dart, m.lent.lambda_length), omega (arith, x.dart, m.lent.delta_length), omega (arith, m.dart, m.lent.delta_length))

pub walk-returns-then-not-same_kernel : goal.walk-returns-then-not-same_kernel
walk-returns-then-not-same_kernel t c =
    let at = goal.at.walk-returns-then-not-same_kernel t c in
    pass_stops {s = record { 0 = NoPass; 1 = c.in_ok-next.next }} (turned t at.Else-not-is_gone _ (across_no_pass (reached t at.In_ok-next) c.same_kernel.ensures c.if-not-same_kernel.true))

pub walk-reading-requires-in-loop-l-2 : goal.walk-reading-requires-in-loop-l-2
walk-reading-requires-in-loop-l-2 t c =
    let p = c.requires.0 in
    let x = pass_comes (passed t (goal.at.walk-reading-requires-in-loop-l-2 t c).Else-not-same_kernel) in
    (omega (arith, c.requires.1, c.decreases), record { top = p.top; lent = p.lent; under = omega (arith, p.under); row = p.row; dart = x.dart })

pub walk-returns-in_err-met-2 : goal.walk-returns-in_err-met-2
walk-returns-in_err-met-2 t c =
    let x = passed t (goal.at.walk-returns-in_err-met-2 t c).Else-not-same_kernel in
    rw (stopped_on c.from_residual-in_err-met-2.result c.from_residual-in_err-met-2.ensures.1) (step_stops (record { above = c.requires.1; way = pass_comes x; read = c.in_err-met-2.ensures }))

pub walk-loop-l-smaller : goal.walk-loop-l-smaller
walk-loop-l-smaller t c =
    let a = c.args in
    let at : Place = record { row = a.from.row; dart = c.in_ok-next.next.dart; count = c.in_ok-next.next.count } in
    nearer (folded a.pyramid.now) (a.l.0 - 1) at c.loop-l.met (across_lands (reached t (goal.at.walk-loop-l-smaller t c).In_ok-next)) c.in_ok-met-2.ensures

pub walk-loop-l-preserved : goal.walk-loop-l-preserved
walk-loop-l-preserved t c =
    let x = passed t (goal.at.walk-loop-l-preserved t c).Else-not-same_kernel in
    record {
      at = record { row = c.args.from.row; dart = c.in_ok-next.next.dart; count = c.in_ok-next.next.count };
      stepped = record { above = c.requires.1; way = pass_comes x; read = c.in_ok-met-2.ensures };
    }
