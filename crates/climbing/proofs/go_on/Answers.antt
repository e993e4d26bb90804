-- `climbing::go_on` meets its contract. The invariant: from whichever base the climb came, the kernels passed are accepted, and the table holds the level that they leave. The measure is the kernels left. Assumes nothing.
use mathlib.Core.Path.{refl}
use native.Mathlib.Omega.{arith}
use Rattle.answers.proofs.Refusals.{passed_on, told}
use Rattle.climbing.proofs.Steps.{climb_tested, climb_strung, climb_refused, climb_next, climb_all}
use Rattle.climbing.proofs.go_on.Goals as goal

pub step-requires : goal.step-requires
step-requires c =
    let v = c.loop-l.invariant.1 c.requires.2.0 c.requires.2.1 in
    record { tested = climb_tested v (omega (arith, c.loop-l-test.true, c.requires.1)); strung = climb_strung v (omega (arith, c.loop-l-test.true, c.requires.1)) refl }

pub returns-in_err-step : goal.returns-in_err-step
returns-in_err-step c =
    let refused = told c.step.ensures.verdict c.in_err-step.was in
    rw (passed_on c.from_residual.result c.from_residual.ensures.1) (record {
      verdict = λ rows from. (climb_refused (c.loop-l.invariant.1 rows from) (omega (arith, c.loop-l-test.true, c.requires.1)) c.step.ensures.table_left c.args.to.0 c.loop-l-test.true c.in_err-step.field-0.0 refused).0;
      table_left = λ rows from. (climb_refused (c.loop-l.invariant.1 rows from) (omega (arith, c.loop-l-test.true, c.requires.1)) c.step.ensures.table_left c.args.to.0 c.loop-l-test.true c.in_err-step.field-0.0 refused).1;
    })

pub loop-l-preserved : goal.loop-l-preserved
loop-l-preserved c =
    (omega arith, λ rows from. climb_next (c.loop-l.invariant.1 rows from) (omega (arith, c.loop-l-test.true, c.requires.1)) c.step.ensures.table_left (told c.step.ensures.verdict c.in_ok-step.was))

pub returns : goal.returns
returns c =
    record {
      verdict = λ rows from. (climb_all (c.loop-l.invariant.1 rows from) c.args.to.0 (omega (arith, c.loop-l.invariant.0, c.loop-l-test.false))).0;
      table_left = λ rows from. (climb_all (c.loop-l.invariant.1 rows from) c.args.to.0 (omega (arith, c.loop-l.invariant.0, c.loop-l-test.false))).1;
    }
