-- `combinatorial::importing::outside` meets its contract. The invariant: the entries passed are darts. Assumes nothing.
use mathlib.Core.Path.{sym}
use native.Mathlib.Omega.{arith}
use Rattle.combinatorial.proofs.Tests.{inside_outside, outside_first}
use Rattle.combinatorial.proofs.importing.outside.Goals as goal

pub returns-then-largest-darts : goal.returns-then-largest-darts
returns-then-largest-darts c =
    let a = c.args in
    sym (inside_outside a.darts a.i.0 a.row.now (λ x f. omega (arith, c.largest.ensures.above x (omega (arith, c.requires)))))

pub returns-then-darts-entry : goal.returns-then-darts-entry
returns-then-darts-entry c =
    let a = c.args in
    let l = c.loop-d in
    sym (outside_first a.darts a.i.0 a.row.now l.d (omega (arith, c.loop-d-test.true, c.requires)) l.invariant.1 c.if-darts-entry.true)

pub returns : goal.returns
returns c =
    let a = c.args in
    sym (inside_outside a.darts a.i.0 a.row.now (λ x f. c.loop-d.invariant.1 x (omega arith)))
