-- `combinatorial::importing::not_twice` meets its contract. The invariant: the edges of the darts passed lead back. Assumes nothing.
use mathlib.Core.Path.{sym}
use native.Mathlib.Omega.{arith}
use Rattle.combinatorial.proofs.Tests.{twice_back, back_first}
use Rattle.combinatorial.proofs.importing.not_twice.Goals as goal

pub returns-then-edges-partner : goal.returns-then-edges-partner
returns-then-edges-partner c =
    let a = c.args in
    let l = c.loop-d in
    sym (back_first a.darts a.edges.now l.d (omega (arith, c.loop-d-test.true, c.requires.exact)) l.invariant.1 c.if-edges-partner.true)

pub returns : goal.returns
returns c =
    let a = c.args in
    sym (twice_back a.darts a.edges.now (λ x f. c.loop-d.invariant.1 x (omega arith)))
