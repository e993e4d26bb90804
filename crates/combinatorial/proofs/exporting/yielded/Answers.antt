-- `combinatorial::exporting::yielded` meets its contract: what each pass finds is a part of the pattern. Assumes nothing.
use native.Mathlib.Omega.{arith}
use Rattle.combinatorial.proofs.Patterns.{found}
use Rattle.combinatorial.proofs.exporting.yielded.Goals as goal

pub returns : goal.returns
returns c e =
    let a = c.args in
    found a.table.now.n.0 a.table.now.darts a.table.now.entries.now a.edges a.vertices (c.fit.ensures c.if-not-fit.false) (λ k l. omega (arith, c.largest.ensures.above k l)) (c.sides_paired.ensures c.if-not-sides_paired.false)
    (c.in_pairs.ensures c.if-not-in_pairs.false)
    (c.lead_back.ensures e)
