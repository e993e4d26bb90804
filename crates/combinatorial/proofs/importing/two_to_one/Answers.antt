-- `combinatorial::importing::two_to_one` meets its contract. The invariant: a flag is set where a dart passed had the image, and no dart passed has the image of one before. Assumes nothing.
use mathlib.Core.Path.{sym, ◌∙◌}
use mathlib.Core.Bool.{false}
use Prim.Native.Nat.{zero-le, ◌<◌}
use native.Mathlib.Omega.{arith}
use lib.ListN.{length-set, length-replicate, get_or-replicate}
use borrow.Author.Count.{below_none, below_more}
use Rattle.maps.specs.Partner.{had as had_before}
use Rattle.combinatorial.proofs.Tests.{fresh_21, first_21, flags_more}
use Rattle.combinatorial.proofs.importing.two_to_one.Goals as goal

pub loop-d-init : goal.loop-d-init
unfolding had_before
loop-d-init c = (zero-le, length-replicate 2048 false, λ x l. get_or-replicate 2048 x false false (omega arith), below_none _)

pub returns-then-had-image : goal.returns-then-had-image
returns-then-had-image c =
    let a = c.args in
    let l = c.loop-d in
    let low : l.d < a.darts = omega (arith, c.loop-d-test.true, c.requires.0.exact) in
    sym (first_21 a.darts a.vertices.now l.d low l.invariant.3 (sym (l.invariant.2 _ (c.requires.0.inside l.d low)) ∙ c.if-had-image.true))

pub loop-d-preserved : goal.loop-d-preserved
loop-d-preserved c =
    let l = c.loop-d in
    let low = c.requires.0.inside l.d (omega (arith, c.loop-d-test.true, c.requires.0.exact)) in
    (omega arith, simp length-set l.invariant.1, λ x f. flags_more c.args.vertices.now l.had l.d (omega (arith, low)) x (l.invariant.2 x f), below_more _ l.d l.invariant.3 (sym (l.invariant.2 _ low) ∙ c.if-had-image.false))

pub returns : goal.returns
returns c =
    let a = c.args in
    sym (fresh_21 a.darts a.vertices.now (λ x f. c.loop-d.invariant.3 x (omega arith)))
