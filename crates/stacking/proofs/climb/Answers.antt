-- `stacking::climb` meets its contract. The invariant: the kernels passed are accepted, and the blocks up to the level that they leave hold the levels. The measure is the kernels left. Assumes nothing.
use mathlib.Core.Path.{refl, sym, ap, ◌∙◌}
use native.Mathlib.Omega.{arith}
use Prim.Native.Nat.{◌+◌}
use lib.ListN.{length, get_or-replicate}
use Rattle.maps.specs.Verdict.{Verdict}
use Rattle.maps.specs.UnfoldAll.{blocks_left}
use Rattle.answers.specs.Pyramid.{folded}
use Rattle.answers.proofs.Refusals.{passed_on}
use Rattle.stacking.specs.Stacked.{stacked_on}
use Rattle.stacking.proofs.Stacks.{start_long, start_stacking, start_same, stacking_all, stacking_tested, stacking_strung, stacking_refused, stacking_next}
use Rattle.stacking.proofs.climb.Goals as goal

pub string-requires : goal.string-requires
string-requires c = let b = c.requires.0 in (omega (arith, b.darts, b.lambda_long), record { none = λ k lk. get_or-replicate 256 k 65535 0 lk; heads = refl; room = refl })

pub loop-l-init : goal.loop-l-init
loop-l-init c =
    let a = c.args in start_stacking (folded a.pyramid.now) c.requires.0 a.tables.now c.requires.1 c.copy.ensures

pub raise-requires : goal.raise-requires
raise-requires c =
    let a = c.args in
    let b = c.requires.0 in
    let l = c.loop-l in
    let lt = c.loop-l-test.true in
    let long = start_long (folded a.pyramid.now) b a.tables.now c.requires.1 c.copy.ensures in record {
      pair_len = stacking_tested (folded a.pyramid.now) b _ l.tables long l.l l.from l.invariant lt (l.from + length a.pyramid.now.rows.now + length a.pyramid.now.rows.now) (omega (arith, b.rows_long));
      strung = stacking_strung (folded a.pyramid.now) b _ l.tables long l.l l.from l.invariant lt (l.from + length a.pyramid.now.rows.now + length a.pyramid.now.rows.now) (omega (arith, b.rows_long)) (rw b.lambda_long at c.string.ensures) refl;
    }

pub returns-in_err-raise : goal.returns-in_err-raise
returns-in_err-raise c =
    rw (passed_on c.from_residual.result c.from_residual.ensures.1) (
    let a = c.args in
    let b = c.requires.0 in
    let l = c.loop-l in
    let copied = c.copy.ensures in
    let g = stacking_refused (folded a.pyramid.now) b _ l.tables (start_long (folded a.pyramid.now) b a.tables.now c.requires.1 copied) l.l l.from l.invariant c.loop-l-test.true _ (omega (arith, b.rows_long)) c.in_err-raise.field-0.0 c.in_err-raise.ensures.verdict c.raise.ensures.pair_left in record {
      verdict = g.0;
      tables_left = g.2 ∙ start_same (folded a.pyramid.now) b a.tables.now c.requires.1 copied l.l ∙ ap (stacked_on (folded a.pyramid.now) a.tables.now) (sym g.1);
    })

pub loop-l-preserved : goal.loop-l-preserved
loop-l-preserved c =
    let a = c.args in
    let b = c.requires.0 in
    let l = c.loop-l in
    let g = stacking_next (folded a.pyramid.now) b _ l.tables (start_long (folded a.pyramid.now) b a.tables.now c.requires.1 c.copy.ensures) l.l l.from l.invariant c.loop-l-test.true _ (omega (arith, b.rows_long)) c.in_ok-raise.ensures.verdict c.raise.ensures.pair_left in
    record { low = g.low; from_is = omega (arith, g.from_is, b.rows_long); holds = g.holds; checked = g.checked }

pub returns : goal.returns
unfolding blocks_left
returns c =
    let a = c.args in
    let b = c.requires.0 in
    let l = c.loop-l in
    let top = a.pyramid.now.sizes.h.0 in
    let copied = c.copy.ensures in
    let g = stacking_all (folded a.pyramid.now) b _ l.tables (start_long (folded a.pyramid.now) b a.tables.now c.requires.1 copied) l.l l.from l.invariant (omega (arith, l.invariant.low, c.loop-l-test.false)) in record {
      verdict = g.0;
      tables_left = g.1 ∙ start_same (folded a.pyramid.now) b a.tables.now c.requires.1 copied top ∙ ap (λ (x : Verdict). stacked_on (folded a.pyramid.now) a.tables.now (blocks_left top x)) g.0;
    }
