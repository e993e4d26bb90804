-- `starting_again::rebase` meets its contract: nothing is changed before all is tested. Assumes nothing.
use mathlib.Core.Path.{◌≡◌, refl, sym, ap, ◌∙◌}
use native.Mathlib.Omega.{arith}
use lib.ListN.{length}
use Rattle.maps.specs.Table.{entry, each}
use Rattle.maps.specs.Folded.{level_table}
use Rattle.laws.proofs.Tables.{length_listed}
use Rattle.answers.proofs.Refusals.{passed_on, told}
use Rattle.starting_again.proofs.Tests.{passed}
use Rattle.starting_again.proofs.Whole.{refused_answers, accepted_answers, reached, lent as exact, level_fits}
use Rattle.starting_again.proofs.rebase.Goals as goal

pub returns-in_err-tested : goal.returns-in_err-tested
returns-in_err-tested c =
    rw (passed_on c.from_residual.result c.from_residual.ensures.1) (
    let k = c in
    let x = refused_answers _ c.args.table.now c.args.at.level.0 _ c.in_err-tested.field-0.0 (told k.tested.ensures.verdict c.in_err-tested.was) in record { answer = x.outcome; rows_left = x.rows_left; lambda_left = x.lambda_left; delta_left = x.delta_left; table_left = k.tested.ensures.table_left; old_left = x.old_left }
    )

pub climb-requires : goal.climb-requires
climb-requires c =
    let e = c in (c.args.at.sizes.h.0, reached _ _ _ _ (sym (told c.tested.ensures.verdict c.in_ok-tested.was)))

pub rank-count-requires : goal.rank-count-requires
rank-count-requires c =
    let v = sym (told c.tested.ensures.verdict c.in_ok-tested.was) in
    let p = exact _ _ _ _ v in
    (omega (arith, p.darts, p.lambda_long), (passed _ _ _ _ v).old_long ∙ sym p.lambda_long)

pub pack_rows-requires : goal.pack_rows-requires
pack_rows-requires c =
    let level-is : let a = c.args in c.climb.new.rows ≡ level_table (entry a.at.sizes.darts a.rows.now) a.at.sizes.n.0 a.at.sizes.darts a.at.sizes.h.0 (each a.lambda.now) (each a.delta.now) a.at.level.0 =
    c.climb.ensures _ (reached _ _ _ _ (sym (told c.tested.ensures.verdict c.in_ok-tested.was))) in
    let k = c in
    let v = sym (told c.tested.ensures.verdict c.in_ok-tested.was) in
    let p = exact _ _ _ _ v in
    let f = level_fits _ _ _ _ v (level-is) in record { n_bound = (p.dimension, omega (arith, p.darts, p.lambda_long), f.0, k.rank-count.ensures.answer); ranks_value = (k.rank-count.ensures.ranks_left, f.1) }

pub pack_marks-requires : goal.pack_marks-requires
pack_marks-requires c =
    let k = c in
    let p = exact _ _ _ _ (sym (told c.tested.ensures.verdict c.in_ok-tested.was)) in
    (omega (arith, p.darts, p.lambda_long), p.delta_long ∙ sym p.lambda_long, ap length k.rank-count.ensures.ranks_left ∙ length_listed _ _)

pub overflow_sub-result : goal.overflow_sub-result
overflow_sub-result c =
    (passed _ _ _ _ (sym (told c.tested.ensures.verdict c.in_ok-tested.was))).low

-- the table is as long as the c it
pub returns : goal.returns
returns c =
    let level-is : let a = c.args in c.climb.new.rows ≡ level_table (entry a.at.sizes.darts a.rows.now) a.at.sizes.n.0 a.at.sizes.darts a.at.sizes.h.0 (each a.lambda.now) (each a.delta.now) a.at.level.0 =
    c.climb.ensures _ (reached _ _ _ _ (sym (told c.tested.ensures.verdict c.in_ok-tested.was))) in
    let k = c in
    let e = c in
    let m = c.pack_marks.ensures in
    let x = accepted_answers _ _ _ _ (sym (told c.tested.ensures.verdict c.in_ok-tested.was)) (level-is) k.rank-count.ensures.answer refl c.pack_rows.ensures m.lambda_left m.delta_left m.old_left in record { answer = x.outcome; rows_left = x.rows_left; lambda_left = x.lambda_left; delta_left = x.delta_left; table_left = c.tested.ensures.table_left; old_left = x.old_left }
