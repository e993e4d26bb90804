-- `decimation::decimation` meets its contract. Assumes nothing.
use mathlib.Core.Path.{◌≡◌, refl, sym, ap, ◌∙◌}
use native.Mathlib.Omega.{arith}
use native.Mathlib.Numerals.{add-one}
use Prim.Native.Nat.{ℕ}
use lib.Dec.{leb}
use borrow.Author.Rules.{rules}
use borrow.Author.Tests.{leb-true, leb-false}
use Rattle.std.specs.Prelude.{Ok}
use Rattle.std.specs.Ordering.{is_le, nat_cmp}
use Rattle.maps.specs.Table.{each}
use Rattle.maps.specs.Folded.{survivors}
use Rattle.maps.specs.Decimation.{decimation_table}
use Rattle.answers.specs.Pyramid.{folded}
use Rattle.answers.specs.declared.Refusal.TheVariants.{NoLevel}
use Rattle.answers.proofs.Refusals.{passed_on}
use Rattle.decimation.specs.Answers.{factor_of}
use Rattle.decimation.proofs.Whole.{check_refused, accepts, no_next, answered}
use Rattle.decimation.proofs.decimation.Goals as goal

-- what the derived comparison says
at_most : (a b : ℕ) → leb a b ≡ is_le (nat_cmp a b)
at_most a b = search rules

pub overflow_add-level : goal.overflow_add-level
overflow_add-level c =
    let a = c.args in
    let p = accepts (folded a.pyramid.now) a.table.now a.level.0 c.in_ok-check.ensures.verdict in
    omega (arith, p.height, leb-false _ _ (at_most a.pyramid.now.sizes.h.0 a.level.0 ∙ sym c.le.ensures ∙ c.if-le.false))

pub returns-in_err-check : goal.returns-in_err-check
unfolding decimation_table
returns-in_err-check c =
    rw (passed_on c.from_residual.result c.from_residual.ensures.1) (
    record { answer = check_refused _ _ c.args.level.0 c.in_err-check.field-0.0 c.in_err-check.ensures.verdict; table_left = c.check.ensures.table_left })

pub returns-then-le : goal.returns-then-le
unfolding decimation_table
returns-then-le c =
    let a = c.args in
    let high = leb-true _ _ (at_most a.pyramid.now.sizes.h.0 a.level.0 ∙ sym c.le.ensures ∙ c.if-le.true) in record { answer = no_next (folded a.pyramid.now) a.table.now a.level.0 c.in_ok-check.ensures.verdict (NoLevel a.level (record { 0 = 0 }) 0) refl high; table_left = c.check.ensures.table_left }

pub survivors_on-count-requires : goal.survivors_on-count-requires
survivors_on-count-requires c =
    let p = accepts (folded c.args.pyramid.now) c.args.table.now c.args.level.0 c.in_ok-check.ensures.verdict in omega (arith, p.lambda_length, p.darts.1)

pub survivors_on-next-requires : goal.survivors_on-next-requires
survivors_on-next-requires c =
    let p = accepts (folded c.args.pyramid.now) c.args.table.now c.args.level.0 c.in_ok-check.ensures.verdict in omega (arith, p.lambda_length, p.darts.1)

pub returns : goal.returns
unfolding decimation_table
returns c =
    let a = c.args in
    let low = leb-false _ _ (at_most a.pyramid.now.sizes.h.0 a.level.0 ∙ sym c.le.ensures ∙ c.if-le.false) in
    let second = c.survivors_on-next.ensures ∙ ap (survivors _ (each a.pyramid.now.lambda.now)) (add-one a.level.0) in record { answer = ap (λ f. factor_of (Ok f)) c.factor_between.ensures ∙ answered _ _ a.level.0 c.in_ok-check.ensures.verdict _ _ low c.survivors_on-count.ensures second; table_left = c.check.ensures.table_left }
