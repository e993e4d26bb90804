-- `regions::name_regions` meets its contract: nothing is named before all is tested. Assumes nothing.
use mathlib.Core.Path.{◌≡◌, sym, ◌∙◌}
use Prim.Native.Nat.{ℕ}
use lib.ListN.{length}
use lib.Dec.{ltb}
use borrow.Author.Rules.{rules}
use Rattle.std.specs.Ordering.{is_lt, nat_cmp}
use borrow.Author.Tests.{eqb-true, ltb-true, ltb-false}
use Rattle.answers.specs.Pyramid.{folded}
use Rattle.answers.proofs.Refusals.{passed_on, told}
use Rattle.regions.proofs.Whole.{not_long, check_refused, accepts, too_high_lem, shrunk, leads, all_named}
use Rattle.regions.proofs.name_regions.Goals as goal

-- what the derived comparison says
below : (a b : ℕ) → ltb a b ≡ is_lt (nat_cmp a b)
below a b = search rules

pub returns-then-not-row_fits : goal.returns-then-not-row_fits
returns-then-not-row_fits c =
    let a = c.args in
    let x = not_long (folded a.pyramid.now) a.table.now a.level.0 a.names.now (sym c.row_fits.ensures ∙ c.if-not-row_fits.true) in
    record { verdict = c.lent.ensures ∙ x.0; table_left = x.1; names_left = x.2 }

pub returns-in_err-check : goal.returns-in_err-check
returns-in_err-check c =
    let a = c.args in
    let x = check_refused _ _ a.level.0 a.names.now (sym c.row_fits.ensures ∙ c.if-not-row_fits.false) _ (told c.check.ensures.verdict c.in_err-check.was) in
    rw (passed_on c.from_residual.result c.from_residual.ensures.1) (record { verdict = x.0; table_left = c.check.ensures.table_left ∙ x.1; names_left = x.2 })

pub returns-then-lt : goal.returns-then-lt
returns-then-lt c =
    let a = c.args in
    let x = too_high_lem _ _ a.level.0 a.names.now (sym c.row_fits.ensures ∙ c.if-not-row_fits.false) (told c.check.ensures.verdict c.in_ok-check.was) (ltb-true _ _ (below a.pyramid.now.sizes.h.0 a.level.0 ∙ sym c.lt.ensures ∙ c.if-lt.true)) in
    record { verdict = x.0; table_left = c.check.ensures.table_left ∙ x.1; names_left = x.2 }

pub contracted-requires : goal.contracted-requires
contracted-requires c =
    let a = c.args in
    let p = accepts _ _ a.level.0 a.names.now (sym c.row_fits.ensures ∙ c.if-not-row_fits.false) (told c.check.ensures.verdict c.in_ok-check.was) in
    p.delta_length

pub returns-in_err-contracted : goal.returns-in_err-contracted
returns-in_err-contracted c =
    let a = c.args in
    let low = ltb-false _ _ (below a.pyramid.now.sizes.h.0 a.level.0 ∙ sym c.lt.ensures ∙ c.if-lt.false) in
    let x = shrunk _ _ a.level.0 a.names.now (sym c.row_fits.ensures ∙ c.if-not-row_fits.false) (told c.check.ensures.verdict c.in_ok-check.was) low _ (told c.contracted.ensures c.in_err-contracted.was) in
    rw (passed_on c.from_residual-in_err-contracted.result c.from_residual-in_err-contracted.ensures.1) (record { verdict = x.0; table_left = c.check.ensures.table_left ∙ x.1; names_left = x.2 })

pub region_choices-choices-requires : goal.region_choices-choices-requires
region_choices-choices-requires c =
    let a = c.args in
    let p = accepts _ _ a.level.0 a.names.now (sym c.row_fits.ensures ∙ c.if-not-row_fits.false) (told c.check.ensures.verdict c.in_ok-check.was) in
    record { one = p.dimension.0; dimension = p.dimension.1; darts = p.darts.1; lambda_length = p.lambda_length; delta_length = p.delta_length }

pub name_orbits-requires : goal.name_orbits-requires
name_orbits-requires c =
    let a = c.args in
    let fits = sym c.row_fits.ensures ∙ c.if-not-row_fits.false in
    let fine = told c.check.ensures.verdict c.in_ok-check.was in
    let p = accepts _ _ a.level.0 a.names.now fits fine in
    let low = ltb-false _ _ (below a.pyramid.now.sizes.h.0 a.level.0 ∙ sym c.lt.ensures ∙ c.if-lt.false) in
    (leads _ _ a.level.0 a.names.now fits fine low (told c.contracted.ensures c.in_ok-contracted.was) _ c.region_choices-choices.ensures, eqb-true (length a.names.now) a.pyramid.now.sizes.darts fits, p.dimension.0)

pub returns : goal.returns
returns c =
    let a = c.args in
    let fits = sym c.row_fits.ensures ∙ c.if-not-row_fits.false in
    let fine = told c.check.ensures.verdict c.in_ok-check.was in
    let p = accepts _ _ a.level.0 a.names.now fits fine in
    let low = ltb-false _ _ (below a.pyramid.now.sizes.h.0 a.level.0 ∙ sym c.lt.ensures ∙ c.if-lt.false) in
    let x = all_named _ _ a.level.0 a.names.now fits fine low (told c.contracted.ensures c.in_ok-contracted.was) _ c.region_choices-choices.ensures _ c.name_orbits.ensures in
    record { verdict = x.0; table_left = c.check.ensures.table_left ∙ x.1; names_left = x.2 }
