-- `checking::pyramid::row_checked` meets its contract. Assumes nothing.
use mathlib.Core.Path.{sym, ◌∙◌}
use native.Mathlib.Omega.{arith}
use Rattle.checking.proofs.AddCheck.{pair_found, pair_none, none_refused}
use Rattle.checking.proofs.pyramid.row_checked.Goals as goal

pub overflow_cast-result : goal.overflow_cast-result
overflow_cast-result c =
    let a = c.args in
    omega (arith, (pair_found a.sizes.n.0 a.sizes.darts a.sizes.h.0 a.lambda.now a.row.now c.requires.0 c.requires.1 c.in-Some.d (sym c.first_refused.ensures ∙ c.in-Some.is)).0)

pub returns-in-Some : goal.returns-in-Some
returns-in-Some c =
    let a = c.args in
    (pair_found a.sizes.n.0 a.sizes.darts a.sizes.h.0 a.lambda.now a.row.now c.requires.0 c.requires.1 c.in-Some.d (sym c.first_refused.ensures ∙ c.in-Some.is)).1

pub returns-in_default : goal.returns-in_default
returns-in_default c =
    let a = c.args in
    pair_none a.sizes.n.0 a.sizes.darts a.sizes.h.0 a.lambda.now a.row.now c.requires.0 c.requires.1 (sym c.first_refused.ensures ∙ c.in_default.is)

pub returns-else-any_refused : goal.returns-else-any_refused
returns-else-any_refused c =
    let a = c.args in
    none_refused a.sizes.n.0 a.sizes.darts a.sizes.h.0 a.lambda.now a.row.now c.requires.0 c.requires.1 (sym c.any_refused.ensures ∙ c.if-any_refused.false)
