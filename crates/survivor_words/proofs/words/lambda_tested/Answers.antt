-- `survivor_words::lambda_tested` meets its contract: where the largest Λ is allowed, every one is. Assumes nothing.
use mathlib.Core.Path.{sym, ◌∙◌}
use native.Mathlib.Omega.{arith}
use Rattle.std.proofs.lemmas.Map.Keys.{ge_from_not_lt}
use Rattle.survivor_words.proofs.Accepted.{above_found, above_none, none_above}
use Rattle.survivor_words.proofs.words.lambda_tested.Goals as goal

pub overflow_cast-result : goal.overflow_cast-result
overflow_cast-result c =
    let a = c.args in
    omega (arith, (above_found a.h.0 a.lambda.now a.level.0 a.darts c.in-Some.d c.requires (sym c.first_above.ensures ∙ c.in-Some.is)).0)

pub returns-in-Some : goal.returns-in-Some
returns-in-Some c =
    let a = c.args in (above_found a.h.0 a.lambda.now a.level.0 a.darts c.in-Some.d c.requires (sym c.first_above.ensures ∙ c.in-Some.is)).1

pub returns-in_default : goal.returns-in_default
returns-in_default c =
    let a = c.args in above_none a.h.0 a.lambda.now a.level.0 a.darts c.requires (sym c.first_above.ensures ∙ c.in_default.is)

pub returns-else-lt : goal.returns-else-lt
returns-else-lt c =
    let a = c.args in none_above a.h.0 a.lambda.now a.level.0 a.darts c.requires (let low = ge_from_not_lt a.h.0 c.largest.result.0 (sym c.lt.ensures ∙ c.if-lt.false) in omega (arith, c.largest.ensures, low))
