-- `bases::map_refused` meets its contract. Assumes nothing.
use mathlib.Core.Path.{refl, sym}
use Rattle.maps.specs.Check.{check_map}
use Rattle.answers.proofs.Refusals.{told, passed_on, refused_then, refused_second}
use Rattle.bases.proofs.map_refused.Goals as goal

pub returns-in_err-number5 : goal.returns-in_err-number5
unfolding check_map
returns-in_err-number5 c = rw (passed_on c.from_residual.result c.from_residual.ensures.1) (refused_then _ _ _ (told c.number5.ensures c.in_err-number5.was))

pub number6-requires : goal.number6-requires
number6-requires c = (c.requires.0, sym (told c.number5.ensures c.in_ok-number5.was))

pub number7-requires : goal.number7-requires
number7-requires c = (c.requires.0, sym (told c.number5.ensures c.in_ok-number5.was))

pub returns-in_err-number6 : goal.returns-in_err-number6
unfolding check_map
returns-in_err-number6 c =
    rw (passed_on c.from_residual-in_err-number6.result c.from_residual-in_err-number6.ensures.1)
    (refused_second _ _ _ refl _ (told c.number5.ensures c.in_ok-number5.was) (refused_then _ _ _ (told c.number6.ensures c.in_err-number6.was)))

pub returns : goal.returns
unfolding check_map
returns c = rw (← (told c.number5.ensures c.in_ok-number5.was), ← (told c.number6.ensures c.in_ok-number6.was)) c.number7.ensures
