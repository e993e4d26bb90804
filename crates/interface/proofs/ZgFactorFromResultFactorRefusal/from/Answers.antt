-- The struct of a decimation's answer meets its law: a factor of 0 is the double 0. Assumes nothing.
use mathlib.Core.Path.{sym, ap, ◌∙◌}
use lib.Ieee.{of_int, round, of_bits}
use Rattle.maps.specs.Decimation.{double}
use Rattle.decimation.specs.Answers.{factor_of}
use Rattle.interface.specs.Flat.{factor_for}
use Rattle.interface.proofs.ZgFactorFromResultFactorRefusal.from.Goals as goal

pub returns-in-Err : goal.returns-in-Err
unfolding of_int round of_bits
returns-in-Err c =
    ap (λ v. factor_for (record { verdict = v; empty = 0; factor = double 0 })) c.from-in-Err.ensures
    ∙ sym (ap (λ x. factor_for (factor_of x)) c.in-Err.is)
