-- The struct of a factor meets its law: a factor of 0 is the double 0. Assumes nothing.
use mathlib.Core.Path.{sym, ap, ◌∙◌}
use Prim.Native.Nat.{ℕ}
use lib.Ieee.{Float, of_int, round, of_bits}
use Rattle.maps.specs.Decimation.{double}
use Rattle.decimation.specs.Answers.{factor_of}
use Rattle.interface.specs.Flat.{factor_for}
use Rattle.std.specs.Prelude.{Ok}
use Rattle.interface.specs.declared.ZgRefusal.{ZgRefusal}
use Rattle.interface.specs.declared.ZgFactor.{ZgFactor}
use Rattle.interface.proofs.ZgFactorFromFactor.from.Goals as goal

abbrev of : ℕ → Float → ZgRefusal → ZgFactor
of empty factor w = record { refusal = w; empty = empty; factor = factor }

pub returns-in-Empty : goal.returns-in-Empty
unfolding of_int round of_bits
returns-in-Empty c =
    let e = c.default-in-Empty.ensures in
    ap (of 1 (double 0)) (λ i. record { number = e.0 i; level = e.1.0 i; involution = e.1.1.0 i; dart = e.1.1.1 i })
    ∙ sym (ap (λ x. factor_for (factor_of (Ok x))) c.in-Empty.is)
