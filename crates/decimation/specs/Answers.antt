-- What an answer says, in the definitions' values. Assumes nothing: these are definitions.
use Rattle.std.specs.Prelude.{cond, List, ℕ, eqb, Float, Result, Ok, Err}
use Rattle.maps.specs.Verdict.{Verdict, accepted}
use Rattle.maps.specs.Decimation.{double, quotient, decimation_lent, decimation_empty, decimation_factor}
use Rattle.maps.specs.Folded.{Folded}
use Rattle.answers.specs.Numbers.{refusal_of}
use Rattle.answers.specs.declared.Refusal.{Refusal}
use Rattle.decimation.specs.declared.Factor.{Factor}
use Rattle.decimation.specs.declared.Factor.TheVariants.{By, Empty}

-- a verdict, whether the next level has no dart, and a factor
pub record Outcome : Type 0 where
  pub verdict : Verdict
  pub empty : ℕ
  pub factor : Float

-- number, emptiness and factor for each answer
abbrev pub factor_of : Result Factor Refusal → Outcome
factor_of (Ok (By factor)) = record { verdict = accepted; empty = 0; factor = factor }
factor_of (Ok Empty) = record { verdict = accepted; empty = 1; factor = double 0 }
factor_of (Err r) = record { verdict = refusal_of r; empty = 0; factor = double 0 }

-- the factor between two counts, or that the second is 0
abbrev pub factor_between : ℕ → ℕ → Factor
factor_between count next = cond (eqb next 0) Empty (By (quotient count next))

-- what is answered of a level
abbrev pub decimating : Folded → List ℕ → ℕ → Outcome
decimating f table l = record { verdict = decimation_lent f table l; empty = decimation_empty f table l; factor = decimation_factor f table l }
