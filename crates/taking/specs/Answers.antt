-- What an answer says, in the definitions' values. Assumes nothing: these are definitions.
use Rattle.std.specs.Prelude.{List, ℕ, Result, Ok, Err}
use Rattle.maps.specs.Verdict.{Verdict, accepted, if_accepted}
use Rattle.maps.specs.Record.{Allowed as AllowedRows, wide, either, record_dimension, record_height, record_darts, record_lent, take_lent}
use Rattle.answers.specs.Numbers.{refusal_of}
use Rattle.taking.specs.declared.Allowed.{Allowed}
use Rattle.taking.specs.declared.Allowed.TheVariants.{Wide, Either}
use Rattle.answers.specs.declared.Refusal.{Refusal}
use Rattle.answers.specs.declared.Sizes.{Sizes}

-- a verdict and n, h and N
pub record Outcome : Type 0 where
  pub verdict : Verdict
  pub dimension : ℕ
  pub height : ℕ
  pub darts : ℕ

-- accepted, the three values; in a refusal they are 0
abbrev pub saying : Verdict → ℕ → ℕ → ℕ → Outcome
saying v n h N = record { verdict = v; dimension = if_accepted v n 0; height = if_accepted v h 0; darts = if_accepted v N 0 }

-- number and values for each answer
abbrev pub taken_of : Result Sizes Refusal → Outcome
taken_of (Ok sizes) = saying accepted sizes.n.0 sizes.h.0 sizes.darts
taken_of (Err r) = saying (refusal_of r) 0 0 0

-- the rows that a reader allows
abbrev pub allowed_of : Allowed → AllowedRows
allowed_of Wide = wide
allowed_of Either = either

-- what unpacking a record answers
abbrev pub unpacked : List ℕ → AllowedRows → List ℕ → List ℕ → List ℕ → List ℕ → Outcome
unpacked bytes allowed rows lambda delta table = saying (record_lent bytes allowed rows lambda delta table) (record_dimension bytes) (record_height bytes) (record_darts bytes)

-- what taking it answers
abbrev pub taken : List ℕ → AllowedRows → List ℕ → List ℕ → List ℕ → List ℕ → Outcome
taken bytes allowed rows lambda delta table = saying (take_lent bytes allowed rows lambda delta table) (record_dimension bytes) (record_height bytes) (record_darts bytes)
