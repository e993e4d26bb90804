-- What converting a record answers, in the definitions' values. Assumes nothing: these are definitions.
use Rattle.std.specs.Prelude.{List, ℕ}
use Rattle.maps.specs.Convert.{convert_lent, convert_length}
use Rattle.writing.specs.Answers.{Outcome}

-- the verdict, and the length of the new record
abbrev pub converted : List ℕ → List ℕ → List ℕ → List ℕ → List ℕ → List ℕ → Outcome
converted old rows lambda delta table new = record { verdict = convert_lent old rows lambda delta table new; bytes = convert_length old rows lambda delta table new }
