-- What an answer says, in the definitions' values. Assumes nothing: these are definitions.
use Rattle.std.specs.Prelude.{◌≡◌, List, ◌++◌, ℕ, length, drop, leb, Result, Ok, Err}
use Rattle.maps.specs.Verdict.{Verdict, accepted, if_accepted}
use Rattle.maps.specs.Sizes.{number4}
use Rattle.maps.specs.Folded.{Folded}
use Rattle.maps.specs.CheckPyramid.{check_lent}
use Rattle.maps.specs.Write.{record_of, write_lent, write_length}
use Rattle.answers.specs.Numbers.{refusal_of}
use Rattle.answers.specs.declared.Refusal.{Refusal}

-- a verdict and a length
pub record Outcome : Type 0 where
  pub verdict : Verdict
  pub bytes : ℕ

-- number and length for each answer
abbrev pub written_of : Result ℕ Refusal → Outcome
written_of (Ok length) = record { verdict = accepted; bytes = length }
written_of (Err r) = record { verdict = refusal_of r; bytes = 0 }

-- what writing a record answers
abbrev pub writing : Folded → List ℕ → List ℕ → Outcome
writing f table bytes = record { verdict = write_lent f table bytes; bytes = write_length f table bytes }

-- a pyramid that the check accepts, with a table that it was lent
abbrev pub Checked : Folded → Type 0
Checked f = (table : List ℕ) × (check_lent f table ≡ accepted)

-- of such a pyramid 4 alone is left to test: the buffer is too short for the record
abbrev pub buffer_lent : Folded → List ℕ → Verdict
buffer_lent f bytes = number4 (leb (length (record_of f)) (length bytes))

-- what is answered then, and what is left in the buffer
abbrev pub putting : Folded → List ℕ → Outcome
putting f bytes = record { verdict = buffer_lent f bytes; bytes = if_accepted (buffer_lent f bytes) (length (record_of f)) 0 }

abbrev pub put_leaves : Folded → List ℕ → List ℕ
put_leaves f bytes = if_accepted (buffer_lent f bytes) (record_of f ++ drop (length (record_of f)) bytes) bytes
