-- The document's values for the answer of the survivor words. Assumes nothing: these are definitions.
use Rattle.std.specs.Prelude.{ℕ, Result, Ok, Err}
use Rattle.answers.specs.declared.Refusal.{Refusal}

-- Counts are 0 in a refusal.
abbrev pub count_of_survivors : Result ℕ Refusal → ℕ
count_of_survivors (Ok count) = count
count_of_survivors (Err r) = 0
