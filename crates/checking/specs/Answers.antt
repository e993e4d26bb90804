-- The document's values for the answer of an add or a join. Assumes nothing: these are definitions.
use Rattle.std.specs.Prelude.{ℕ, Result, Ok, Err}
use Rattle.answers.specs.declared.Level.{Level}
use Rattle.answers.specs.declared.Refusal.{Refusal}

-- the height afterwards, h where refused
abbrev pub height_of : ℕ → Result Level Refusal → ℕ
height_of h (Ok new) = new.0
height_of h (Err r) = h
