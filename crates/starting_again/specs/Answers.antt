-- What an answer says, in the definitions' values. Assumes nothing: these are definitions.
use Rattle.std.specs.Prelude.{List, ℕ, Result, Ok, Err}
use Rattle.maps.specs.Verdict.{Verdict, accepted}
use Rattle.maps.specs.Rebase.{rebase_lent, rebase_darts, rebase_height}
use Rattle.maps.specs.Folded.{Folded}
use Rattle.answers.specs.Numbers.{refusal_of}
use Rattle.answers.specs.declared.Refusal.{Refusal}
use Rattle.answers.specs.declared.Sizes.{Sizes}

-- a verdict, and the sizes: a dimension, a number of darts and a height
pub record Outcome : Type 0 where
  pub verdict : Verdict
  pub dimension : ℕ
  pub darts : ℕ
  pub height : ℕ

-- the new sizes, or the refusal and the sizes as given
abbrev pub rebased_of : Sizes → Result Sizes Refusal → Outcome
rebased_of sizes (Ok new) = record { verdict = accepted; dimension = new.n.0; darts = new.darts; height = new.h.0 }
rebased_of sizes (Err r) = record { verdict = refusal_of r; dimension = sizes.n.0; darts = sizes.darts; height = sizes.h.0 }

-- what starting again answers
abbrev pub rebasing : Folded → List ℕ → ℕ → List ℕ → Outcome
rebasing f table l old = record { verdict = rebase_lent f table l old; dimension = f.n; darts = rebase_darts f table l old; height = rebase_height f table l old }
