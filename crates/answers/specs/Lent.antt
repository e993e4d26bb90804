-- The tests that a job begins with. Assumes nothing: these are definitions.
use Rattle.std.specs.Prelude.{Bool, ℕ}
use Rattle.maps.specs.Verdict.{Verdict, ◌then◌}
use Rattle.maps.specs.Sizes.{sizes, number4, number11}

-- 1 2 3 4, where `fit` says that every slice lent has the exact length
abbrev pub lent_of : ℕ → ℕ → ℕ → Bool → Verdict
lent_of n N h fit = sizes n N h then number4 fit

-- 1 2 3 4 11, which repeats what was asked
abbrev pub asked_of : ℕ → ℕ → ℕ → Bool → ℕ → ℕ → ℕ → Verdict
asked_of n N h fit l i d = lent_of n N h fit then number11 h l i d
