-- What a walk is lent where all marks were tested, and what it meets first. Assumes nothing: these are definitions.
use Rattle.std.specs.Prelude.{◌≡◌, false, ℕ, ◌≤◌, ◌<◌}
use Rattle.maps.specs.Folded.{refused_marks, Folded, base, lambda_of, delta_of}
use Rattle.questions.specs.Lent.{Lent}

-- what the walks are lent where 8 has been tested for all darts
pub record Allowed (f : Folded) (l : ℕ) : Type 0 where
  pub lent : Lent f l
  pub allowed : (x : ℕ) → x < f.N → refused_marks f.n f.h (lambda_of f x) (delta_of f x) ≡ false

-- row t of dart d holds dart e, which is not on level l
pub record Meets (f : Folded) (l t d e : ℕ) : Type 0 where
  pub row : t ≤ f.n
  pub start : d < f.N
  pub read : e ≡ base f t d
  pub dart : e < f.N
  pub gone : lambda_of f e < l
