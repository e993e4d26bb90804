-- Two kernels that are taken as one. Assumes nothing: these are definitions.
use Rattle.std.specs.Prelude.{cond, ℕ}
use Rattle.maps.specs.Mark.{is_mark}

-- Scope: 'Splitting a kernel'. The mark row of two kernels together: the first one's mark where it has one, else the second's.
abbrev pub together : ℕ → (ℕ → ℕ) → (ℕ → ℕ) → ℕ → ℕ
together n mark₁ mark₂ d = cond (is_mark n (mark₁ d)) (mark₁ d) (mark₂ d)
