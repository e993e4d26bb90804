-- The parts of a cell, and connected pieces. Assumes nothing: these are definitions.
use Rattle.std.specs.Prelude.{◌⊎◌, Bool, true, ◌&&◌, not, ℕ, ◌+◌, eqb}
use Rattle.maps.specs.Map.{Involutions}
use Rattle.maps.specs.Cell.{Cell}
use Rattle.maps.specs.Orbit.{Orbit}

-- Scope: 'Parts and pieces'. The rows that are left when a_δ and a_(δ+1) are both left out.
abbrev pub besides : ℕ → ℕ → Bool
besides δ j = not (eqb j δ) && not (eqb j (δ + 1))

-- Scope: 'Parts and pieces'. The part of a dart: all of its δ-cell that it reaches when a_δ and a_(δ+1) are both left out.
abbrev pub Part : Involutions → ℕ → ℕ → ℕ → ℕ → Type 0
Part a n δ = Orbit a n (λ j d. besides δ j)

-- Scope: 'Parts and pieces'. A δ-cell falls into exactly two parts: those of two of its darts, which are not the same, and of no other dart.
pub record TwoParts (a : Involutions) (n δ dart : ℕ) : Type 0 where
  pub one : ℕ
  pub other : ℕ
  pub one_in : Cell a n δ dart one
  pub other_in : Cell a n δ dart other
  pub apart : Part a n δ one other → ⊥
  pub all : (d : ℕ) → Cell a n δ dart d → Part a n δ one d ⊎ Part a n δ other d

-- Scope: 'Parts and pieces'. The connected piece of a dart: all it reaches by all involutions.
abbrev pub Piece : Involutions → ℕ → ℕ → ℕ → Type 0
Piece a n = Orbit a n (λ j d. true)
