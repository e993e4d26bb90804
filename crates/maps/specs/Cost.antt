-- What reading a whole level costs. Assumes nothing: these are definitions.
use Rattle.std.specs.Prelude.{cond, ℕ, suc}
use Rattle.maps.specs.Map.{Involutions}
use Rattle.maps.specs.Count.{sum}
use Rattle.maps.specs.Folded.{survives}
use Rattle.maps.specs.Walk.{walk, count_of}

module _ (a : Involutions) (n N h : ℕ) (Λ Δ : ℕ → ℕ) (l : ℕ) where
  -- Scope: 'Cost of a level'. The count of a survivor's walk; no walk begins at any other dart.
  unfoldable pub reads : ℕ → ℕ → ℕ
  reads i b = cond (survives Λ l b) (count_of (walk a n N h Λ Δ l i b)) 0

  -- Scope: 'Cost of a level'. The counts of all walks, by involution, then dart.
  unfoldable pub cost : ℕ
  cost = sum (λ i. sum (λ b. reads i b) N) (suc n)
