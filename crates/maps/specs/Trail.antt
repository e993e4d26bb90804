-- The darts that a direct walk passes, and since which level its link stands. Assumes nothing: these are definitions.
use Rattle.std.specs.Prelude.{true, false, cond, List, [], ◌∷◌, ℕ, zero, suc, ◌+◌, ◌*◌, max}
use Rattle.maps.specs.Map.{Involutions}
use Rattle.maps.specs.Mark.{across}
use Rattle.maps.specs.Folded.{gone, survives, Folded, base, lambda_of, delta_of}

-- Scope: 'Since which level'. One more than the largest Λ of the darts, or 0 if there is none.
unfoldable pub since_of : (ℕ → ℕ) → List ℕ → ℕ
since_of Λ [] = 0
since_of Λ (d ∷ darts) = max (suc (Λ d)) (since_of Λ darts)

-- Scope: 'Since which level'. The largest of f 0, f 1, .., f (m − 1), or 0 if there is none.
unfoldable pub largest : (ℕ → ℕ) → ℕ → ℕ
largest f zero = 0
largest f (suc m) = max (largest f m) (f m)

-- Direct walks at level l.
module _ (a : Involutions) (N : ℕ) (Λ Δ : ℕ → ℕ) (l : ℕ) where
  -- Scope: 'Direct walk'. The darts passed, in their order, by a walk that reads row t of dart d next and may read k entries.
  unfoldable pub trail_from : ℕ → ℕ → ℕ → List ℕ
  trail_from zero t d = []
  trail_from (suc k) t d = elim (gone Λ l (a t d)) [ true ↦ a t d ∷ trail_from k (across (Δ (a t d)) t) (a t d) | false ↦ [] ]

  -- Scope: 'Direct walk'. The darts that a whole walk passes; it may read 1 + 2N entries.
  unfoldable pub trail : ℕ → ℕ → List ℕ
  trail i b = trail_from (1 + 2 * N) i b

  -- Scope: 'Since which level'. One more than the largest Λ passed, or 0 if no dart was passed.
  unfoldable pub since : ℕ → ℕ → ℕ
  since i b = since_of Λ (trail i b)

  -- Scope: 'Since which level'. The largest over all readings of the level's survivors, 0 for a level with no darts.
  unfoldable pub latest : ℕ → ℕ
  latest n = largest (λ i. largest (λ b. cond (survives Λ l b) (since i b) 0) N) (suc n)

-- Scope: 'Since which level'. Since which level the link of dart d by row i at level l stands, over what is lent.
abbrev pub since_at : Folded → ℕ → ℕ → ℕ → ℕ
since_at f l i d = since (base f) f.N (lambda_of f) (delta_of f) l i d
