-- The direct walk over base and marks, with its count and every refusal that it can end in. Assumes nothing: these are definitions.
use Rattle.std.specs.Prelude.{true, false, ℕ, zero, suc, ◌+◌, ◌*◌, ltb}
use Rattle.maps.specs.Map.{Involutions}
use Rattle.maps.specs.Mark.{can_pass, across}
use Rattle.maps.specs.Folded.{gone, refused_marks, Folded, base, lambda_of, delta_of}

-- Scope: 'Direct walk'. How a walk ends: by the row read last, at a dart, with the number of base entries read; or refused, with number, row and dart.
pub data Walked : Type 0 where
  ended : (row dart count : ℕ) → Walked
  stopped : (number row dart : ℕ) → Walked

-- Scope: 'Left behind'. A walk's count, 0 in a refusal.
abbrev pub count_of : Walked → ℕ
count_of (ended row dart count) = count
count_of (stopped number row dart) = 0

-- Direct walk of dart b at level l by involution i.
module _ (a : Involutions) (n N h : ℕ) (Λ Δ : ℕ → ℕ) (l i b : ℕ) where
  -- Scope: 'Direct walk'. Row t of dart d is read next; c entries are read, k more may be. At each read come 15, 5, then 8 and 14 of the dart
  -- met. While the dart met has Λ < l, it is passed as its mark lets the walk do.
  unfoldable pub walk_from : ℕ → ℕ → ℕ → ℕ → Walked
  walk_from zero t d c = stopped 15 i b
  walk_from (suc k) t d c = elim (ltb (a t d) N) [
    | false ↦ stopped 5 t d
    | true ↦ elim (refused_marks n h (Λ (a t d)) (Δ (a t d))) [
      | true ↦ stopped 8 t (a t d)
      | false ↦ elim (gone Λ l (a t d)) [
        | false ↦ ended t (a t d) (suc c)
        | true ↦ elim (can_pass (Δ (a t d)) t) [
          | false ↦ stopped 14 t (a t d)
          | true ↦ walk_from k (across (Δ (a t d)) t) (a t d) (suc c)
        ]
      ]
    ]
  ]

  -- Scope: 'Direct walk'. The walk begins with row i of dart b, and may read 1 + 2N entries.
  unfoldable pub walk : Walked
  walk = walk_from (1 + 2 * N) i b 0

-- Scope: 'Direct walk'. The walk of dart d by row i at level l, over what is lent.
abbrev pub walk_at : Folded → ℕ → ℕ → ℕ → Walked
walk_at f l i d = walk (base f) f.n f.N f.h (lambda_of f) (delta_of f) l i d
