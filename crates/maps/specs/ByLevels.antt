-- Reading by levels: a walk over level l−1, whose every step is again a reading one level lower, down to the base. Assumes nothing: these are definitions.
use Rattle.std.specs.Prelude.{true, false, ◌&&◌, ℕ, zero, suc, ◌+◌, ◌*◌, eqb, ltb}
use Rattle.maps.specs.Map.{Involutions}
use Rattle.maps.specs.Mark.{between}
use Rattle.maps.specs.Folded.{gone, refused_marks}
use Rattle.maps.specs.Walk.{Walked, ended, stopped}

-- The question is involution i of dart b; c base entries are read already.
module _ (a : Involutions) (n N h : ℕ) (Λ Δ : ℕ → ℕ) (i b : ℕ) where
  -- Scope: 'Reading by levels'. Level 0 is a base entry: 15 before it is read, then 5 of the entry and 8 of the dart met.
  unfoldable pub read_base : ℕ → ℕ → ℕ → Walked
  read_base t d c = elim (ltb c (1 + 2 * N)) [
    | false ↦ stopped 15 i b
    | true ↦ elim (ltb (a t d) N) [
      | false ↦ stopped 5 t d
      | true ↦ elim (refused_marks n h (Λ (a t d)) (Δ (a t d))) [
        | true ↦ stopped 8 t (a t d)
        | false ↦ ended t (a t d) (suc c)
      ]
    ]
  ]

  -- Scope: 'Reading by levels'. The walk over level l, which `below` reads, for row t of dart d on level l+1. A dart met that is not on
  -- level l+1 must be in kernel l with the row's dimension, and the dart reached from it by its mark's second row must bear the same mark there, or
  -- it is 14.
  unfoldable pub over_level : (ℕ → ℕ → ℕ → Walked) → ℕ → ℕ → ℕ → ℕ → ℕ → Walked
  over_level below l zero t d c = stopped 15 i b
  over_level below l (suc times) t d c = elim (below t d c) [
    | stopped number row dart ↦ stopped number row dart
    | ended u e c₁ ↦ elim (gone Λ (suc l) e) [
      | false ↦ ended u e c₁
      | true ↦ elim (eqb (Λ e) l && eqb (between (Δ e)).0 t) [
        | false ↦ stopped 14 u e
        | true ↦ elim (below (between (Δ e)).1 e c₁) [
          | stopped number row dart ↦ stopped number row dart
          | ended u₂ e₂ c₂ ↦ elim (eqb (Λ e₂) l && eqb (Δ e₂) (Δ e)) [
            | false ↦ stopped 14 u₂ e₂
            | true ↦ over_level below l times t e₂ c₂
          ]
        ]
      ]
    ]
  ]

  -- Scope: 'Reading by levels'. Row t of dart d on level l: each step is a reading one level lower. A walk goes on no more often than it reads.
  unfoldable pub read_level : ℕ → ℕ → ℕ → ℕ → Walked
  read_level zero t d c = read_base t d c
  read_level (suc l) t d c = over_level (read_level l) l (1 + 2 * N) t d c

  -- Scope: 'Reading by levels'. The whole question, with one count from 0.
  unfoldable pub by_levels : ℕ → Walked
  by_levels l = read_level l i b 0
