-- The base entries that direct walks read, one after the other. That the code reads each once is read in its loop. Assumes nothing: these are definitions.
use Rattle.std.specs.Prelude.{true, false, cond, ℕ, zero, suc, ◌+◌, ◌*◌, ltb}
use Rattle.maps.specs.Count.{sum}
use Rattle.maps.specs.Map.{Involutions}
use Rattle.maps.specs.Mark.{can_pass, across}
use Rattle.maps.specs.Folded.{gone, survives, refused_marks}

-- the direct walk at level l
module _ (a : Involutions) (n N h : ℕ) (Λ Δ : ℕ → ℕ) (l : ℕ) where
  -- as `walkFrom` walks: row t of dart d is read next, and k entries more may be
  unfoldable pub walk_entries : ℕ → ℕ → ℕ → ℕ
  walk_entries zero t d = 0
  walk_entries (suc k) t d = suc (elim (ltb (a t d) N) [
    | false ↦ 0
    | true ↦ elim (refused_marks n h (Λ (a t d)) (Δ (a t d))) [
      | true ↦ 0
      | false ↦ elim (gone Λ l (a t d)) [
        | false ↦ 0
        | true ↦ elim (can_pass (Δ (a t d)) t) [
          | false ↦ 0
          | true ↦ walk_entries k (across (Δ (a t d)) t) (a t d)
        ]
      ]
    ]
  ])

  -- a whole level: the walks of all survivors by all rows, none of them left out where one is refused
  unfoldable pub level_entries : ℕ
  level_entries = sum (λ i. sum (λ b. cond (survives Λ l b) (walk_entries (1 + 2 * N) i b) 0) N) (suc n)
