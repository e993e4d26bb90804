-- Add a level: the pyramid's check, with the mark row last, as kernel h. Assumes nothing: these are definitions.
use Rattle.std.specs.Prelude.{Bool, true, cond, ◌&&◌, not, List, ℕ, suc, ◌*◌, eqb}
use Rattle.maps.specs.Verdict.{Verdict, refused, when, if_accepted, ◌then◌, scan}
use Rattle.maps.specs.Sizes.{sizes, number4, has_length}
use Rattle.maps.specs.Mark.{is_mark, stay}
use Rattle.maps.specs.Table.{entry, each, listed}
use Rattle.maps.specs.Folded.{marks, addΛ, addΔ, level, level_table, Folded, base, lambda_of, delta_of}
use Rattle.maps.specs.Check.{check_map, check8, check_kernels, check_kernel}
use Rattle.maps.specs.CheckPyramid.{left_behind}

-- Scope: 'Add a level'. A mark row's entry is refused unless it is a mark on a dart of level h, or 255.
abbrev pub refused_mark : ℕ → ℕ → (ℕ → ℕ) → (ℕ → ℕ) → ℕ → Bool
refused_mark n h Λ mark d = not (cond (is_mark n (mark d)) (eqb (Λ d) h) (eqb (mark d) stay))

-- Scope: 'Fields'. Number 8 of a mark row has level h and involution 0.
unfoldable pub at_row8 : ℕ → ℕ → (ℕ → ℕ) → (ℕ → ℕ) → ℕ → Verdict
at_row8 n h Λ mark d = when (refused_mark n h Λ mark d) (refused 8 h 0 d)

-- Scope: 'Numbers of refusal'. 20: a level is added at h = 32.
unfoldable pub number20 : ℕ → Verdict
number20 h = when (eqb h 32) (refused 20 0 0 0)

module _ (f : Folded) (row table : List ℕ) where
  open f use {n, N, h, rows, lambda, delta}

  -- Scope: 'Add a level'. Sizes and lengths, then 20, the base, Λ and Δ, the mark row, the kernels, and the mark row as kernel h.
  unfoldable pub add_lent : Verdict
  add_lent =
      sizes n N h
      then (number4 (has_length rows (suc n * N) && (has_length lambda N && (has_length delta N && (has_length row N && has_length table (suc n * N)))))
      then (number20 h
      then (check_map (base f) n N (λ d. true)
      then (check8 n N h (lambda_of f) (delta_of f)
      then (scan N (at_row8 n h (lambda_of f) (each row))
      then (check_kernels (base f) n N h (lambda_of f) (delta_of f)
      then check_kernel (level (base f) n N (marks h (lambda_of f) (delta_of f)) h) n N (each row) h))))))

  -- Scope: 'Add a level'. Accepted, the height grows by 1; refused, it is the height given.
  unfoldable pub add_height : ℕ
  add_height = if_accepted add_lent (suc h) h

  -- Scope: 'Add a level'. Accepted, Λ with the level added; refused, as found.
  unfoldable pub add_lambda : List ℕ
  add_lambda = if_accepted add_lent (listed (addΛ n h (lambda_of f) (each row)) N) lambda

  -- Scope: 'Add a level'. Accepted, Δ with the level added; refused, as found.
  unfoldable pub add_delta : List ℕ
  add_delta = if_accepted add_lent (listed (addΔ n (delta_of f) (each row)) N) delta

  -- Scope: 'Left behind'. Accepted, the table holds the new top; the rest is as for a check.
  unfoldable pub add_leaves : List ℕ
  add_leaves =
      left_behind (level_table (base f) n N (suc h) (addΛ n h (lambda_of f) (each row)) (addΔ n (delta_of f) (each row)) (suc h))
      (level_table (base f) n N h (lambda_of f) (delta_of f)) table add_lent
