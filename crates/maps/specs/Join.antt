-- Kernels l and l+1 of a pyramid joined. Assumes nothing: these are definitions.
use Rattle.std.specs.Prelude.{cond, List, ℕ, suc, ◌-◌, leb, ltb}
use Rattle.maps.specs.Verdict.{Verdict, refused, when, if_accepted, ◌then◌}
use Rattle.maps.specs.Table.{listed}
use Rattle.maps.specs.Folded.{marks, level, Folded, base, lambda_of, delta_of}
use Rattle.maps.specs.Check.{check_kernel}
use Rattle.maps.specs.CheckPyramid.{left_behind, check_lent, table_at, check_leaves}

-- Scope: 'Join kernels'. Kernels l and l+1 joined: Λ above l falls by 1.
abbrev pub joinΛ : ℕ → (ℕ → ℕ) → ℕ → ℕ
joinΛ l Λ d = cond (ltb l (Λ d)) (Λ d - 1) (Λ d)

-- Scope: 'Join kernels'. The joined kernel: the mark row of level l once h and Λ have fallen.
abbrev pub joined_row : Folded → ℕ → ℕ → ℕ
joined_row f l = marks (f.h - 1) (joinΛ l (lambda_of f)) (delta_of f) l

module _ (f : Folded) (table : List ℕ) (l : ℕ) where
  open f use {n, N, h, rows, lambda, delta}

  -- Scope: 'Join kernels'. The check's tests, then 11: l+1 is not below h; then 9 and 10 of the joined kernel on level l.
  unfoldable pub join_lent : Verdict
  join_lent =
      check_lent f table
      then (when (leb h (suc l)) (refused 11 l 0 0)
      then check_kernel (level (base f) n N (marks h (lambda_of f) (delta_of f)) l) n N (joined_row f l) l)

  -- Scope: 'Join kernels'. Accepted, the height falls by 1; refused, it is the height given.
  unfoldable pub join_height : ℕ
  join_height = if_accepted join_lent (h - 1) h

  -- Scope: 'Join kernels'. Accepted, Λ with the kernels joined; refused, as found.
  unfoldable pub join_lambda : List ℕ
  join_lambda = if_accepted join_lent (listed (joinΛ l (lambda_of f)) N) lambda

  -- Scope: 'Left behind'. Accepted, the table holds the top level; after 9 or 10 the level whose kernel failed; after any other number what the check leaves.
  unfoldable pub join_leaves : List ℕ
  join_leaves = left_behind (table_at f h) (table_at f) (check_leaves f table) join_lent
