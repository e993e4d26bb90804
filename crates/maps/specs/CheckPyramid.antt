-- Check a whole pyramid, with one lent table. Assumes nothing: these are definitions.
use Rattle.std.specs.Prelude.{Bool, cond, ◌&&◌, ◌||◌, List, ℕ, suc, ◌*◌, eqb}
use Rattle.maps.specs.Verdict.{Verdict, accepted, refused, ◌then◌}
use Rattle.maps.specs.Sizes.{sizes, number4, has_length}
use Rattle.maps.specs.Folded.{level_table, Folded, base, lambda_of, delta_of}
use Rattle.maps.specs.Check.{check_pyramid}

-- Scope: 'Left behind'. Accepted, the top; after 9 or 10 the level whose kernel failed; after any other number what was found.
unfoldable pub left_behind : List ℕ → (ℕ → List ℕ) → List ℕ → Verdict → List ℕ
left_behind top levels found accepted = top
left_behind top levels found (refused number level involution dart) = cond (eqb number 9 || eqb number 10) (levels level) found

-- Scope: 'Explicit levels'. The table of level l of what is lent.
abbrev pub table_at : Folded → ℕ → List ℕ
table_at f l = level_table (base f) f.n f.N f.h (lambda_of f) (delta_of f) l

module _ (f : Folded) (table : List ℕ) where
  open f use {n, N, h, rows, lambda, delta}

  -- Scope: 'Check a pyramid'. Sizes and lengths, then base, marks and kernels.
  unfoldable pub check_lent : Verdict
  check_lent =
      sizes n N h
      then (number4 (has_length rows (suc n * N) && (has_length lambda N && (has_length delta N && has_length table (suc n * N))))
      then check_pyramid (base f) n N h (lambda_of f) (delta_of f))

  -- Scope: 'Check a pyramid'. What is left in the lent table; accepted, level h.
  unfoldable pub check_leaves : List ℕ
  check_leaves = left_behind (table_at f h) (table_at f) table check_lent

module _ (f : Folded) (table : List ℕ) (others : Bool) where
  -- Scope: 'What is lent and asked'. The check's tests, with what else is lent measured too. 4 has no fields, so which slice is measured first makes no difference.
  unfoldable pub check_with : Verdict
  check_with = sizes f.n f.N f.h then (number4 others then check_lent f table)

  -- Scope: 'Left behind'. What is left in the lent table: what the check leaves; as found where another slice has not its length.
  unfoldable pub check_with_leaves : List ℕ
  check_with_leaves = cond others (check_leaves f table) table
