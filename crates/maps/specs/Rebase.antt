-- Start again from a higher level: level l becomes the new base, packed to the front of what is lent. Assumes nothing: these are definitions.
use Rattle.std.specs.Prelude.{cond, List, ℕ, suc, ◌*◌, ◌/◌, ◌%◌, eqb, ltb}
use Rattle.maps.specs.Verdict.{Verdict, refused, when, if_accepted, ◌then◌}
use Rattle.maps.specs.Sizes.{number11, has_length}
use Rattle.maps.specs.Mark.{stay}
use Rattle.maps.specs.Table.{listed, absent}
use Rattle.maps.specs.Folded.{Folded, base, lambda_of, delta_of}
use Rattle.maps.specs.CheckPyramid.{check_with, check_with_leaves}
use Rattle.maps.specs.NewBase.{old_number, new_darts, new_height, newΛ, newΔ, new_base}

-- the first m of `size` entries are packed, the entries behind them hold the filler
unfoldable pub packed : (ℕ → ℕ) → ℕ → ℕ → ℕ → List ℕ
packed value m filler size = listed (λ x. cond (ltb x m) (value x) filler) size

module _ (f : Folded) (table : List ℕ) (l : ℕ) (old : List ℕ) where
  open f use {n, N, h, rows, lambda, delta}

  -- Scope: 'Start again from a higher level'. The check's tests, the row of old numbers measured with the others; then 11, then 2 if level l has no dart.
  unfoldable pub rebase_lent : Verdict
  rebase_lent =
      check_with f table (has_length old N)
      then (number11 h l 0 0
      then when (eqb (new_darts N (lambda_of f) l) 0) (refused 2 0 0 0))

  -- Scope: 'Start again from a higher level'. N becomes the survivors' count; refused, as given.
  unfoldable pub rebase_darts : ℕ
  rebase_darts = if_accepted rebase_lent (new_darts N (lambda_of f) l) N

  -- Scope: 'Start again from a higher level'. h is reduced by l; refused, as given.
  unfoldable pub rebase_height : ℕ
  rebase_height = if_accepted rebase_lent (new_height h l) h

  -- Scope: 'Start again from a higher level'. The rows of the new length are packed to the front one after the other, with 65,535 behind them; refused, as found.
  unfoldable pub rebase_rows : List ℕ
  rebase_rows =
      if_accepted rebase_lent
      (packed (λ x. new_base (base f) n N h (lambda_of f) (delta_of f) l (x / new_darts N (lambda_of f) l) (x % new_darts N (lambda_of f) l)) (suc n * new_darts N (lambda_of f) l) absent (suc n * N))
      rows

  -- Scope: 'Start again from a higher level'. Λ of the survivors, reduced by l, with 255 behind; refused, as found.
  unfoldable pub rebase_lambda : List ℕ
  rebase_lambda = if_accepted rebase_lent (packed (newΛ N (lambda_of f) l) (new_darts N (lambda_of f) l) stay N) lambda

  -- Scope: 'Start again from a higher level'. Δ of the survivors, with 255 behind; refused, as found.
  unfoldable pub rebase_delta : List ℕ
  rebase_delta = if_accepted rebase_lent (packed (newΔ N (lambda_of f) (delta_of f) l) (new_darts N (lambda_of f) l) stay N) delta

  -- Scope: 'Start again from a higher level'. The old numbers of the new darts, with 65,535 behind; refused, as found.
  unfoldable pub rebase_old : List ℕ
  rebase_old = if_accepted rebase_lent (packed (old_number N (lambda_of f) l) (new_darts N (lambda_of f) l) absent N) old

  -- Scope: 'Start again from a higher level'. The lent table is left as the check leaves it, also after 11 or 2.
  unfoldable pub rebase_table : List ℕ
  rebase_table = check_with_leaves f table (has_length old N)
