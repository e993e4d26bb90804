-- How fast a pyramid shrinks: the factor from a level to the next. Assumes nothing: these are definitions.
use Rattle.std.specs.Prelude.{cond, List, ℕ, suc, eqb, leb, pos, Float}
use Rattle.std.specs.Float.{binary64}
use Rattle.std.specs.Float.Ieee.{div, of_int}
use Rattle.maps.specs.Verdict.{Verdict, refused, when, if_accepted, ◌then◌}
use Rattle.maps.specs.Count.{one}
use Rattle.maps.specs.Folded.{survivors, Folded, lambda_of}
use Rattle.maps.specs.CheckPyramid.{check_lent, check_leaves}

-- Scope: 'Decimation'. A count in double precision.
abbrev pub double : ℕ → Float
double count = of_int binary64 (pos count)

-- Scope: 'Decimation'. One division, in double precision, of two counts that are converted.
abbrev pub quotient : ℕ → ℕ → Float
quotient count next = div binary64 (double count) (double next)

module _ (f : Folded) (table : List ℕ) (l : ℕ) where
  open f use {n, N, h, rows, lambda, delta}

  -- Scope: 'Decimation'. The check's tests, then 11: the level asked is h or more.
  unfoldable pub decimation_lent : Verdict
  decimation_lent = check_lent f table then when (leb h l) (refused 11 l 0 0)

  -- Scope: 'Decimation'. 1 where the next level has no dart; refused, 0.
  unfoldable pub decimation_empty : ℕ
  decimation_empty = if_accepted decimation_lent (one (eqb (survivors N (lambda_of f) (suc l)) 0)) 0

  -- Scope: 'Decimation'. The level's survivors by those of the next; where that has no dart and refused, 0.
  unfoldable pub decimation_factor : Float
  decimation_factor = if_accepted decimation_lent (cond (eqb (survivors N (lambda_of f) (suc l)) 0) (double 0) (quotient (survivors N (lambda_of f) l) (survivors N (lambda_of f) (suc l)))) (double 0)

  -- Scope: 'Decimation'. What is left in the lent table: what the check leaves, also after 11.
  unfoldable pub decimation_table : List ℕ
  decimation_table = check_leaves f table
