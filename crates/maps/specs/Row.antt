-- A row handed back: a part of the base rows or of an unfolded level, and no copy. Assumes nothing: these are definitions.
use Rattle.std.specs.Prelude.{cond, ◌&&◌, List, [], ℕ, suc, ◌*◌, take, drop, eqb}
use Rattle.maps.specs.Verdict.{Verdict, if_accepted, ◌then◌}
use Rattle.maps.specs.Sizes.{sizes, number4, number11, number13, has_length}

module _ (n N h : ℕ) (base unfolded : List ℕ) (l i : ℕ) where
  -- Scope: 'Row'. Sizes and lengths, then 11 and 13.
  unfoldable pub row_lent : Verdict
  row_lent = sizes n N h then (number4 (has_length base (suc n * N) && has_length unfolded (suc n * N)) then (number11 h l i 0 then number13 n l i 0))

  -- Scope: 'Row'. Row i of the base for level 0, of the unfolded table for any other; refused, an empty part.
  unfoldable pub row_part : List ℕ
  row_part = if_accepted row_lent (take N (drop (i * N) (cond (eqb l 0) base unfolded))) []
