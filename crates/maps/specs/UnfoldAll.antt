-- Unfold all levels in one call: the explicit levels one behind the other, each with what unfolding it counts. Assumes nothing: these are definitions.
use Rattle.std.specs.Prelude.{true, false, cond, ◌&&◌, ◌||◌, List, [], ◌++◌, ℕ, zero, suc, ◌+◌, ◌*◌, drop, eqb, ltb}
use Rattle.maps.specs.Verdict.{Verdict, accepted, refused, if_accepted, ◌then◌}
use Rattle.maps.specs.Map.{Involutions}
use Rattle.maps.specs.Mark.{between}
use Rattle.maps.specs.Removal.{marked}
use Rattle.maps.specs.Sizes.{sizes, number4, has_length}
use Rattle.maps.specs.Table.{listed}
use Rattle.maps.specs.Folded.{Folded, base, lambda_of, delta_of}
use Rattle.maps.specs.Check.{check_pyramid}
use Rattle.maps.specs.CheckPyramid.{table_at}
use Rattle.maps.specs.Unfold.{unfold_total, unfold_since}

-- Scope: 'Sizes'. How many levels a pyramid may have.
abbrev pub most_levels : ℕ
most_levels = 33

-- Scope: 'Unfold all levels'. The first m explicit levels, one behind the other, level 0 first.
unfoldable pub stacked : Folded → ℕ → List ℕ
stacked f zero = []
stacked f (suc m) = stacked f m ++ table_at f m

-- Scope: 'Unfold all levels'. A number for each level up to h, 0 above, for as many levels as there may be.
unfoldable pub by_level : ℕ → (ℕ → ℕ) → List ℕ
by_level h value = listed (λ l. cond (ltb h l) 0 (value l)) most_levels

-- Scope: 'Unfold all levels'. What unfolding level l counts, and the level since which all its links stand.
abbrev pub total_at : Folded → ℕ → ℕ
total_at f l = unfold_total f l (table_at f l)

abbrev pub latest_at : Folded → ℕ → ℕ
latest_at f l = unfold_since f l (table_at f l)

-- Scope: 'Left behind'. How many blocks hold levels: accepted, all; after 9 or 10 those up to the level whose kernel failed; after any other number none.
unfoldable pub blocks_left : ℕ → Verdict → ℕ
blocks_left h accepted = suc h
blocks_left h (refused number level involution dart) = cond (eqb number 9 || eqb number 10) (suc level) 0

-- links of a level with their counts, and a kernel of it
module _ (a : Involutions) (n : ℕ) (mark : ℕ → ℕ) (count : ℕ → ℕ → ℕ) where
  -- Scope: 'Unfold all levels'. The counts of the links by which a removal goes on from a dart of dimension i, at most so many times: two at each.
  unfoldable pub counts_from : ℕ → ℕ → ℕ → ℕ
  counts_from zero i d = 0
  counts_from (suc times) i d = elim (marked a n mark i d) [
    | true ↦ count (between (mark d)).1 d + (count i (a (between (mark d)).1 d) + counts_from times i (a i (a (between (mark d)).1 d)))
    | false ↦ 0
  ]

  -- Scope: 'Unfold all levels'. The counts of all links that the link of b by row i is made of on the next level.
  unfoldable pub counts_of : ℕ → ℕ → ℕ → ℕ
  counts_of N i b = count i b + counts_from N i (a i b)

module _ (f : Folded) (tables counts since : List ℕ) where
  open f use {n, N, h, rows, lambda, delta}

  -- Scope: 'Unfold all levels'. The check's tests; 4 also where the blocks, the counts or the levels since which have another length.
  unfoldable pub unfold_all_lent : Verdict
  unfold_all_lent =
      sizes n N h
      then (number4 (has_length rows (suc n * N) && (has_length lambda N && (has_length delta N && (has_length tables (suc h * (suc n * N)) && (has_length counts most_levels && has_length since most_levels)))))
      then check_pyramid (base f) n N h (lambda_of f) (delta_of f))

  -- Scope: 'Unfold all levels'. What is left in the blocks: levels in front, and behind them what was found.
  unfoldable pub unfold_all_tables : List ℕ
  unfold_all_tables = stacked f (blocks_left h unfold_all_lent) ++ drop (blocks_left h unfold_all_lent * (suc n * N)) tables

  -- Scope: 'Unfold all levels'. The counts of all levels; refused, as found.
  unfoldable pub unfold_all_counts : List ℕ
  unfold_all_counts = if_accepted unfold_all_lent (by_level h (total_at f)) counts

  -- Scope: 'Unfold all levels'. The levels since which; refused, as found.
  unfoldable pub unfold_all_since : List ℕ
  unfold_all_since = if_accepted unfold_all_lent (by_level h (latest_at f)) since
