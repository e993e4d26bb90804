-- A census: the cells of each dimension of each level, and their alternating sum. Assumes nothing: these are definitions.
use Rattle.std.specs.Prelude.{◌≡◌, ◌⊎◌, Bool, true, cond, ◌&&◌, List, [], ℕ, zero, suc, ◌+◌, ◌*◌, ◌%◌, ◌≤◌, ◌<◌, length, get_or, eqb, ℤ, pos, ◌+ℤ◌, ◌-ℤ◌}
use Rattle.maps.specs.Verdict.{Verdict, accepted, refused}
use Rattle.maps.specs.Count.{count}
use Rattle.maps.specs.Sizes.{has_length}
use Rattle.maps.specs.Map.{Involutions}
use Rattle.maps.specs.Cell.{Cell}
use Rattle.maps.specs.Folded.{survives, marks, level, Folded, base, lambda_of, delta_of}
use Rattle.maps.specs.CheckPyramid.{check_with, check_with_leaves}

-- Scope: 'Census'. A dart is the lowest of its i-cell.
abbrev pub Lowest : Involutions → ℕ → ℕ → ℕ → Type 0
Lowest a n i dart = (d : ℕ) → Cell a n i dart d → dart ≤ d

-- Scope: 'Census'. A cell is counted by its lowest dart: the number of i-cells of a map is the number of darts present that are the lowest of their i-cell.
pub record CellCount (a : Involutions) (n N : ℕ) (present : ℕ → Bool) (i number : ℕ) : Type 0 where
  pub counted : ℕ → Bool
  pub only : (d : ℕ) → d < N → counted d ≡ true → (present d ≡ true) × Lowest a n i d
  pub every : (d : ℕ) → d < N → present d ≡ true → Lowest a n i d → counted d ≡ true
  pub is : number ≡ count counted N

-- is a dimension counted with plus
abbrev pub even : ℕ → Bool
even i = eqb (i % 2) 0

-- Scope: 'Census'. The alternating sum of the first m counts, 0-cells minus 1-cells plus 2-cells and so on, which may be below zero.
unfoldable pub alternating : (ℕ → ℕ) → ℕ → ℤ
alternating counts zero = pos 0
alternating counts (suc m) = cond (even m) (alternating counts m +ℤ pos (counts m)) (alternating counts m -ℤ pos (counts m))

-- Scope: 'Census'. 33 rows of five counts, by level and dimension, and a sum for each level; unused places are 0.
pub record Census (a : Involutions) (n N h : ℕ) (Λ Δ : ℕ → ℕ) (counts : ℕ → ℕ → ℕ) (sums : ℕ → ℤ) : Type 0 where
  pub cells : (l i : ℕ) → l ≤ h → i ≤ n → CellCount (level a n N (marks h Λ Δ) l) n N (survives Λ l) i (counts l i)
  pub unused : (l i : ℕ) → l < 33 → i < 5 → (h < l) ⊎ (n < i) → counts l i ≡ 0
  pub sum : (l : ℕ) → l ≤ h → sums l ≡ alternating (counts l) (suc n)
  pub unused_sum : (l : ℕ) → l < 33 → h < l → sums l ≡ pos 0

-- the count of level l and dimension i in an array of 33 rows
abbrev pub count_at : List (List ℕ) → ℕ → ℕ → ℕ
count_at cells l i = get_or (get_or cells l []) i 0

-- the same in a slice, where row l stands at 5l
abbrev pub count_in : List ℕ → ℕ → ℕ → ℕ
count_in cells l i = get_or cells (5 * l + i) 0

-- the sum of level l
abbrev pub sum_at : List ℤ → ℕ → ℤ
sum_at sums l = get_or sums l (pos 0)

-- Scope: 'Census'. A slice of counts has 165 entries, one of sums 33.
abbrev pub census_fits : List ℕ → List ℤ → Bool
census_fits cells sums = has_length cells 165 && eqb (length sums) 33

module _ (f : Folded) where
  open f use {n, N, h}

  -- Scope: 'Census'. The census of what is lent.
  abbrev pub CensusOf : (ℕ → ℕ → ℕ) → (ℕ → ℤ) → Type 0
  CensusOf = Census (base f) n N h (lambda_of f) (delta_of f)

  -- Scope: 'Census'. The census in 33 rows of five counts and 33 sums.
  pub record CensusTaken (cells : List (List ℕ)) (sums : List ℤ) : Type 0 where
    pub rows_long : length cells ≡ 33
    pub row_long : (l : ℕ) → l < 33 → length (get_or cells l []) ≡ 5
    pub sums_long : length sums ≡ 33
    pub census : CensusOf (count_at cells) (sum_at sums)

  -- Scope: 'Left behind'. Accepted, the census; refused, counts and sums are as found.
  abbrev pub CensusLeaves : Verdict → List (List ℕ) → List ℤ → List (List ℕ) → List ℤ → Type 0
  CensusLeaves accepted found found-sums cells sums = CensusTaken cells sums
  CensusLeaves (refused number level involution dart) found found-sums cells sums = (cells ≡ found) × (sums ≡ found-sums)

  -- Scope: 'Census'. The same in a slice of 165 counts and one of 33 sums.
  pub record CensusPut (cells : List ℕ) (sums : List ℤ) : Type 0 where
    pub cells_long : length cells ≡ 165
    pub sums_long : length sums ≡ 33
    pub census : CensusOf (count_in cells) (sum_at sums)

  -- Scope: 'Left behind'. The same of the slices.
  abbrev pub CensusPutLeaves : Verdict → List ℕ → List ℤ → List ℕ → List ℤ → Type 0
  CensusPutLeaves accepted found found-sums cells sums = CensusPut cells sums
  CensusPutLeaves (refused number level involution dart) found found-sums cells sums = (cells ≡ found) × (sums ≡ found-sums)

  module _ (table cells : List ℕ) (sums : List ℤ) where
    -- Scope: 'Census'. The check's tests; 4 also where the slice of counts has not 165 entries, or that of sums not 33.
    unfoldable pub census_lent : Verdict
    census_lent = check_with f table (census_fits cells sums)

    -- Scope: 'Left behind'. What is left in the lent table, as by a check.
    unfoldable pub census_table : List ℕ
    census_table = check_with_leaves f table (census_fits cells sums)
