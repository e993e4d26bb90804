-- What is counted of one level, and of all. Assumes nothing: these are definitions.
use Rattle.std.specs.Prelude.{◌≡◌, ◌⊎◌, Bool, true, List, [], ℕ, ◌≤◌, ◌<◌, length, get_or, replicate, ℤ}
use Rattle.maps.specs.Count.{count}
use Rattle.maps.specs.Map.{Involutions}
use Rattle.maps.specs.Cell.{Cell}
use Rattle.maps.specs.Table.{entry, each}
use Rattle.maps.specs.Explicit.{present}
use Rattle.maps.specs.Folded.{survives, marks, level, Folded, base, lambda_of, delta_of}
use Rattle.maps.specs.Census.{Lowest, CellCount, alternating, count_at, sum_at}
use Rattle.orbits.specs.Orbits.{Closed}
use Rattle.orbits.specs.Explicit.{but}

-- the five counts of an explicit level, 0 above dimension n
pub record LevelCounted (n N : ℕ) (table row : List ℕ) : Type 0 where
  pub long : length row ≡ 5
  pub cells : (i : ℕ) → i ≤ n → CellCount (entry N table) n N (present N table) i (each row i)
  pub unused : (i : ℕ) → n < i → i < 5 → each row i ≡ 0

-- a dart that stands among the first k of a list, and to which another row than a_i led
abbrev pub Listed : List ℕ → List ℕ → ℕ → ℕ → ℕ → Type 0
Listed starts by i k d = (p : ℕ) × (p < k) × (get_or starts p 0 ≡ d) × (get_or by p 0 ≡ i → ⊥)

-- the i-cells that have one of some darts: the set of their darts, and how many they are, each counted by its lowest dart
pub record Met (a : Involutions) (n N i : ℕ) (start : ℕ → Type 0) (within : ℕ → Bool) (number : ℕ) : Type 0 where
  pub closed : Closed a n (λ j d. but i j) within
  pub has_starts : (d : ℕ) → start d → within d ≡ true
  pub source : (e : ℕ) → within e ≡ true → (b : ℕ) × start b × Cell a n i b e
  pub counted : ℕ → Bool
  pub inside : (d : ℕ) → counted d ≡ true → within d ≡ true
  pub only : (d : ℕ) → counted d ≡ true → Lowest a n i d
  pub every : (d : ℕ) → within d ≡ true → Lowest a n i d → counted d ≡ true
  pub is : number ≡ count counted N

-- no count at all
unfoldable pub zeroed : List (List ℕ)
zeroed = replicate 33 (replicate 5 0)

module _ (f : Folded) where
  open f use {n, N, h}

  -- the counts of the levels below k, in 33 rows of five; all other places are 0
  pub record Counted (counts : List (List ℕ)) (k : ℕ) : Type 0 where
    pub rows_long : length counts ≡ 33
    pub row_long : (l : ℕ) → l < 33 → length (get_or counts l []) ≡ 5
    pub cells : (l i : ℕ) → l < k → i ≤ n → CellCount (level (base f) n N (marks h (lambda_of f) (delta_of f)) l) n N (survives (lambda_of f) l) i (count_at counts l i)
    pub unused : (l i : ℕ) → l < 33 → i < 5 → (k ≤ l) ⊎ (n < i) → count_at counts l i ≡ 0

-- 33 rows of five counts, none above 4,096
pub record Few (counts : List (List ℕ)) : Type 0 where
  pub rows_long : length counts ≡ 33
  pub row_long : (l : ℕ) → l < 33 → length (get_or counts l []) ≡ 5
  pub few : (l i : ℕ) → l < 33 → i < 5 → count_at counts l i ≤ 4096

-- the alternating sum of each row
pub record Summed (counts : List (List ℕ)) (sums : List ℤ) : Type 0 where
  pub long : length sums ≡ 33
  pub sum : (l : ℕ) → l < 33 → sum_at sums l ≡ alternating (count_at counts l) 5
