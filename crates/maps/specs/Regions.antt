-- Region names of a level, for pyramids without contraction. Assumes nothing: these are definitions.
use Rattle.std.specs.Prelude.{◌≡◌, List, ℕ, ◌+◌, ◌≤◌, ◌<◌, length}
use Rattle.maps.specs.Verdict.{Verdict, accepted, refused, when, ◌then◌, scan}
use Rattle.maps.specs.Sizes.{number11, has_length}
use Rattle.maps.specs.Map.{Involutions}
use Rattle.maps.specs.Mark.{contracts}
use Rattle.maps.specs.Table.{each}
use Rattle.maps.specs.Folded.{Folded, base, lambda_of, delta_of}
use Rattle.maps.specs.CheckPyramid.{check_with, check_with_leaves}

-- Scope: 'Regions'. What a base dart reaches at level l: in the base by a_0 to a_(n−1), and by a_n from darts with Λ < l and Δ = n−1.
pub data Region (a : Involutions) (n : ℕ) (Λ Δ : ℕ → ℕ) (l dart : ℕ) : ℕ → Type 0 where
  itself : Region a n Λ Δ l dart dart
  along : (d i : ℕ) → Region a n Λ Δ l dart d → i < n → Region a n Λ Δ l dart (a i d)
  over : (d : ℕ) → Region a n Λ Δ l dart d → Λ d < l → Δ d + 1 ≡ n → Region a n Λ Δ l dart (a n d)

-- Scope: 'Regions'. The region name of a dart: the lowest dart that it reaches.
pub record RegionName (a : Involutions) (n : ℕ) (Λ Δ : ℕ → ℕ) (l dart name : ℕ) : Type 0 where
  pub reached : Region a n Λ Δ l dart name
  pub lowest : (d : ℕ) → Region a n Λ Δ l dart d → name ≤ d

-- Scope: 'Regions'. The name row of a level: every base dart has its region name.
pub record Named (a : Involutions) (n N : ℕ) (Λ Δ : ℕ → ℕ) (l : ℕ) (names : List ℕ) : Type 0 where
  pub long : length names ≡ N
  pub name : (d : ℕ) → d < N → RegionName a n Λ Δ l d (each names d)

-- Scope: 'Numbers of refusal'. 23: a dart is contracted.
abbrev pub at23 : (ℕ → ℕ) → ℕ → Verdict
at23 Δ d = when (contracts (Δ d)) (refused 23 0 0 d)

module _ (f : Folded) (table : List ℕ) (l : ℕ) (names : List ℕ) where
  open f use {N, h}

  -- Scope: 'Name the regions of a level'. The check's tests, the name row measured with the others; then 11, and 23 over all darts.
  unfoldable pub regions_lent : Verdict
  regions_lent = check_with f table (has_length names N) then (number11 h l 0 0 then scan N (at23 (delta_of f)))

  -- Scope: 'Name the regions of a level'. What is left in the lent table: what the check leaves, also after 11 and 23; as found where the name row has not N entries.
  unfoldable pub regions_table : List ℕ
  regions_table = check_with_leaves f table (has_length names N)

-- Scope: 'Left behind'. Accepted, the name row of level l; refused, the row as found.
abbrev pub RegionsLeave : Folded → ℕ → List ℕ → Verdict → List ℕ → Type 0
RegionsLeave f l names accepted left = Named (base f) f.n f.N (lambda_of f) (delta_of f) l left
RegionsLeave f l names (refused number level involution dart) left = left ≡ names
