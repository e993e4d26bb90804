-- Counts and sums as they are put into slices. Assumes nothing: these are definitions.
use Rattle.std.specs.Prelude.{◌≡◌, List, ℕ, ◌*◌, ◌<◌, length, get_or}
use Rattle.maps.specs.Table.{each}
use Rattle.maps.specs.Census.{count_at, count_in}

-- row l stands in its five places, and the places before them are as they were
pub record RowPut (row : List ℕ) (l : ℕ) (old new : List ℕ) : Type 0 where
  pub long : length new ≡ length old
  pub before : (x : ℕ) → x < 5 * l → get_or new x 0 ≡ get_or old x 0
  pub row_put : (i : ℕ) → i < 5 → count_in new l i ≡ each row i

-- the slice has all counts
pub record CellsPut (counts : List (List ℕ)) (cells : List ℕ) : Type 0 where
  pub long : length cells ≡ 165
  pub put : (l i : ℕ) → l < 33 → i < 5 → count_in cells l i ≡ count_at counts l i
