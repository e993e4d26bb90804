-- The checks of a map, of a table that holds a base or an explicit level. Assumes nothing: these are definitions.
use Rattle.std.specs.Prelude.{◌≡◌, Bool, true, cond, List, ℕ, suc, ◌+◌, ◌*◌, ◌≤◌, ◌<◌, length}
use Rattle.maps.specs.Verdict.{Verdict, ◌then◌}
use Rattle.maps.specs.Sizes.{sizes, number4, has_length}
use Rattle.maps.specs.Table.{entry}
use Rattle.maps.specs.Check.{strays, not_twice, not_commuting, check5, check6, check7, check_map}
use Rattle.maps.specs.Explicit.{present}

-- row i of N entries lies in the table, which is no longer than 5 rows of 4,096
pub record Row (N : ℕ) (table : List ℕ) (i : ℕ) : Type 0 where
  pub whole : i * N + N ≤ length table
  pub small : length table ≤ 20480

-- In a base every dart is present; in an explicit level, one whose row 0 holds another number than 65,535.
abbrev pub present_if : Bool → ℕ → List ℕ → ℕ → Bool
present_if explicit N table d = cond explicit (present N table d) true

-- where dart d is present, row i leads from it to a dart
abbrev pub Leads : Bool → ℕ → List ℕ → ℕ → ℕ → Type 0
Leads explicit N table i d = present_if explicit N table d ≡ true → entry N table i d < N

-- rows 0, i and j lie in the table, i and j have to commute, and where dart d is present both lead from it to darts
pub record Crossing (explicit : Bool) (N : ℕ) (table : List ℕ) (i j d : ℕ) : Type 0 where
  pub row_0 : Row N table 0
  pub row_i : Row N table i
  pub row_j : Row N table j
  pub apart : i + 1 < j
  pub dart : d < N
  pub leads : present_if explicit N table d ≡ true → (entry N table i d < N) × (entry N table j d < N)

-- the tests of 5, 6 and 7 at one place; none of them names n
abbrev pub strays_in : Bool → ℕ → List ℕ → ℕ → ℕ → Bool
strays_in explicit N table = strays (entry N table) N (present_if explicit N table)

abbrev pub not_twice_in : Bool → ℕ → List ℕ → ℕ → ℕ → Bool
not_twice_in explicit N table = not_twice (entry N table) (present_if explicit N table)

abbrev pub not_commuting_in : Bool → ℕ → List ℕ → ℕ → ℕ → ℕ → Bool
not_commuting_in explicit N table = not_commuting (entry N table) (present_if explicit N table)

module _ (explicit : Bool) (n N : ℕ) (table : List ℕ) where
  abbrev pub check5_in : Verdict
  check5_in = check5 (entry N table) n N (present_if explicit N table)

  abbrev pub check6_in : Verdict
  check6_in = check6 (entry N table) n N (present_if explicit N table)

  abbrev pub check7_in : Verdict
  check7_in = check7 (entry N table) n N (present_if explicit N table)

  abbrev pub check_map_in : Verdict
  check_map_in = check_map (entry N table) n N (present_if explicit N table)

  -- 1 2 4 5 6 7
  abbrev pub check_in : Verdict
  check_in = sizes n N 0 then (number4 (has_length table (suc n * N)) then check_map_in)
