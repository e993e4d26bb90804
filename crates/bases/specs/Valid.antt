-- What the pass over a map says by a yes: of a row, of a dart, of all. Assumes nothing: these are definitions.
use Rattle.std.specs.Prelude.{◌≡◌, Bool, true, false, List, ℕ, ◌≤◌, ◌<◌}
use Rattle.maps.specs.Table.{entry, absent}
use Rattle.maps.specs.Explicit.{present}
use Rattle.answers.specs.Rows.{Rows}
use Rattle.bases.specs.InTable.{present_if, not_twice_in, not_commuting_in}

-- rows 0 to n of a table of the exact length lead from dart d to darts
pub record Led (n N : ℕ) (table : List ℕ) (d : ℕ) : Type 0 where
  pub rows : Rows n N table
  pub dart : d < N
  pub leads : (i : ℕ) → i ≤ n → entry N table i d < N

-- at row i of dart d, which is present, neither 6 nor 7 is due
pub record ValidAt (n N : ℕ) (table : List ℕ) (i d : ℕ) : Type 0 where
  pub twice : not_twice_in false N table i d ≡ false
  pub commuting : (j : ℕ) → j ≤ n → not_commuting_in false N table i j d ≡ false

-- where dart d is present, row i leads from it to a dart; where it is absent, its entry is 65,535
pub record Kept (N : ℕ) (table : List ℕ) (i d : ℕ) : Type 0 where
  pub leads : present N table d ≡ true → entry N table i d < N
  pub empty : present N table d ≡ false → entry N table i d ≡ absent

-- rows 0 to n lead from each dart present to darts
abbrev pub AllLed : Bool → ℕ → ℕ → List ℕ → Type 0
AllLed explicit n N table = (d : ℕ) → d < N → present_if explicit N table d ≡ true → (i : ℕ) → i ≤ n → entry N table i d < N

-- at no row of a dart present 6 or 7 is due
abbrev pub AllValid : Bool → ℕ → ℕ → List ℕ → Type 0
AllValid explicit n N table = (d : ℕ) → d < N → present_if explicit N table d ≡ true → (i : ℕ) → i ≤ n → ValidAt n N table i d

-- each entry of an explicit level is a dart or 65,535, as its dart is present or absent
abbrev pub AllKept : ℕ → ℕ → List ℕ → Type 0
AllKept n N table = (i : ℕ) → i ≤ n → (d : ℕ) → d < N → Kept N table i d
