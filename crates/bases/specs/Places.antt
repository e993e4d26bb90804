-- The first place, over rows and then darts, where a number is due. Assumes nothing: these are definitions.
use Rattle.std.specs.Prelude.{Bool, true, false, ℕ, ◌+◌, ◌≤◌, ◌<◌, Option, None, Some}
use Rattle.answers.specs.declared.Dim.{Dim}
use Rattle.bases.specs.declared.Place.{Place}

-- a row by its number
abbrev pub row : ℕ → Dim
row i = record { 0 = i }

-- what is asked of each row and dart
abbrev pub Asked : (Dim → ℕ → Type 0) → ℕ → ℕ → Type 0
Asked may n N = (i d : ℕ) → i ≤ n → d < N → may (row i) d

-- no, of each dart of the rows before row i
abbrev pub NoneBefore : (Dim → ℕ → Bool → Type 0) → ℕ → ℕ → Type 0
NoneBefore says N i = (k : ℕ) → k < i → (e : ℕ) → e < N → says (row k) e false

-- yes at a row and a dart, and no at each place before it
pub record YesFirst (says : Dim → ℕ → Bool → Type 0) (n N : ℕ) (at : Place) : Type 0 where
  pub in_rows : at.row.0 ≤ n
  pub in_darts : at.dart < N
  pub rows : NoneBefore says N at.row.0
  pub darts : (e : ℕ) → e < at.dart → says at.row e false
  pub yes : says at.row at.dart true

-- no everywhere
pub record NeverYes (says : Dim → ℕ → Bool → Type 0) (n N : ℕ) : Type 0 where
  pub rows : NoneBefore says N (n + 1)

-- yes first at a place, or no everywhere
abbrev pub FirstDue : (Dim → ℕ → Bool → Type 0) → ℕ → ℕ → Option Place → Type 0
FirstDue says n N (Some at) = YesFirst says n N at
FirstDue says n N None = NeverYes says n N
