-- Maps: involutions on darts, and when they are valid. Assumes nothing: these are definitions.
use Rattle.std.specs.Prelude.{◌≡◌, ℕ, ◌+◌, ◌≤◌}

-- Scope: 'Sizes'. Rows a_0 to a_n: a i d is where dart d leads by a_i.
abbrev pub Involutions : Type 0
Involutions = ℕ → ℕ → ℕ

-- Scope: 'Valid maps'. Each row leads back, rows two apart commute. It speaks of the darts present, and no row leads out of them, so
-- that it serves the base and every level.
pub record Valid (a : Involutions) (n : ℕ) (present : ℕ → Type 0) : Type 0 where
  pub inside : (i d : ℕ) → i ≤ n → present d → present (a i d)
  pub twice : (i d : ℕ) → i ≤ n → present d → a i (a i d) ≡ d
  pub commute : (i j d : ℕ) → i + 2 ≤ j → j ≤ n → present d → a j (a i d) ≡ a i (a j d)
