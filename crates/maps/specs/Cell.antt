-- Cells. Assumes nothing: these are definitions.
use Rattle.std.specs.Prelude.{◌≡◌, ℕ, ◌≤◌}
use Rattle.maps.specs.Map.{Involutions}

-- Scope: 'Cells'. The i-cell of a dart: itself, and what a dart of the cell leads to by a row other than i.
pub data Cell (a : Involutions) (n i dart : ℕ) : ℕ → Type 0 where
  itself : Cell a n i dart dart
  onward : (d j : ℕ) → Cell a n i dart d → j ≤ n → (j ≡ i → ⊥) → Cell a n i dart (a j d)
