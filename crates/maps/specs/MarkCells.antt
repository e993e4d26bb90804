-- Mark cells of one dimension δ on an explicit level. Assumes nothing: these are definitions.
use Rattle.std.specs.Prelude.{◌≡◌, ◌⊎◌, true, ◌&&◌, not, List, ℕ, suc, ◌*◌, ◌≤◌, ◌<◌, length, ltb}
use Rattle.maps.specs.Verdict.{Verdict, accepted, refused, when, ◌then◌}
use Rattle.maps.specs.Sizes.{sizes, number4, has_length}
use Rattle.maps.specs.Map.{Involutions}
use Rattle.maps.specs.Cell.{Cell}
use Rattle.maps.specs.Mark.{stay}
use Rattle.maps.specs.Kernel.{Removable}
use Rattle.maps.specs.Parts.{Piece, TwoParts}
use Rattle.maps.specs.Table.{entry, each}
use Rattle.maps.specs.Check.{check_map}
use Rattle.maps.specs.Explicit.{present}

-- Scope: 'Mark cells'. Sizes and lengths, 13 where δ is n or more, then the explicit level.
unfoldable pub mark_lent : ℕ → ℕ → List ℕ → ℕ → List ℕ → Verdict
mark_lent n N table δ out =
    sizes n N 0
    then (number4 (has_length table (suc n * N) && has_length out N)
    then (when (not (ltb δ n)) (refused 13 0 δ 0)
    then check_map (entry N table) n N (present N table)))

-- Scope: 'Mark cells'. A dart would be marked if its δ-cell is removable and falls into exactly two parts.
pub record WouldBeMarked (a : Involutions) (n δ dart : ℕ) : Type 0 where
  pub removable : Removable a n δ dart
  pub two : TwoParts a n δ dart

-- Scope: 'Mark cells'. Wherever every dart of a connected piece would be marked, the cell of its lowest dart is left unmarked: is this its cell?
pub record LeftUnmarked (a : Involutions) (n δ dart : ℕ) : Type 0 where
  pub every : (d : ℕ) → Piece a n dart d → WouldBeMarked a n δ d
  pub lowest : ℕ
  pub in_cell : Cell a n δ dart lowest
  pub least : (d : ℕ) → Piece a n dart d → lowest ≤ d

-- Scope: 'Mark cells'. The darts that are marked: those that would be, and are not left unmarked.
abbrev pub Marked : Involutions → ℕ → ℕ → ℕ → Type 0
Marked a n δ dart = WouldBeMarked a n δ dart × (LeftUnmarked a n δ dart → ⊥)

-- Scope: 'Mark cells'. Each dart that is marked has δ as its mark, every other dart 255.
pub record CellsMarked (n N : ℕ) (table : List ℕ) (δ : ℕ) (out : List ℕ) : Type 0 where
  pub long : length out ≡ N
  pub mark : (d : ℕ) → d < N
      → ((present N table d ≡ true) × Marked (entry N table) n δ d × (each out d ≡ δ))
      ⊎ (((present N table d ≡ true) × Marked (entry N table) n δ d → ⊥) × (each out d ≡ stay))

-- Scope: 'Left behind'. Accepted, the cells are marked; refused, the row is as found.
abbrev pub MarkLeaves : ℕ → ℕ → List ℕ → ℕ → List ℕ → Verdict → List ℕ → Type 0
MarkLeaves n N table δ found accepted out = CellsMarked n N table δ out
MarkLeaves n N table δ found (refused number level involution dart) out = out ≡ found
