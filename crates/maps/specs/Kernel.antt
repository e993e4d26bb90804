-- Kernels: whole cells, removable or contractible. Assumes nothing: these are definitions.
use Rattle.std.specs.Prelude.{◌≡◌, true, false, ℕ, ◌+◌, ◌-◌, ◌≤◌}
use Rattle.maps.specs.Map.{Involutions}
use Rattle.maps.specs.Cell.{Cell}
use Rattle.maps.specs.Mark.{is_mark, contracts, between}

-- Scope: 'Removable cells'. Always for δ = n−1; below that, a_(δ+1) and a_(δ+2) commute at each dart of the cell.
abbrev pub Removable : Involutions → ℕ → ℕ → ℕ → Type 0
Removable a n δ dart = δ + 2 ≤ n → (d : ℕ) → Cell a n δ dart d → a (δ + 2) (a (δ + 1) d) ≡ a (δ + 1) (a (δ + 2) d)

-- Scope: 'Contractible cells'. Always for δ = 1; above that, a_(δ−1) and a_(δ−2) commute at each dart of the cell.
abbrev pub Contractible : Involutions → ℕ → ℕ → ℕ → Type 0
Contractible a n δ dart = 2 ≤ δ → (d : ℕ) → Cell a n δ dart d → a (δ - 2) (a (δ - 1) d) ≡ a (δ - 1) (a (δ - 2) d)

-- Scope: 'Kernels'. Whole cells: every row but the dimension leads from a dart marked to one of the same mark. (What 9 tests.)
abbrev pub WholeCells : Involutions → ℕ → (ℕ → Type 0) → (ℕ → ℕ) → Type 0
WholeCells a n present mark = (d j : ℕ) → present d → is_mark n (mark d) ≡ true → j ≤ n → (j ≡ (between (mark d)).0 → ⊥) → mark (a j d) ≡ mark d

-- Scope: 'Kernels'. Darts of a level with their marks (mark d is dart d's): whole cells, so that every row but the dimension leads to a dart of the
-- same mark (removed and contracted cells are then apart), and each cell removable or contractible, as it is marked.
pub record Kernel (a : Involutions) (n : ℕ) (present : ℕ → Type 0) (mark : ℕ → ℕ) : Type 0 where
  pub whole : WholeCells a n present mark
  pub removable : (d : ℕ) → present d → is_mark n (mark d) ≡ true → contracts (mark d) ≡ false → Removable a n (mark d) d
  pub contractible : (d : ℕ) → present d → is_mark n (mark d) ≡ true → contracts (mark d) ≡ true → Contractible a n (mark d - 8) d
