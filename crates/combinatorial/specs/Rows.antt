-- The partner's rows, and how they are written into a base. Assumes nothing: these are definitions.
use Rattle.std.specs.Prelude.{◌≡◌, ◌⊎◌, List, ℕ, ◌+◌, ◌*◌, ◌≤◌, ◌<◌, length, get_or}
use Rattle.maps.specs.Verdict.{Verdict, ◌then◌}
use Rattle.maps.specs.Table.{each}
use Rattle.maps.specs.Partner.{outside, edges_back, number21}

-- a row of the exact length, whose entries are darts
pub record Row (M : ℕ) (row : List ℕ) : Type 0 where
  pub exact : length row ≡ M
  pub inside : (d : ℕ) → d < M → each row d < M

-- 5 of the edge row, 5 of the vertex row, 6, 21
abbrev pub tests_of : ℕ → List ℕ → List ℕ → Verdict
tests_of M edges vertices = outside M 0 edges then (outside M 1 vertices then (edges_back M edges then number21 M vertices))

-- nothing but the 2M entries from a start has changed
pub record Kept (M start : ℕ) (before after : List ℕ) : Type 0 where
  pub long : length after ≡ length before
  pub rest : (k : ℕ) → (k < start) ⊎ (start + 2 * M ≤ k) → get_or after k 0 ≡ get_or before k 0

-- entry 2d from there is one more than a number of d, and the next is that number
abbrev pub Pairs : ℕ → ℕ → (ℕ → ℕ) → List ℕ → Type 0
Pairs M start number list = (d : ℕ) → d < M → (get_or list (start + 2 * d) 0 ≡ number d + 1) × (get_or list (start + 2 * d + 1) 0 ≡ number d)

-- entry 2d+1 from there is twice the vertex successor of d, whose entry is 2d+1
abbrev pub Turns : ℕ → ℕ → (ℕ → ℕ) → List ℕ → Type 0
Turns M start vertex list = (d : ℕ) → d < M → (get_or list (start + (2 * d + 1)) 0 ≡ 2 * vertex d) × (get_or list (start + 2 * vertex d) 0 ≡ 2 * d + 1)
