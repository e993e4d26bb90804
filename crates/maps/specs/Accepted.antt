-- What check and add accept. Assumes nothing: these are definitions.
use Rattle.std.specs.Prelude.{◌≡◌, List, ℕ, suc, ◌*◌, ◌≤◌, ◌<◌, length}
use Rattle.maps.specs.Kernel.{Kernel}
use Rattle.maps.specs.Table.{each}
use Rattle.maps.specs.Folded.{On, marks, level, Folded, base, lambda_of, delta_of}
use Rattle.maps.specs.Pyramid.{Pyramid}
use Rattle.maps.specs.MarkRow.{Row}

module _ (f : Folded) where
  open f use {n, N, h, rows, lambda, delta}

  -- Scope: 'Check a pyramid'. Sizes in range, exact lengths, and an accepted pyramid.
  pub record Accepted (table : List ℕ) : Type 0 where
    pub dimension : (1 ≤ n) × (n ≤ 4)
    pub darts : (1 ≤ N) × (N ≤ 4096)
    pub height : h ≤ 32
    pub rows_length : length rows ≡ suc n * N
    pub lambda_length : length lambda ≡ N
    pub delta_length : length delta ≡ N
    pub table_length : length table ≡ suc n * N
    pub pyramid : Pyramid (base f) n N h (lambda_of f) (delta_of f)

  -- Scope: 'Add a level'. Such a pyramid with room for a level, a mark row, and marks that are a kernel of level h.
  pub record Addable (row table : List ℕ) : Type 0 where
    pub before : Accepted table
    pub room : h < 32
    pub row_length : length row ≡ N
    pub mark_row : Row n N h (lambda_of f) (each row)
    pub kernel : Kernel (level (base f) n N (marks h (lambda_of f) (delta_of f)) h) n (On N (lambda_of f) h) (each row)
