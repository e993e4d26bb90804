-- The rows read back out of Λ and Δ, added to the base one after the other. Assumes nothing: these are definitions.
use Rattle.std.specs.Prelude.{◌≡◌, List, ℕ, suc}
use Rattle.maps.specs.Verdict.{accepted}
use Rattle.maps.specs.Table.{listed}
use Rattle.maps.specs.Folded.{marks, foldΛ, foldΔ, Folded, lambda_of, delta_of, of_parts}
use Rattle.maps.specs.CheckPyramid.{table_at}
use Rattle.maps.specs.AddLevel.{add_lent, add_lambda, add_delta, add_leaves}

module _ (f : Folded) (k : ℕ) where
  open f use {n, N, h, rows, lambda, delta}

  -- Scope: 'Mark rows'. The mark row of level k.
  abbrev pub row_back : List ℕ
  row_back = listed (marks h (lambda_of f) (delta_of f) k) N

  -- Scope: 'Λ and Δ'. The pyramid of height k over the same base: the rows below k, folded into Λ and Δ.
  abbrev pub lowest : Folded
  lowest = of_parts n N k rows (listed (foldΛ n (marks h (lambda_of f) (delta_of f)) k) N) (listed (foldΔ n (marks h (lambda_of f) (delta_of f)) k) N)

-- Scope: 'Add a level'. Row k, added to the rows below it, is accepted, and gives the Λ, Δ and table of height k+1.
pub record Readded (f : Folded) (k : ℕ) (table : List ℕ) : Type 0 where
  pub verdict : add_lent (lowest f k) (row_back f k) table ≡ accepted
  pub lambda_next : add_lambda (lowest f k) (row_back f k) table ≡ (lowest f (suc k)).lambda
  pub delta_next : add_delta (lowest f k) (row_back f k) table ≡ (lowest f (suc k)).delta
  pub table_next : add_leaves (lowest f k) (row_back f k) table ≡ table_at f (suc k)
