-- Of what a census leaves: on every level each survivor lies in exactly one counted cell of each dimension. Assumes nothing.
use mathlib.Core.Path.{◌≡◌, ◌∙◌}
use mathlib.Core.Bool.{true}
use mathlib.Core.List.{List}
use Prim.Native.Nat.{ℕ, ◌≤◌, ◌<◌}
use native.Mathlib.Omega.{arith}
use lib.IntN.{ℤ}
use borrow.Author.Tests.{le-ltb}
use Rattle.maps.specs.Verdict.{accepted}
use Rattle.maps.specs.Map.{Involutions, Valid}
use Rattle.maps.specs.Cell.{Cell}
use Rattle.maps.specs.Table.{entry}
use Rattle.maps.specs.Folded.{On, survives, marks, level, Folded, base, lambda_of, delta_of}
use Rattle.maps.specs.Explicit.{There, present}
use Rattle.maps.specs.Accepted.{Accepted}
use Rattle.maps.specs.CheckPyramid.{check_lent, table_at}
use Rattle.maps.specs.Census.{Lowest, CensusOf}
use Rattle.facts.proofs.Stored.{stored, stored_present}
use Rattle.facts.proofs.ExactJobs.{check_accepts}
use Rattle.counting.proofs.Levels.{to_cell, from_cell, survivors_valid, table_explicit}
use Rattle.counting.proofs.Survivors.{cell_lowest, lowest_one}

module _ (P : Folded) (table : List ℕ) (e : check_lent P table ≡ accepted) (counts : ℕ → ℕ → ℕ) (sums : ℕ → ℤ) (t : CensusOf P counts sums) (l i : ℕ) (k : l ≤ P.h) (li : i ≤ P.n) where
  open P use {n, N, h}

  abbrev A : Involutions
  A = level (base P) n N (marks h (lambda_of P) (delta_of P)) l

  abbrev T : List ℕ
  T = table_at P l

  abbrev Here : ℕ → Type 0
  Here = There N (survives (lambda_of P) l)

  p : Accepted P table
  p = check_accepts P table e

  few : N ≤ 65535
  few = omega (arith, p.darts.1)

  v : Valid A n Here
  v = survivors_valid (base P) n N h (lambda_of P) (delta_of P) p.pyramid l k

  -- the explicit table of the level agrees with it
  same : (j d : ℕ) → j ≤ n → Here d → A j d ≡ entry N T j d
  same j d lj o = stored A n N (survives (lambda_of P) l) few v j d lj o

  in_table : (d : ℕ) → Here d → There N (present N T) d
  in_table d o = (o.0, stored_present A n N (survives (lambda_of P) l) few v d o.0 ∙ o.1)

  -- each survivor lies in one counted cell, and in no other
  pub census_once : (x : ℕ) → On N (lambda_of P) l x
      → (m : ℕ) × (m < N) × ((t.cells l i k li).counted m ≡ true) × Cell A n i x m × ((z : ℕ) → z < N → (t.cells l i k li).counted z ≡ true → Cell A n i x z → z ≡ m)
  census_once x o =
      let c = t.cells l i k li in
      let here : Here x = (o.0, rw (le-ltb (lambda_of P x) l o.1)) in
      let w = cell_lowest n N T (table_explicit P table p l k) i x (in_table x here) in
      let m = w.0 in
      let back = from_cell A (entry N T) n N (survives (lambda_of P) l) same v i x m here w.2 in
      let low : Lowest A n i m = λ d z. w.3 d (to_cell A (entry N T) n N (survives (lambda_of P) l) same v i m d back.1 z).0 in (
        m,
        back.1.0,
        c.every m back.1.0 back.1.1 low,
        back.0,
        λ z lz q f.
            let to = to_cell A (entry N T) n N (survives (lambda_of P) l) same v i x z here f in
            let lowest : Lowest (entry N T) n i z = λ d g. (c.only z lz q).1 d (from_cell A (entry N T) n N (survives (lambda_of P) l) same v i z d to.1 g).0 in
            lowest_one n N T (table_explicit P table p l k) i x z m (in_table x here) to.0 w.2 lowest w.3,
      )
