-- Laws of a census in slices: row after row at its place, and what slices of other lengths are refused. Assumes nothing.
use mathlib.Core.Path.{◌≡◌, refl, sym, ap, subst, ◌∙◌}
use mathlib.Core.Bool.{Bool, true, false, ◌&&◌, not}
use mathlib.Core.List.{List}
use Prim.Native.Nat.{ℕ, suc, ◌+◌, ◌*◌, ◌<◌}
use native.Mathlib.Omega.{arith}
use lib.ListN.{length, get_or, set}
use lib.Seq.{get_or-set_same, get_or-set_other}
use lib.Dec.{leb, ltb}
use lib.IntN.{ℤ}
use borrow.Author.Count.{below_more}
use Rattle.maps.specs.Verdict.{Verdict, accepted, refused, when, ◌then◌}
use Rattle.maps.specs.Sizes.{number1, number2, number3, number4, sizes}
use Rattle.maps.specs.Table.{each}
use Rattle.maps.specs.Folded.{survives, marks, level, Folded, base, lambda_of, delta_of}
use Rattle.maps.specs.Accepted.{Accepted}
use Rattle.maps.specs.CheckPyramid.{check_lent, check_leaves}
use Rattle.maps.specs.Census.{CellCount, count_at, count_in, sum_at, CensusTaken, CensusLeaves, CensusPutLeaves, census_fits, census_lent, census_table}
use Rattle.laws.proofs.Lent.{with_checks, with_leaves, with_other, with_found}
use Rattle.facts.proofs.ExactJobs.{check_accepts}
use Rattle.answers.specs.Lent.{lent_of}
use Rattle.answers.specs.Numbers.{refusal_of}
use Rattle.answers.specs.declared.Refusal.{Refusal}
use Rattle.answers.proofs.Refusals.{Refuses, refusal_refuses}
use Rattle.counting.specs.Counts.{Counted}
use Rattle.counting.specs.Slices.{RowPut, CellsPut}
use Rattle.counting.proofs.Alternating.{alternating_same}
use Rattle.counting.proofs.Whole.{taken_counted}

-- one count more of row l
pub row_put_more : (cells row : List ℕ) (l i v : ℕ) → 5 * l + i < length cells → ((x : ℕ) → x < i → count_in cells l x ≡ each row x) → v ≡ each row i → (x : ℕ) → x < i + 1 → count_in (set cells (5 * l + i) v) l x ≡ each row x
row_put_more cells row l i v room below e =
    below_more (λ x. count_in (set cells (5 * l + i) v) l x ≡ each row x) i
    (λ x lx. get_or-set_other cells (5 * l + i) (5 * l + x) v 0 (λ q. omega arith) ∙ below x lx)
    (get_or-set_same cells (5 * l + i) v 0 room ∙ e)

-- which leaves the places before the row
pub row_put_before : (cells found : List ℕ) (l i v : ℕ) → ((x : ℕ) → x < 5 * l → get_or cells x 0 ≡ get_or found x 0) → (x : ℕ) → x < 5 * l → get_or (set cells (5 * l + i) v) x 0 ≡ get_or found x 0
row_put_before cells found l i v before x lx = get_or-set_other cells (5 * l + i) x v 0 (λ q. omega arith) ∙ before x lx

-- one row more
pub rows_more : (counts : List (List ℕ)) (row old new : List ℕ) (l : ℕ) → ((x i : ℕ) → x < l → i < 5 → count_in old x i ≡ count_at counts x i) → ((i : ℕ) → each row i ≡ count_at counts l i) → RowPut row l old new
    → (x : ℕ) → x < l + 1 → (i : ℕ) → i < 5 → count_in new x i ≡ count_at counts x i
rows_more counts row old new l below e w =
    below_more (λ x. (i : ℕ) → i < 5 → count_in new x i ≡ count_at counts x i) l
    (λ x lx i li. w.before (5 * x + i) (omega arith) ∙ below x i lx li)
    (λ i li. w.row_put i li ∙ e i)

-- 1, 2, 3 and then 4 refuse
early : (first second third : Bool) → Refuses ((when first (refused 1 0 0 0) then (when second (refused 2 0 0 0) then when third (refused 3 0 0 0))) then refused 4 0 0 0)
early true second third = record { number = 1; level = 0; involution = 0; dart = 0; is = refl }
early false true third = record { number = 2; level = 0; involution = 0; dart = 0; is = refl }
early false false true = record { number = 3; level = 0; involution = 0; dart = 0; is = refl }
early false false false = record { number = 4; level = 0; involution = 0; dart = 0; is = refl }

sizes_early : (n N h : ℕ) → Refuses (sizes n N h then number4 false)
unfolding sizes number1 number2 number3 number4
sizes_early n N h = early (not (leb 1 n && leb n 4)) (not (leb 1 N && leb N 4096)) (ltb 32 h)

module _ (P : Folded) (table cells : List ℕ) (sums : List ℤ) where
  open P use {n, N, h}

  abbrev lent : Verdict
  lent = census_lent P table cells sums

  abbrev Left : List ℕ → List ℤ → Type 0
  Left = CensusPutLeaves P lent cells sums

  abbrev checked : Verdict
  checked = check_lent P table

  -- a refusal leaves both as found
  refused_left : Refuses lent → Left cells sums
  refused_left x = rw x.is (refl, refl)

  -- slices of other lengths: 1, 2, 3, and else 4
  module _ (other : census_fits cells sums ≡ false) where
    pub other_lengths : lent_of n N h false ≡ lent
    unfolding census_lent
    other_lengths = sym (with_other P table (census_fits cells sums) other)

    pub other_table : table ≡ census_table P table cells sums
    unfolding census_table
    other_table = sym (with_found P table (census_fits cells sums) other)

    pub other_left : Left cells sums
    other_left = let x = sizes_early n N h in refused_left (record { number = x.number; level = x.level; involution = x.involution; dart = x.dart; is = sym other_lengths ∙ x.is })

  module _ (same : census_fits cells sums ≡ true) where
    -- slices of these lengths: the check's verdict
    pub same_verdict : checked ≡ lent
    unfolding census_lent
    same_verdict = sym (with_checks P table (census_fits cells sums) same)

    pub same_table : check_leaves P table ≡ census_table P table cells sums
    unfolding census_table
    same_table = sym (with_leaves P table (census_fits cells sums) same)

    pub same_refused : (r : Refusal) → refusal_of r ≡ checked → Left cells sums
    same_refused r e = let x = refusal_refuses r in refused_left (record { number = x.number; level = x.level; involution = x.involution; dart = x.dart; is = sym same_verdict ∙ sym e ∙ x.is })

  -- the census in arrays, accepted
  module _ (fine : accepted ≡ checked) (found : List (List ℕ)) (found-sums : List ℤ) (counts : List (List ℕ)) (all : List ℤ) (left : CensusLeaves P checked found found-sums counts all) where
    p : Accepted P table
    p = check_accepts P table (sym fine)

    taken : CensusTaken P counts all
    taken = rw (sym fine) at left

    counted : Counted P counts (h + 1)
    counted = taken_counted P counts all taken

    -- it is the census in slices
    pub put_left : census_fits cells sums ≡ true → (cells' : List ℕ) (sums' : List ℤ) → CellsPut counts cells' → sums' ≡ all → Left cells' sums'
    put_left same cells' sums' w e =
        let is : lent ≡ accepted = sym (fine ∙ same_verdict same) in
        rw is
        (record {
          cells_long = w.long;
          sums_long = ap length e ∙ taken.sums_long;
          census = record {
            cells = λ l i ll li. subst (λ (m : ℕ). CellCount (level (base P) n N (marks h (lambda_of P) (delta_of P)) l) n N (survives (lambda_of P) l) i m) (sym (w.put l i (omega (arith, p.height)) (omega (arith, p.dimension.1)))) (taken.census.cells l i ll li);
            unused = λ l i ll li f. w.put l i ll li ∙ taken.census.unused l i ll li f;
            sum = λ l ll. ap (λ (s : List ℤ). sum_at s l) e ∙ taken.census.sum l ll ∙ alternating_same (count_at counts l) (count_in cells' l) (suc n) (λ i li. sym (w.put l i (omega (arith, p.height)) (omega (arith, p.dimension.1))));
            unused_sum = λ l ll f. ap (λ (s : List ℤ). sum_at s l) e ∙ taken.census.unused_sum l ll f;
          };
        })
