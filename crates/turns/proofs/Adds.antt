-- The entries that adding a level reads of the table: those of a climb over all kernels, the mark row last, of any input. Assumes nothing.
use mathlib.Core.Path.{◌≡◌, refl}
use mathlib.Core.Bool.{Bool, true, cond, ◌&&◌}
use mathlib.Core.List.{List}
use Prim.Native.Nat.{ℕ, suc, ◌+◌, ◌*◌, ◌≤◌, ◌<◌}
use native.Mathlib.Omega.{arith}
use lib.ListN.{length}
use lib.Dec.{eqb}
use borrow.Author.Tests.{eqb-true, not-false}
use Rattle.maps.specs.Verdict.{Verdict, accepted, refused, if_accepted, ◌then◌}
use Rattle.maps.specs.Sizes.{has_length}
use Rattle.maps.specs.Mark.{is_mark, stay}
use Rattle.maps.specs.MarkRow.{Row}
use Rattle.maps.specs.Table.{each, listed}
use Rattle.maps.specs.Folded.{Folded, lambda_of, delta_of, removed_below, addΛ, addΔ, of_parts}
use Rattle.maps.specs.AddLevel.{refused_mark, at_row8, number20}
use Rattle.laws.proofs.Tables.{get_or_listed, length_listed}
use Rattle.laws.proofs.Verdicts.{then_accepted, when_accepted, scan_accepted, and_both}
use Rattle.facts.proofs.Adding.{allowed_added}
use Rattle.answers.specs.Lent.{lent_of}
use Rattle.climbing.specs.Climb.{Base}
use Rattle.checking.specs.Checked.{base_and_marks}
use Rattle.checking.specs.Added.{add_sizes, row_marks, add_marks}
use Rattle.checking.proofs.PyramidCheck.{lent_facts, based}
use Rattle.turns.proofs.Entries.{climb_reads, climb_reads_lem}

-- the pyramid with a level more, as the code folds it into its own Λ and Δ
abbrev pub with_row : Folded → List ℕ → Folded
with_row f row = of_parts f.n f.N (suc f.h) f.rows (listed (addΛ f.n f.h (lambda_of f) (each row)) f.N) (listed (addΔ f.n (delta_of f) (each row)) f.N)

-- It climbs where 1 to 8 and 20 have passed.
unfoldable pub add_reads : Folded → List ℕ → List ℕ → ℕ
add_reads f row table = if_accepted (add_sizes f row table then add_marks f row) (climb_reads (with_row f row) (suc f.h)) 0

module _ (f : Folded) (row : List ℕ) where
  open f use {n, N, h, rows, lambda, delta}

  row_of : row_marks n N h lambda row ≡ accepted → Row n N h (each lambda) (each row)
  unfolding at_row8
  row_of e =
      let both : (d : ℕ) → d < N → cond (is_mark n (each row d)) (eqb (each lambda d) h) (eqb (each row d) stay) ≡ true = λ d ld.
      not-false (cond (is_mark n (each row d)) (eqb (each lambda d) h) (eqb (each row d) stay))
      (when_accepted (refused_mark n h (each lambda) (each row) d) 8 h 0 d (scan_accepted N (at_row8 n h (each lambda) (each row)) e d ld)) in
      record { top = λ d ld q. eqb-true (each lambda d) h (rw q at (both d ld)); rest = λ d ld q. eqb-true (each row d) stay (rw q at (both d ld)) }

  grown_base : Base f → h ≤ 32 → Row n N h (each lambda) (each row) → Base (with_row f row)
  grown_base b low k =
      let Λ' = addΛ n h (each lambda) (each row) in
      let Δ' = addΔ n (each delta) (each row) in
      record {
        dimension = b.dimension;
        darts = b.darts;
        height = omega arith;
        rows_long = b.rows_long;
        lambda_long = length_listed Λ' N;
        delta_long = length_listed Δ' N;
        valid = b.valid;
        allowed = λ d ld. rw (get_or_listed Λ' N d 0 ld, get_or_listed Δ' N d 0 ld) (allowed_added n N h (each lambda) (each delta) (each row) k d ld (b.allowed d ld));
      }

  -- 2n+8 for each dart gone, those of the mark row among them
  pub add_reads_lem : (table : List ℕ) → add_reads f row table ≤ (2 * n + 8) * removed_below N (lambda_of (with_row f row)) (suc h)
  unfolding add_reads
  add_reads_lem table = go (add_sizes f row table then add_marks f row) refl
    where
      others : Bool
      others = has_length row N && has_length table (suc n * N)

      exact : Bool
      exact = has_length rows (suc n * N) && (has_length lambda N && (has_length delta N && others))

      go : (v : Verdict) → (add_sizes f row table then add_marks f row) ≡ v → if_accepted v (climb_reads (with_row f row) (suc h)) 0 ≤ (2 * n + 8) * removed_below N (lambda_of (with_row f row)) (suc h)
      go accepted e =
          let s = then_accepted (add_sizes f row table) (add_marks f row) e in
          let t = then_accepted (lent_of n N h exact) (number20 h) s.0 in
          let p = (lent_facts f table others t.0 (λ o. eqb-true (length table) (suc n * N) (and_both (has_length row N) (has_length table (suc n * N)) o).1)).0 in
          let m = then_accepted (base_and_marks f) (row_marks n N h lambda row) s.1 in
          climb_reads_lem (with_row f row) (grown_base (based f table p m.0) p.height (row_of m.1)) (suc h) (omega arith)
      go (refused x l i d) e = omega arith
