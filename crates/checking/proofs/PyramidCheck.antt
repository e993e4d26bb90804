-- The verdict of the pyramid's check and what it leaves, taken apart as the code tests it. Assumes nothing.
use mathlib.Core.Path.{◌≡◌, refl, sym, ◌∙◌}
use mathlib.Core.Bool.{Bool, true, ◌&&◌}
use mathlib.Core.List.{List}
use Prim.Native.Nat.{ℕ, suc, ◌*◌, ◌≤◌, ◌<◌}
use native.Mathlib.Omega.{arith}
use lib.ListN.{length}
use borrow.Author.Tests.{eq-eqb, eqb-true}
use Rattle.maps.specs.Verdict.{Verdict, accepted, ◌then◌}
use Rattle.maps.specs.Sizes.{number1, number2, number3, sizes, number4, has_length}
use Rattle.maps.specs.Table.{entry, each}
use Rattle.maps.specs.Folded.{refused_marks, Folded}
use Rattle.maps.specs.Check.{check_map, at8, check8, check_pyramid}
use Rattle.maps.specs.CheckBase.{check_base}
use Rattle.maps.specs.CheckPyramid.{check_lent, table_at, check_leaves}
use Rattle.laws.proofs.Verdicts.{then_accepted, when_accepted, scan_accepted, then_two}
use Rattle.laws.proofs.Sizes.{lent_sized, both_equal}
use Rattle.facts.proofs.Checks.{map_sound, valid_base}
use Rattle.answers.specs.Numbers.{refusal_of}
use Rattle.answers.specs.Lent.{lent_of}
use Rattle.answers.specs.declared.Refusal.{Refusal}
use Rattle.climbing.specs.Climb.{Base, climbs, climb_leaves}
use Rattle.checking.specs.Checked.{sizes_with, lent_sizes, base_sizes, base_and_marks, early_of}
use Rattle.climbing.proofs.Verdicts.{Says, Late, passed, says_then, kernels_late}
use Rattle.checking.proofs.Parts.{Early, lengths_early, map_early, marks_early, at_sizes, at_kernels}

module _ (P : Folded) where
  open P use {n, N, h, rows, lambda, delta}

  -- what 1 to 4 tell when they are not refused
  pub record Lent (table : List ℕ) : Type 0 where
    pub dimension : n ≤ 4
    pub darts : N ≤ 4096
    pub height : h ≤ 32
    pub base : base_sizes n N rows ≡ accepted
    pub rows_long : length rows ≡ suc n * N
    pub lambda_long : length lambda ≡ N
    pub delta_long : length delta ≡ N
    pub table_long : length table ≡ length rows

-- once 1, 2 and 4 have passed, the check of the base is that of its map
pub base_map : (n N : ℕ) (rows : List ℕ) → base_sizes n N rows ≡ accepted → check_base n N rows ≡ check_map (entry N rows) n N (λ d. true)
unfolding check_base
base_map n N rows e = then_two (sizes n N 0) (number4 (has_length rows (suc n * N))) (check_map (entry N rows) n N (λ d. true)) ∙ rw e

module _ (P : Folded) (table : List ℕ) where
  open P use {n, N, h, rows, lambda, delta}

  -- of the base rows, Λ and Δ, with what else has to be exact
  pub lent_facts : (others : Bool) → lent_of n N h (has_length rows (suc n * N) && (has_length lambda N && (has_length delta N && others))) ≡ accepted → (others ≡ true → length table ≡ suc n * N) → Lent P table × (others ≡ true)
  unfolding sizes number3 number4
  lent_facts others e rest =
      let more = has_length lambda N && (has_length delta N && others) in
      let s = lent_sized n N h (has_length rows (suc n * N) && more) e in
      let x = both_equal (length rows) (suc n * N) more s.1 in
      let y = both_equal (length lambda) N (has_length delta N && others) x.1 in
      let w = both_equal (length delta) N others y.1 in
      let t = then_accepted (number1 n) (number2 N then number3 h) (then_accepted (sizes n N h) (number4 (has_length rows (suc n * N) && more)) e).0 in (
        record {
          dimension = s.0.dimension;
          darts = s.0.darts;
          height = s.0.height;
          base = rw (t.0, (then_accepted (number2 N) (number3 h) t.1).0, eq-eqb (length rows) (suc n * N) x.0);
          rows_long = x.0;
          lambda_long = y.0;
          delta_long = w.0;
          table_long = rest w.1 ∙ sym x.0;
        },
        w.1,
      )

module _ (P : Folded) where
  open P use {n, N, h, rows, lambda, delta}

  -- and of what else is lent, whatever it is
  pub with_facts : (others : Bool) → sizes_with P others ≡ accepted → Lent P rows
  with_facts others e =
      let more = has_length lambda N && (has_length delta N && others) in
      let x = both_equal (length rows) (suc n * N) more (lent_sized n N h (has_length rows (suc n * N) && more) e).1 in
      (lent_facts P rows others e (λ q. x.0)).0

module _ (P : Folded) (table : List ℕ) where
  open P use {n, N, h, rows, lambda, delta}

  pub check_facts : lent_sizes P table ≡ accepted → Lent P table
  check_facts e = (lent_facts P table (has_length table (suc n * N)) e (eqb-true (length table) (suc n * N))).0

  -- base and marks are refused with 5 to 8
  pub marks_early_all : Says Early (base_and_marks P)
  marks_early_all = says_then (check_map (entry N rows) n N (λ d. true)) (check8 n N h (each lambda) (each delta)) (map_early (entry N rows) n N (λ d. true)) (marks_early (entry N rows) n N h (each lambda) (each delta))

  -- the base is valid and the marks are allowed
  pub based : Lent P table → base_and_marks P ≡ accepted → Base P
  unfolding at8 check8
  based p e =
      let s = then_accepted (check_map (entry N rows) n N (λ d. true)) (check8 n N h (each lambda) (each delta)) e in
      let ln = p.dimension in
      record {
        dimension = p.dimension;
        darts = p.darts;
        height = let lh = p.height in omega arith;
        rows_long = p.rows_long;
        lambda_long = p.lambda_long;
        delta_long = p.delta_long;
        valid = valid_base (entry N rows) n N h (each lambda) (each delta) (omega arith) (map_sound (entry N rows) n N (λ d. true) s.0);
        allowed = λ d ld. when_accepted (refused_marks n h (each lambda d) (each delta d)) 8 0 0 d (scan_accepted N (at8 n h (each lambda) (each delta)) s.1 d ld);
      }

  -- the verdict of 1 to 8, and that of the kernels
  abbrev E : Verdict
  E = early_of P table

  abbrev K : Verdict
  K = climbs P

  pub check_is : check_lent P table ≡ (E then K)
  unfolding check_lent check_pyramid
  check_is = simp then_two

  parts : check_lent P table ≡ (E then (accepted then K))
  parts = check_is

  abbrev exact : Bool
  exact = has_length rows (suc n * N) && (has_length lambda N && (has_length delta N && has_length table (suc n * N)))

  early_all : Says Early E
  early_all = says_then (lent_sizes P table) (base_and_marks P) (lengths_early n N h exact) marks_early_all

  late_all : Says (Late (λ x. x < h)) K
  late_all = kernels_late (entry N rows) n N h (each lambda) (each delta)

  -- what 1 to 8 tell when they are not refused
  pub early_passed : E ≡ accepted → Lent P table × Base P
  early_passed e =
      let s = then_accepted (lent_sizes P table) (base_and_marks P) e in
      let p = check_facts s.0 in
      (p, based p s.1)

  -- an accepted check has passed them and all kernels
  pub check_passed : check_lent P table ≡ accepted → Lent P table × Base P × (K ≡ accepted)
  check_passed e =
      let s = then_accepted E K (sym check_is ∙ e) in
      let p = early_passed s.0 in
      (p.0, p.1, s.1)

  abbrev pub Answers : Verdict → List ℕ → Type 0
  Answers v after = (v ≡ check_lent P table) × (after ≡ check_leaves P table)

  abbrev T : ℕ → List ℕ
  T = table_at P

  -- refused by 1 to 8, or as the kernels say
  pub check_early : (r : Refusal) → refusal_of r ≡ E → Answers (refusal_of r) table
  unfolding check_leaves
  check_early = at_sizes (T h) T table (check_lent P table) E accepted K parts early_all passed late_all

  pub check_climbed : accepted ≡ E → {v : Verdict} {after : List ℕ} → v ≡ K → after ≡ climb_leaves P → Answers v after
  unfolding check_leaves
  check_climbed f e = at_kernels (T h) T table (check_lent P table) E accepted K parts early_all passed late_all f refl rows e
