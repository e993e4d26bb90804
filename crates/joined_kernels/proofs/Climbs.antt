-- The pyramid with two kernels joined: its levels up to theirs are those of the pyramid, and its kernel there is the joined one, which 9 alone can refuse. Assumes nothing.
use mathlib.Core.Path.{◌≡◌, refl, sym, ap, subst, ◌∙◌}
use mathlib.Core.Bool.{true, false}
use mathlib.Core.List.{List}
use Prim.Native.Nat.{ℕ, suc, ◌-◌, ◌≤◌, ◌<◌}
use native.Mathlib.Omega.{arith}
use lib.ListN.{length}
use Rattle.maps.specs.Verdict.{Verdict, accepted, refused, scan}
use Rattle.maps.specs.Map.{Involutions}
use Rattle.maps.specs.Mark.{between}
use Rattle.maps.specs.Table.{entry, each}
use Rattle.maps.specs.Folded.{refused_marks, marks, level, level_table, Folded, base, lambda_of, delta_of}
use Rattle.maps.specs.Pyramid.{Pyramid}
use Rattle.maps.specs.Check.{leaves, not_fitting, at9, at10, check9, check10, check_kernel, kernel_at, check_kernels}
use Rattle.maps.specs.CheckPyramid.{left_behind, table_at}
use Rattle.maps.specs.Join.{joinΛ, joined_row}
use Rattle.laws.proofs.Verdicts.{scan_same}
use Rattle.laws.proofs.Tables.{length_listed}
use Rattle.facts.proofs.Checks.{checked_kernels}
use Rattle.facts.proofs.Joining.{allowed_joined, marks_lower, level_lower, table_lower}
use Rattle.facts.proofs.JoinedJobs.{nine_alone, each_joined}
use Rattle.answers.specs.Numbers.{refusal_of, verdict_of}
use Rattle.answers.specs.declared.Refusal.{Refusal}
use Rattle.answers.proofs.Refusals.{refused_then, refusal_keeps}
use Rattle.std.specs.Prelude.{Result, Ok, Err}
use Rattle.std.specs.Result.{is_err}
use Rattle.kernels.specs.Strings.{kernel_row, Linked, Strung}
use Rattle.kernels.specs.Ready.{Tested}
use Rattle.climbing.specs.Climb.{Base, kernel_of, climbs, climb_leaves, climbs_to, climb_to_leaves, Climbed}
use Rattle.climbing.proofs.Verdicts.{Says, says, says_when, says_scan, kernel_late, late_leaves}
use Rattle.climbing.proofs.Steps.{kernel_is, climb_tested, climb_strung}
use Rattle.joined_kernels.specs.Climbed.{joined_verdict, climbs_joined, climb_joined_leaves, joined_of}

-- 9 refuses with 9, and 10 with 10
abbrev With : ℕ → ℕ → ℕ → Type 0
With number k l = k ≡ number

says_nine : (a : Involutions) (n N : ℕ) (mark : ℕ → ℕ) (l : ℕ) → Says (With 9) (check9 a n N mark l)
unfolding at9 check9
says_nine a n N mark l = says_scan N (λ d. scan (suc n) (at9 a n mark l d)) (λ d ld. says_scan (suc n) (at9 a n mark l d) (λ j lj. says_when (leaves a n mark d j) 9 l j d refl))

says_ten : (a : Involutions) (n N : ℕ) (mark : ℕ → ℕ) (l : ℕ) → Says (With 10) (check10 a n N mark l)
unfolding at10 check10
says_ten a n N mark l = says_scan N (at10 a n mark l) (λ d ld. says_when (not_fitting a n mark d) 10 l (between (mark d)).1 d refl)

-- a verdict that refuses with 9 alone is not refused by 10
said : {Q : ℕ → ℕ → Type 0} (k l i d : ℕ) → Says Q (refused k l i d) → Q k l
said _ _ _ _ (says k l i d p) = p

neither : (v : Verdict) → Says (With 9) v → Says (With 10) v → v ≡ accepted
neither accepted p q = refl
neither (refused k l i d) p q = absurd (omega (arith, said k l i d p, said k l i d q))

-- so a kernel that 9 alone can refuse has the verdict of 9
nine_decides : (a : Involutions) (n N : ℕ) (mark : ℕ → ℕ) (l : ℕ) → Says (With 9) (check_kernel a n N mark l) → check_kernel a n N mark l ≡ check9 a n N mark l
unfolding check_kernel
nine_decides a n N mark l nine = go (check9 a n N mark l) refl
  where
    go : (v : Verdict) → check9 a n N mark l ≡ v → check_kernel a n N mark l ≡ check9 a n N mark l
    go accepted e =
        let is : check_kernel a n N mark l ≡ check10 a n N mark l = rw e in
        neither (check_kernel a n N mark l) nine (subst (Says (With 10)) (sym is) (says_ten a n N mark l)) ∙ sym e
    go (refused k m i d) e = rw e

module _ (P : Folded) (l : ℕ) (pair : suc l < P.h) where
  open P use {n, N, h, rows, lambda, delta}

  -- the height was one more
  up : suc (h - 1) ≡ h
  up = omega arith

  low : l < h - 1
  low = omega arith

  abbrev Λ' : ℕ → ℕ
  Λ' = joinΛ l (lambda_of P)

  module _ (b : Base P) where
    each_is : lambda_of (joined_of P l) ≡ Λ'
    each_is = each_joined N lambda l b.lambda_long

    joined_base : Base (joined_of P l)
    joined_base = record {
      dimension = b.dimension;
      darts = b.darts;
      height = let z = b.height in omega arith;
      rows_long = b.rows_long;
      lambda_long = length_listed Λ' N;
      delta_long = b.delta_long;
      valid = b.valid;
      allowed = λ d ld. ap (λ (f : ℕ → ℕ). refused_marks n (h - 1) (f d) (delta_of P d)) each_is ∙ allowed_joined n (h - 1) (lambda_of P) (delta_of P) l low d (rw up (b.allowed d ld));
    }

    -- levels, mark rows and tables up to the joined kernel's
    lower : (k : ℕ) → k ≤ l → level (base P) n N (marks (h - 1) Λ' (delta_of P)) k ≡ level (base P) n N (marks h (lambda_of P) (delta_of P)) k
    lower k z = sym (rw up at (level_lower (base P) n N (h - 1) (lambda_of P) (delta_of P) l low k z))

    row_lower : (k : ℕ) → k < l → marks (h - 1) Λ' (delta_of P) k ≡ marks h (lambda_of P) (delta_of P) k
    row_lower k z = sym (rw up at (marks_lower (base P) n N (h - 1) (lambda_of P) (delta_of P) l low k z))

    table_same : table_at P l ≡ table_at (joined_of P l) l
    table_same =
        (rw up at (table_lower (base P) n N (h - 1) (lambda_of P) (delta_of P) l low l (omega arith)))
        ∙ sym (ap (λ (Λ : ℕ → ℕ). level_table (base P) n N (h - 1) Λ (delta_of P) l) each_is)

    kernel_as : (k : ℕ) → kernel_of (joined_of P l) k ≡ kernel_at (base P) n N (h - 1) Λ' (delta_of P) k
    kernel_as k = ap (λ (Λ : ℕ → ℕ). kernel_at (base P) n N (h - 1) Λ (delta_of P) k) each_is

    kernel_lower : (k : ℕ) → k < l → kernel_of (joined_of P l) k ≡ kernel_of P k
    unfolding kernel_at
    kernel_lower k z =
        kernel_as k
        ∙ ap (λ (A : Involutions). check_kernel A n N (marks (h - 1) Λ' (delta_of P) k) k) (lower k (omega arith))
        ∙ ap (λ (m : ℕ → ℕ). check_kernel (level (base P) n N (marks h (lambda_of P) (delta_of P)) k) n N m k) (row_lower k z)

    kernel_here : kernel_of (joined_of P l) l ≡ joined_verdict P l
    unfolding kernel_at
    kernel_here = kernel_as l ∙ ap (λ (A : Involutions). check_kernel A n N (marks (h - 1) Λ' (delta_of P) l) l) (lower l (omega arith))

    -- all kernels accepted, it is a pyramid, and 9 alone refuses the joined kernel
    pyramid_of : climbs P ≡ accepted → Pyramid (base P) n N h (lambda_of P) (delta_of P)
    unfolding check_kernels
    pyramid_of e =
        let ln = b.dimension in
        record { dimension = omega arith; base = b.valid; allowed = b.allowed; kernel = checked_kernels (base P) n N h (lambda_of P) (delta_of P) (omega arith) b.valid b.allowed h (omega arith) e }

    joined_nine : climbs P ≡ accepted → Says (With 9) (joined_verdict P l)
    joined_nine e =
        let A = level (base P) n N (marks h (lambda_of P) (delta_of P)) l in
        subst (Says (With 9)) (sym (rw up at (nine_alone (base P) n N (h - 1) (lambda_of P) (delta_of P) (rw up (pyramid_of e)) l low))) (says_nine A n N (joined_row P l) l)

  module _ {head next table : List ℕ} (c : Climbed P l head next table) {head' next' : List ℕ} (strung : Linked N (lambda_of (joined_of P l)) 0 head' next') where
    -- the level is one of the joined pyramid
    pub joined_climbed : Climbed (joined_of P l) l head' next' table
    joined_climbed = record {
      base = joined_base c.base;
      low = omega arith;
      checked = scan_same l (kernel_of (joined_of P l)) (kernel_of P) (kernel_lower c.base) ∙ c.checked;
      holds = c.holds ∙ table_same c.base;
      strung = strung;
    }

    -- and 9 on its table decides
    pub joined_verdict_lem : {v : Verdict} → v ≡ check9 (entry N table) n N (kernel_row (joined_of P l).lambda delta l) l → climbs P ≡ accepted → v ≡ joined_verdict P l
    joined_verdict_lem e all =
        let row = kernel_row (joined_of P l).lambda delta l in
        let is : check_kernel (entry N table) n N row l ≡ joined_verdict P l = kernel_is joined_climbed low ∙ kernel_here c.base in
        e ∙ sym (nine_decides (entry N table) n N row l (subst (Says (With 9)) (sym is) (joined_nine c.base all))) ∙ is

  -- the same of a row that holds the joined Λ
  module _ {head next table : List ℕ} (c : Climbed P l head next table) {joined head' next' : List ℕ} (is : joined ≡ (joined_of P l).lambda) (w : Linked (length joined) (each joined) 0 head' next') where
    joined_strung : Linked N (lambda_of (joined_of P l)) 0 head' next'
    joined_strung = rw (length_listed Λ' N) at (subst (λ (x : List ℕ). Linked (length x) (each x) 0 head' next') is w)

    pub joined_ready : {first : ℕ} → first ≡ each head' l → Tested n N (kernel_row joined delta l) table × Strung n N l first joined delta next'
    joined_ready {first} e =
        let v = joined_climbed c joined_strung in
        subst (λ (x : List ℕ). Tested n N (kernel_row x delta l) table × Strung n N l first x delta next') (sym is) (climb_tested v low, climb_strung v low e)

    pub joined_told : {v : Verdict} → v ≡ check9 (entry N table) n N (kernel_row joined delta l) l → climbs P ≡ accepted → v ≡ joined_verdict P l
    joined_told {v} e all = joined_verdict_lem c joined_strung (subst (λ (x : List ℕ). v ≡ check9 (entry N table) n N (kernel_row x delta l) l) is e) all

-- all kernels are those below the height
pub to_top : (P : Folded) → climbs_to P P.h ≡ climbs P
unfolding check_kernels
to_top P = refl

pub top_left : (P : Folded) → climb_to_leaves P P.h ≡ climb_leaves P
unfolding check_kernels
top_left P = refl

-- what the climb answers and leaves
module _ (P : Folded) (l : ℕ) where
  abbrev Left : Verdict → List ℕ → Type 0
  Left v after = (v ≡ climbs_joined P l) × (after ≡ climb_joined_leaves P l)

  -- a kernel is refused
  pub not_climbed : (r : Refusal) {after : List ℕ} → refusal_of r ≡ climbs P → after ≡ climb_leaves P → Left (refusal_of r) after
  not_climbed r e leaves =
      let same = refused_then r (climbs P) (joined_verdict P l) e in
      (same, leaves ∙ ap (left_behind (table_at P P.h) (table_at P) P.rows) (sym e ∙ same))

  module _ (all : accepted ≡ climbs P) where
    late : climb_joined_leaves P l ≡ left_behind (table_at P P.h) (table_at P) P.rows (joined_verdict P l)
    late = rw (← all)

    -- the joined kernel is refused, and its level is climbed to again
    pub not_joined : {A : Type 0} (found : Result A Refusal) {after : List ℕ} → true ≡ is_err found → verdict_of found ≡ joined_verdict P l → climbs_to P l ≡ accepted → after ≡ climb_to_leaves P l → Left (verdict_of found) after
    unfolding left_behind
    not_joined (Ok _) x e below leaves = absurd cc
    not_joined (Err r) x e below leaves =
        let kernel = joined_verdict P l in
        let T = table_at P in
        let here : climb_to_leaves P l ≡ T l = rw below in (
          rw (← all) e,
          leaves ∙ here ∙ refusal_keeps r kernel (T P.h) (T l) e
              ∙ sym (late ∙ late_leaves (T P.h) T P.rows l kernel (kernel_late (level (base P) P.n P.N (marks P.h (lambda_of P) (delta_of P)) l) P.n P.N (joined_row P l) l)),
        )

    -- all are accepted
    pub all_joined : {A : Type 0} (found : Result A Refusal) {after : List ℕ} → false ≡ is_err found → verdict_of found ≡ joined_verdict P l → after ≡ climb_leaves P → Left (verdict_of found) after
    all_joined (Ok _) x e leaves = (rw (← all) e, leaves ∙ rw (← all, ← e))
    all_joined (Err r) x e leaves = absurd cc
