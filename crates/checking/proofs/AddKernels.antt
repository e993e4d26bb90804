-- The pyramid with the mark row folded in: its kernels below h are those of Λ and Δ, and kernel h is the mark row. Assumes nothing.
use mathlib.Core.Path.{◌≡◌, refl, sym, ap, ◌∙◌, fun_ext}
use mathlib.Core.Bool.{Bool, true, false}
use mathlib.Core.List.{List, ◌++◌}
use Prim.Native.Nat.{ℕ, zero, suc, ◌≤◌, ◌<◌}
use native.Mathlib.Omega.{arith}
use lib.ListN.{length, take, drop, get_or-eq_default}
use lib.Dec.{eqb, ltb}
use borrow.Author.Tests.{eqb-true, ltb-true, ltb-false, lt-ltb, le-ltb}
use Rattle.maps.specs.Verdict.{Verdict, accepted, refused, ◌then◌, scan}
use Rattle.maps.specs.Map.{Involutions}
use Rattle.maps.specs.Mark.{is_mark}
use Rattle.maps.specs.Removal.{removal}
use Rattle.maps.specs.Table.{entry, each, listed}
use Rattle.maps.specs.Folded.{survives, marks, addΛ, addΔ, level, level_table, of_parts, Folded, base, lambda_of, delta_of}
use Rattle.maps.specs.MarkRow.{Row}
use Rattle.maps.specs.Check.{check_kernel, kernel_at, check_kernels}
use Rattle.maps.specs.CheckPyramid.{left_behind}
use Rattle.laws.proofs.Verdicts.{then_accepted, scan_same}
use Rattle.laws.proofs.Tables.{get_or_listed, length_listed, explicit_same}
use Rattle.facts.proofs.Adding.{marks_kept, marks_new, allowed_added}
use Rattle.facts.proofs.Climbing.{row_check, next_table, top_table}
use Rattle.climbing.proofs.Rows.{blank, part_is}
use Rattle.climbing.specs.Climb.{Base, climbs, climb_leaves}
use Rattle.checking.specs.Added.{new_top, ascends, ascend_leaves}
use Rattle.climbing.proofs.Verdicts.{Says, Late, passed, says, says_then, says_more, kernel_late, kernels_late}

-- the front of a local row, once it was written
pub folded_part : {N m : ℕ} (f : ℕ → ℕ) {list : List ℕ} → list ≡ listed f m → m ≡ N → take N (list ++ drop N blank) ≡ listed f N
folded_part {N} f {list} e long = let is = e ∙ ap (listed f) long in part_is N list (ap length is ∙ length_listed f N) ∙ is

-- the second verdict matters only where the first is accepted
then_same : (v w u : Verdict) → (v ≡ accepted → w ≡ u) → (v then w) ≡ (v then u)
then_same accepted w u h = h refl
then_same (refused k l i d) w u h = refl

-- kernels below h and the mark row are refused with 9 or 10, and a level up to h
pub ascends_late : (P : Folded) (row : List ℕ) → Says (Late (λ x. x ≤ P.h)) (ascends P row)
ascends_late P row =
    let low = climbs P in
    let last = check_kernel (level (base P) P.n P.N (marks P.h (lambda_of P) (delta_of P)) P.h) P.n P.N (each row) P.h in
    says_then low last (says_more (λ k l p. (p.0, omega (arith, p.1))) low (kernels_late (base P) P.n P.N P.h (lambda_of P) (delta_of P)))
    (says_more (λ k l p. (p.0, omega (arith, p.1))) last (kernel_late (level (base P) P.n P.N (marks P.h (lambda_of P) (delta_of P)) P.h) P.n P.N (each row) P.h))

-- what is left is the same where the tables that it can be are
left_same : (h : ℕ) (top top' : List ℕ) (levels levels' : ℕ → List ℕ) (found : List ℕ) (v : Verdict) → Says (Late (λ x. x ≤ h)) v → (v ≡ accepted → top ≡ top') → ((l : ℕ) → l ≤ h → levels l ≡ levels' l) → left_behind top levels found v ≡ left_behind top' levels' found v
unfolding left_behind
left_same h top top' levels levels' found _ passed t s = t refl
left_same h top top' levels levels' found _ (says k l i d p) t s = rw p.0 (s l p.1)

-- beyond its end a row holds 0
past : (row : List ℕ) (N d : ℕ) → length row ≡ N → N ≤ d → each row d ≡ 0
past row N d long l = get_or-eq_default row 0 (omega arith)

module _ {P : Folded} {new-lambda new-delta : List ℕ} (row : List ℕ) (b : Base P) (low : P.h ≤ 32) (k : Row P.n P.N P.h (lambda_of P) (each row))
    (is-Λ : new-lambda ≡ listed (addΛ P.n P.h (lambda_of P) (each row)) P.N) (is-Δ : new-delta ≡ listed (addΔ P.n (delta_of P) (each row)) P.N) where
  open P use {n, N, h, rows, lambda, delta}

  abbrev a : Involutions
  a = entry N rows

  abbrev Λ : ℕ → ℕ
  Λ = each lambda

  abbrev Δ : ℕ → ℕ
  Δ = each delta

  abbrev Λ' : ℕ → ℕ
  Λ' = each new-lambda

  abbrev Δ' : ℕ → ℕ
  Δ' = each new-delta

  new_Λ : (d : ℕ) → d < N → Λ' d ≡ addΛ n h Λ (each row) d
  new_Λ d ld = rw is-Λ (get_or_listed (addΛ n h Λ (each row)) N d 0 ld)

  new_Δ : (d : ℕ) → d < N → Δ' d ≡ addΔ n Δ (each row) d
  new_Δ d ld = rw is-Δ (get_or_listed (addΔ n Δ (each row)) N d 0 ld)

  long_Λ : length new-lambda ≡ N
  long_Λ = ap length is-Λ ∙ length_listed (addΛ n h Λ (each row)) N

  long_Δ : length new-delta ≡ N
  long_Δ = ap length is-Δ ∙ length_listed (addΔ n Δ (each row)) N

  added_base : Base (of_parts n N (suc h) rows new-lambda new-delta)
  added_base = record {
    dimension = b.dimension;
    darts = b.darts;
    height = omega arith;
    rows_long = b.rows_long;
    lambda_long = long_Λ;
    delta_long = long_Δ;
    valid = b.valid;
    allowed = λ d ld. rw (new_Λ d ld, new_Δ d ld) (allowed_added n N h Λ Δ (each row) k d ld (b.allowed d ld));
  }

  -- the mark rows below h stay, and that of h is the mark row
  kept : (l d : ℕ) → l < h → marks h Λ Δ l d ≡ marks (suc h) Λ' Δ' l d
  kept l d f = go (ltb d N) refl
    where
      go : (x : Bool) → ltb d N ≡ x → marks h Λ Δ l d ≡ marks (suc h) Λ' Δ' l d
      go true q = let ld = ltb-true d N q in rw (new_Λ d ld, new_Δ d ld) (marks_kept n N h Λ Δ (each row) k l d f ld)
      go false q =
          let m = ltb-false d N q in
          rw (past lambda N d b.lambda_long m, past delta N d b.delta_long m, past new-lambda N d long_Λ m, past new-delta N d long_Δ m, lt-ltb l h f, lt-ltb l (suc h) (omega arith))

  new : (d : ℕ) → d < N → marks (suc h) Λ' Δ' h d ≡ each row d
  new d ld = rw (new_Λ d ld, new_Δ d ld) (marks_new n N h Λ Δ (each row) k d ld)

  -- so levels up to h stay
  level_kept : (l : ℕ) → l ≤ h → level a n N (marks h Λ Δ) l ≡ level a n N (marks (suc h) Λ' Δ') l
  unfolding level
  level_kept zero f = refl
  level_kept (suc l) f =
      ap (λ (A : Involutions). removal A n (marks h Λ Δ l) N) (level_kept l (omega arith))
      ∙ ap (λ (m : ℕ → ℕ). removal (level a n N (marks (suc h) Λ' Δ') l) n m N) (fun_ext (λ d. kept l d f))

  kernel_kept : (l : ℕ) → l < h → kernel_at a n N (suc h) Λ' Δ' l ≡ kernel_at a n N h Λ Δ l
  unfolding kernel_at
  kernel_kept l f =
      sym (ap (λ (A : Involutions). check_kernel A n N (marks h Λ Δ l) l) (level_kept l (omega arith))
      ∙ ap (λ (m : ℕ → ℕ). check_kernel (level a n N (marks (suc h) Λ' Δ') l) n N m l) (fun_ext (λ d. kept l d f)))

  survives_kept : (l d : ℕ) → l ≤ h → d < N → survives Λ l d ≡ survives Λ' l d
  survives_kept l d f ld = rw (new_Λ d ld) (go (is_mark n (each row d)) refl (eqb (Λ d) h) refl)
    where
      go : (x : Bool) → is_mark n (each row d) ≡ x → (y : Bool) → eqb (Λ d) h ≡ y → survives Λ l d ≡ survives (addΛ n h Λ (each row)) l d
      go true q y e = rw (q, k.top d ld q)
      go false q true e = rw (q, e, eqb-true (Λ d) h e, le-ltb h l f, le-ltb (suc h) l (omega arith))
      go false q false e = rw (q, e)

  table_kept : (l : ℕ) → l ≤ h → level_table a n N (suc h) Λ' Δ' l ≡ level_table a n N h Λ Δ l
  table_kept l f =
      rw (level_kept l f)
      (explicit_same (level a n N (marks (suc h) Λ' Δ') l) (level a n N (marks (suc h) Λ' Δ') l) n N (survives Λ' l) (survives Λ l) (λ d ld. sym (survives_kept l d f ld)) (λ i d li ld q. refl))

  scan_kept : scan h (kernel_at a n N (suc h) Λ' Δ') ≡ climbs P
  unfolding check_kernels
  scan_kept = scan_same h (kernel_at a n N (suc h) Λ' Δ') (kernel_at a n N h Λ Δ) kernel_kept

  -- the kernels below h are accepted
  module _ (checked : climbs P ≡ accepted) where
    scanned : scan h (kernel_at a n N h Λ Δ) ≡ accepted
    unfolding check_kernels
    scanned = checked

    last_is : kernel_at a n N (suc h) Λ' Δ' h ≡ check_kernel (level a n N (marks h Λ Δ) h) n N (each row) h
    unfolding kernel_at
    last_is =
        let check = row_check a n N h Λ Δ b.dimension b.darts b.valid b.allowed h (omega arith) scanned (each row) (λ d ld q. let t = k.top d ld q in omega arith) in
        sym (ap (λ (A : Involutions). check_kernel A n N (marks (suc h) Λ' Δ' h) h) (level_kept h (omega arith))) ∙ sym (check (marks (suc h) Λ' Δ' h) new) ∙ check (each row) (λ d ld. refl)

    -- and so is the mark row
    top_is : check_kernel (level a n N (marks h Λ Δ) h) n N (each row) h ≡ accepted → level_table a n N (suc h) Λ' Δ' (suc h) ≡ new_top P row
    top_is accept =
        let c = added_base in
        let next = next_table a n N (suc h) Λ' Δ' c.dimension c.darts c.valid c.allowed h (omega arith) (scan_kept ∙ checked) (omega arith) (each row) new (last_is ∙ accept) in
        let top = top_table a n N h Λ Δ b.dimension b.darts b.valid b.allowed checked (each row) k accept (each row) (λ d ld. refl) in
        sym (rw (table_kept h (omega arith)) at next) ∙ top

  climbs_is : climbs (of_parts n N (suc h) rows new-lambda new-delta) ≡ ascends P row
  unfolding check_kernels scan
  climbs_is = rw scan_kept (then_same (climbs P) (kernel_at a n N (suc h) Λ' Δ' h) (check_kernel (level a n N (marks h Λ Δ) h) n N (each row) h) last_is)

  leaves_is : climb_leaves (of_parts n N (suc h) rows new-lambda new-delta) ≡ ascend_leaves P row
  leaves_is =
      let low = climbs P in
      let last = check_kernel (level a n N (marks h Λ Δ) h) n N (each row) h in
      let top = level_table a n N (suc h) Λ' Δ' (suc h) in
      ap (left_behind top (level_table a n N (suc h) Λ' Δ') rows) climbs_is
      ∙ left_same h top (new_top P row) (level_table a n N (suc h) Λ' Δ') (level_table a n N h Λ Δ) rows (ascends P row) (ascends_late P row)
      (λ e. let s = then_accepted low last e in top_is s.0 s.1) table_kept

  -- as the code has it, with the new height
  module _ {new-h : ℕ} (grown : new-h ≡ suc h) where
    pub ascend_base : Base (of_parts n N new-h rows new-lambda new-delta)
    ascend_base = rw grown added_base

    pub ascend_risen : {v : Verdict} {after : List ℕ} → v ≡ climbs (of_parts n N new-h rows new-lambda new-delta) → after ≡ climb_leaves (of_parts n N new-h rows new-lambda new-delta) → (v ≡ ascends P row) × (after ≡ ascend_leaves P row)
    ascend_risen e f = ((rw grown at e) ∙ climbs_is, (rw grown at f) ∙ leaves_is)
