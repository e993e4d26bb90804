-- Laws of a whole join: what is answered and left behind after each of its tests. Assumes nothing.
use mathlib.Core.Path.{◌≡◌, refl, sym, ap, ◌∙◌}
use mathlib.Core.Bool.{Bool, true, false, cond, ◌||◌}
use mathlib.Core.List.{List}
use Prim.Native.Nat.{ℕ, suc, ◌-◌, ◌≤◌, ◌<◌}
use native.Mathlib.Omega.{arith}
use lib.Dec.{eqb, leb}
use borrow.Author.Tests.{lt-leb}
use Rattle.maps.specs.Verdict.{Verdict, accepted, refused, when, ◌then◌}
use Rattle.maps.specs.Table.{listed}
use Rattle.maps.specs.Folded.{marks, level, Folded, base, lambda_of, delta_of}
use Rattle.maps.specs.CheckPyramid.{left_behind, check_lent, table_at, check_leaves}
use Rattle.maps.specs.Join.{joinΛ, joined_row, join_lent, join_height, join_lambda, join_leaves}
use Rattle.answers.specs.Numbers.{refusal_of}
use Rattle.answers.specs.declared.Refusal.{Refusal}
use Rattle.answers.proofs.Refusals.{refusal_keeps, refused_first}
use Rattle.climbing.specs.Climb.{climbs}
use Rattle.climbing.proofs.Verdicts.{Says, Late, says_then, says_more, kernel_late, kernels_late, late_found}
use Rattle.checking.specs.Checked.{early_of}
use Rattle.checking.proofs.PyramidCheck.{check_is, check_early}
use Rattle.joined_kernels.specs.Climbed.{joined_verdict, climbs_joined, climb_joined_leaves}

-- what a refusal leaves of what it left
left_twice : (top : List ℕ) (levels : ℕ → List ℕ) (found : List ℕ) (v : Verdict) → left_behind top levels found v ≡ left_behind top levels (left_behind top levels found v) v
unfolding left_behind
left_twice top levels found accepted = refl
left_twice top levels found (refused number level involution dart) = go (eqb number 9 || eqb number 10)
  where
    go : (b : Bool) → cond b (levels level) found ≡ cond b (levels level) (cond b (levels level) found)
    go true = refl
    go false = refl

module _ (P : Folded) (table : List ℕ) (l : ℕ) where
  open P use {n, N, h, rows, lambda, delta}

  -- the check's verdict, the joined kernel's, and the job's
  abbrev check : Verdict
  check = check_lent P table

  abbrev kernel : Verdict
  kernel = joined_verdict P l

  abbrev job : Verdict
  job = join_lent P table l

  tests : job ≡ (check then (when (leb h (suc l)) (refused 11 l 0 0) then kernel))
  unfolding join_lent
  tests = refl

  -- the explicit levels
  abbrev levels : ℕ → List ℕ
  levels = table_at P

  -- answer, height, Λ and table
  abbrev Leaves : Verdict → ℕ → List ℕ → List ℕ → Type 0
  Leaves v height lambda' after = (v ≡ job) × ((height ≡ join_height P table l) × ((lambda' ≡ join_lambda P table l) × (after ≡ join_leaves P table l)))

  not_joined : (r : Refusal) → refusal_of r ≡ job → {after : List ℕ} → after ≡ join_leaves P table l → Leaves (refusal_of r) h lambda after
  unfolding join_height join_lambda
  not_joined r e leaves = (e, (refusal_keeps r job (h - 1) h e, (refusal_keeps r job (listed (joinΛ l (lambda_of P)) N) lambda e, leaves)))

  -- what the check refuses
  pub check_refused : (r : Refusal) → refusal_of r ≡ check → {after : List ℕ} → after ≡ check_leaves P table → Leaves (refusal_of r) h lambda after
  unfolding check_leaves join_leaves
  check_refused r e leaves =
      let same : refusal_of r ≡ job = refused_first job check (when (leb h (suc l)) (refused 11 l 0 0) then kernel) tests r e in
      not_joined r same (leaves ∙ left_twice (levels h) levels table check ∙ ap (left_behind (levels h) levels (left_behind (levels h) levels table check)) (sym e ∙ same))

  -- 1 to 8 are its own
  pub early_refused : (r : Refusal) → refusal_of r ≡ early_of P table → Leaves (refusal_of r) h lambda table
  early_refused r e = let a = check_early P table r e in check_refused r a.0 a.1

  -- two kernels are not there
  pub no_two : accepted ≡ check → (r : Refusal) → refusal_of r ≡ refused 11 l 0 0 → leb h (suc l) ≡ true → {after : List ℕ} → after ≡ check_leaves P table → Leaves (refusal_of r) h lambda after
  unfolding left_behind join_leaves
  no_two e r is high leaves =
      let same : job ≡ refused 11 l 0 0 = tests ∙ rw (← e, high) in
      not_joined r (is ∙ sym same) (leaves ∙ rw same)

  -- two are there, and 1 to 8 have passed
  module _ (pair : suc l < h) (early : accepted ≡ early_of P table) where
    job_is : job ≡ climbs_joined P l
    job_is =
        let c : check ≡ climbs P = check_is P table ∙ rw (← early) in
        tests ∙ rw (c, lt-leb h (suc l) pair)

    late : Says (Late (λ x. x ≤ h)) (climbs_joined P l)
    late =
        says_then (climbs P) kernel
        (says_more (λ k x p. (p.0, omega (arith, p.1))) (climbs P) (kernels_late (base P) n N h (lambda_of P) (delta_of P)))
        (says_more (λ k x p. (p.0, omega (arith, p.1))) kernel (kernel_late (level (base P) n N (marks h (lambda_of P) (delta_of P)) l) n N (joined_row P l) l))

    leaves_is : climb_joined_leaves P l ≡ join_leaves P table l
    unfolding join_leaves
    leaves_is = late_found (levels h) levels rows (check_leaves P table) (climbs_joined P l) late ∙ ap (left_behind (levels h) levels (check_leaves P table)) (sym job_is)

    -- a kernel is refused, or the joined one
    pub climb_refused : (r : Refusal) → refusal_of r ≡ climbs_joined P l → {after : List ℕ} → after ≡ climb_joined_leaves P l → Leaves (refusal_of r) h lambda after
    climb_refused r f leaves = not_joined r (f ∙ sym job_is) (leaves ∙ leaves_is)

    -- the two are joined
    pub lowered : accepted ≡ climbs_joined P l → {lambda' after : List ℕ} → lambda' ≡ listed (joinΛ l (lambda_of P)) N → after ≡ climb_joined_leaves P l → Leaves accepted (h - 1) lambda' after
    unfolding join_height join_lambda
    lowered f row leaves =
        let v : job ≡ accepted = job_is ∙ sym f in
        (sym v, (rw v, (rw v row, leaves ∙ leaves_is)))
