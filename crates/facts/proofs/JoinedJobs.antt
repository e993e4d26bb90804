-- Kernels joined, in the words of the jobs: when it is accepted, that number 10 never comes, and what is left. Assumes nothing.
use mathlib.Core.Path.{◌≡◌, refl, sym, ap, ◌∙◌, fun_ext}
use mathlib.Core.Bool.{Bool, true, false}
use mathlib.Core.List.{List}
use Prim.Native.Nat.{ℕ, suc, ◌-◌, ◌<◌, zero-le}
use native.Mathlib.Omega.{arith}
use lib.ListN.{length, get_or-eq_default}
use lib.Dec.{leb, ltb}
use borrow.Author.Tests.{lt-leb, leb-false, ltb-true, ltb-false, le-ltb}
use Rattle.maps.specs.Verdict.{Verdict, accepted, refused, when, ◌then◌}
use Rattle.maps.specs.Map.{Involutions}
use Rattle.maps.specs.Kernel.{Kernel}
use Rattle.maps.specs.Table.{each, listed}
use Rattle.maps.specs.Folded.{On, marks, level, Folded, base, lambda_of, delta_of, of_parts}
use Rattle.maps.specs.Pyramid.{Pyramid}
use Rattle.maps.specs.Check.{check_map, check8, check9, check10, check_kernel, kernel_at, check_kernels, check_pyramid}
use Rattle.maps.specs.CheckPyramid.{check_lent}
use Rattle.maps.specs.Accepted.{Accepted}
use Rattle.maps.specs.Join.{joinΛ, joined_row, join_lent, join_height, join_lambda}
use Rattle.laws.proofs.Verdicts.{then_accepted, when_accepted, scan_accepted, scan_all, scan_first}
use Rattle.laws.proofs.Tables.{length_listed, get_or_listed}
use Rattle.facts.proofs.Levels.{level_valid}
use Rattle.facts.proofs.Checks.{check9_whole, sound_kernel, pyramid_check}
use Rattle.facts.proofs.Joining.{marks_lower, level_lower, marked_on, Joined, joins, never_ten}
use Rattle.facts.proofs.ExactJobs.{check_accepts, accepted_check}

-- kernels l and l+1 of an accepted pyramid of height h+1
module _ (a : Involutions) (n N h : ℕ) (Λ Δ : ℕ → ℕ) (y : Pyramid a n N (suc h) Λ Δ) (l : ℕ) (lh : l < h) where
  -- level l
  abbrev A : Involutions
  A = level a n N (marks (suc h) Λ Δ) l

  -- the joined kernel, and its verdict there
  abbrev row : ℕ → ℕ
  row = marks h (joinΛ l Λ) Δ l

  abbrev verdict : Verdict
  verdict = check_kernel A n N row l

  -- accepted only where the two can be joined
  pub verdict_joins : verdict ≡ accepted → Joined a n N h Λ Δ l
  unfolding check_kernel
  verdict_joins e = joins a n N h Λ Δ y l lh (check9_whole A n N row l (On N Λ l) (λ d o. o.0) (then_accepted (check9 A n N row l) (check10 A n N row l) e).0)

  -- and wherever they are a kernel of level l
  pub kernel_verdict : Kernel A n (On N Λ l) row → verdict ≡ accepted
  kernel_verdict k = sound_kernel A n N row l (On N Λ l) (level_valid a n N (suc h) Λ Δ y l (omega arith)) (λ d o. o.0) (marked_on a n N h Λ Δ y l lh) k

  -- number 10 never comes: the verdict is that of number 9
  pub nine_alone : verdict ≡ check9 A n N row l
  unfolding check_kernel
  nine_alone = go (check9 A n N row l) refl
    where
      go : (v : Verdict) → check9 A n N row l ≡ v → verdict ≡ check9 A n N row l
      go accepted e = never_ten a n N h Λ Δ y l lh e ∙ sym e
      go (refused k m i d) e = rw e

  -- the kernels of the joined pyramid, one after the other: those below l were accepted, those above are where the joined one is
  pub kernels_joined : check_kernels a n N h (joinΛ l Λ) Δ ≡ verdict
  unfolding kernel_at check_kernels check_pyramid
  kernels_joined = go verdict refl
    where
      below : (k : ℕ) → k < l → kernel_at a n N h (joinΛ l Λ) Δ k ≡ accepted
      below k z =
          let old = scan_accepted (suc h) (kernel_at a n N (suc h) Λ Δ) (then_accepted (check8 n N (suc h) Λ Δ) (check_kernels a n N (suc h) Λ Δ) (then_accepted (check_map a n N (λ d. true)) (check8 n N (suc h) Λ Δ then check_kernels a n N (suc h) Λ Δ) (pyramid_check a n N (suc h) Λ Δ y.dimension y)).1).1 k (omega arith) in
          ap (λ (b : Involutions). check_kernel b n N (marks h (joinΛ l Λ) Δ k) k) (sym (level_lower a n N h Λ Δ l lh k (omega arith)))
          ∙ ap (λ (m : ℕ → ℕ). check_kernel (level a n N (marks (suc h) Λ Δ) k) n N m k) (sym (marks_lower a n N h Λ Δ l lh k z)) ∙ old

      here : kernel_at a n N h (joinΛ l Λ) Δ l ≡ verdict
      here = ap (λ (b : Involutions). check_kernel b n N row l) (sym (level_lower a n N h Λ Δ l lh l (omega arith)))

      go : (v : Verdict) → verdict ≡ v → check_kernels a n N h (joinΛ l Λ) Δ ≡ verdict
      go accepted e =
          (then_accepted (check8 n N h (joinΛ l Λ) Δ) (check_kernels a n N h (joinΛ l Λ) Δ) (then_accepted (check_map a n N (λ d. true)) (check8 n N h (joinΛ l Λ) Δ then check_kernels a n N h (joinΛ l Λ) Δ) (pyramid_check a n N h (joinΛ l Λ) Δ y.dimension (verdict_joins e).pyramid)).1).1
          ∙ sym e
      go (refused k m i d) e = scan_first h (kernel_at a n N h (joinΛ l Λ) Δ) l k m i d lh (scan_all l (kernel_at a n N h (joinΛ l Λ) Δ) below) (here ∙ e) ∙ sym e

-- the row that is left in Λ says the joined Λ of every dart
pub each_joined : (N : ℕ) (lambda : List ℕ) (l : ℕ) → length lambda ≡ N → each (listed (joinΛ l (each lambda)) N) ≡ joinΛ l (each lambda)
each_joined N lambda l long = fun_ext (λ d. go d (ltb d N) refl)
  where
    go : (d : ℕ) (x : Bool) → ltb d N ≡ x → each (listed (joinΛ l (each lambda)) N) d ≡ joinΛ l (each lambda) d
    go d true e = get_or_listed (joinΛ l (each lambda)) N d 0 (ltb-true d N e)
    go d false e =
        let past = ltb-false d N e in
        let none : each lambda d ≡ 0 = get_or-eq_default lambda 0 (omega (arith, long)) in
        get_or-eq_default (listed (joinΛ l (each lambda)) N) 0 (omega (arith, length_listed (joinΛ l (each lambda)) N)) ∙ rw (none, le-ltb l 0 zero-le)

module _ (P : Folded) (table : List ℕ) (l : ℕ) where
  open P use {n, N, h, rows, lambda, delta}

  -- What an accepted join means: the check had accepted, l+1 is below h, the joined kernel is one of level l; what is left in Λ is accepted again with the height that is left, and has the same levels up to l, and from l+2 upward under their new numbers.
  pub record Joins : Type 0 where
    pub checked : check_lent P table ≡ accepted
    pub low : suc l < h
    pub joined : Joined (base P) n N (h - 1) (lambda_of P) (delta_of P) l
    pub left : (join_height P table l ≡ h - 1) × (each (join_lambda P table l) ≡ joinΛ l (lambda_of P))
    pub again : check_lent (of_parts n N (join_height P table l) rows (join_lambda P table l) delta) table ≡ accepted

  -- the two tests before the joined kernel
  tests : join_lent P table l ≡ accepted → (check_lent P table ≡ accepted) × (suc l < h) × (check_kernel (level (base P) n N (marks h (lambda_of P) (delta_of P)) l) n N (joined_row P l) l ≡ accepted)
  unfolding join_lent
  tests e =
      let K = check_kernel (level (base P) n N (marks h (lambda_of P) (delta_of P)) l) n N (joined_row P l) l in
      let r = then_accepted (check_lent P table) (when (leb h (suc l)) (refused 11 l 0 0) then K) e in
      let s = then_accepted (when (leb h (suc l)) (refused 11 l 0 0)) K r.1 in
      (r.0, leb-false h (suc l) (when_accepted (leb h (suc l)) 11 l 0 0 s.0), s.1)

  pub join_joins : join_lent P table l ≡ accepted → Joins
  unfolding join_height join_lambda
  join_joins e =
      let t = tests e in
      let p : Accepted P table = check_accepts P table t.0 in
      let up : suc (h - 1) ≡ h = omega (arith, t.1) in
      let f = joinΛ l (lambda_of P) in
      let j = verdict_joins (base P) n N (h - 1) (lambda_of P) (delta_of P) (rw up p.pyramid) l (omega (arith, t.1)) (rw up t.2) in
      let is = each_joined N lambda l p.lambda_length in
      record {
        checked = t.0;
        low = t.1;
        joined = j;
        left = rw e (refl, is);
        again = rw e (accepted_check (of_parts n N (h - 1) rows (listed f N) delta) table (record {
          dimension = p.dimension;
          darts = p.darts;
          height = omega (arith, p.height);
          rows_length = p.rows_length;
          lambda_length = length_listed f N;
          delta_length = p.delta_length;
          table_length = p.table_length;
          pyramid = rw is j.pyramid;
        }));
      }

  -- after an accepted check and with l+1 below h, the verdict is that of the joined kernel
  join_verdict : check_lent P table ≡ accepted → suc l < h → join_lent P table l ≡ check_kernel (level (base P) n N (marks h (lambda_of P) (delta_of P)) l) n N (joined_row P l) l
  unfolding join_lent
  join_verdict e low = rw (e, lt-leb h (suc l) low)

  -- It is refused exactly where the joined kernel is no kernel of level l: where it is one, it is accepted.
  pub kernel_joins : check_lent P table ≡ accepted → suc l < h
      → Kernel (level (base P) n N (marks h (lambda_of P) (delta_of P)) l) n (On N (lambda_of P) l) (joined_row P l) → join_lent P table l ≡ accepted
  kernel_joins e low k =
      let up : suc (h - 1) ≡ h = omega arith in
      let y = (check_accepts P table e).pyramid in
      join_verdict e low ∙ (rw up at (kernel_verdict (base P) n N (h - 1) (lambda_of P) (delta_of P) (rw up y) l (omega arith) (rw up k)))

  -- The joined kernel is refused by 9 or not at all: number 10 never comes.
  pub join_nine : check_lent P table ≡ accepted → suc l < h → join_lent P table l ≡ check9 (level (base P) n N (marks h (lambda_of P) (delta_of P)) l) n N (joined_row P l) l
  join_nine e low =
      let up : suc (h - 1) ≡ h = omega arith in
      let y = (check_accepts P table e).pyramid in
      join_verdict e low ∙ (rw up at (nine_alone (base P) n N (h - 1) (lambda_of P) (delta_of P) (rw up y) l (omega arith)))
