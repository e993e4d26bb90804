-- Which parts of a job refuse with other numbers than 9 and 10, and what is then left in the lent table. Assumes nothing.
use mathlib.Core.Path.{◌≡◌, refl, sym, ◌∙◌}
use mathlib.Core.Bool.{Bool, false, ◌&&◌, ◌||◌, not}
use mathlib.Core.List.{List}
use Prim.Native.Nat.{ℕ, suc}
use lib.Dec.{eqb, leb, ltb}
use Rattle.maps.specs.Verdict.{Verdict, accepted, ◌then◌, scan}
use Rattle.maps.specs.Map.{Involutions}
use Rattle.maps.specs.Sizes.{sizes, number1, number2, number3, number4}
use Rattle.maps.specs.Folded.{refused_marks}
use Rattle.maps.specs.Check.{strays, not_twice, not_commuting, at5, at6, at7, check5, check6, check7, check_map, at8, check8}
use Rattle.maps.specs.CheckPyramid.{left_behind}
use Rattle.laws.proofs.Verdicts.{not_refused}
use Rattle.answers.specs.Numbers.{refusal_of}
use Rattle.answers.specs.declared.Refusal.{Refusal}
use Rattle.answers.proofs.Refusals.{refusal_refuses, refused_then}
use Rattle.climbing.proofs.Verdicts.{Says, Late, passed, says, says_when, says_then, says_scan}

-- neither 9 nor 10
abbrev pub Early : ℕ → ℕ → Type 0
Early number level = (eqb number 9 || eqb number 10) ≡ false

sizes_early : (n N h : ℕ) → Says Early (sizes n N h)
unfolding sizes number1 number2 number3
sizes_early n N h =
    says_then (number1 n) (number2 N then number3 h) (says_when (not (leb 1 n && leb n 4)) 1 0 0 0 refl)
    (says_then (number2 N) (number3 h) (says_when (not (leb 1 N && leb N 4096)) 2 0 0 0 refl) (says_when (ltb 32 h) 3 0 0 0 refl))

-- sizes and lengths are refused with 1 to 4
pub lengths_early : (n N h : ℕ) (exact : Bool) → Says Early (sizes n N h then number4 exact)
unfolding number4
lengths_early n N h exact = says_then (sizes n N h) (number4 exact) (sizes_early n N h) (says_when (not exact) 4 0 0 0 refl)

-- a map with 5, 6 or 7
pub map_early : (a : Involutions) (n N : ℕ) (present : ℕ → Bool) → Says Early (check_map a n N present)
unfolding at5 at6 at7 check5 check6 check7 check_map
map_early a n N present =
    says_then (check5 a n N present) (check6 a n N present then check7 a n N present)
    (says_scan (suc n) (λ i. scan N (at5 a N present i)) (λ i li. says_scan N (at5 a N present i) (λ d ld. says_when (strays a N present i d) 5 0 i d refl)))
    (says_then (check6 a n N present) (check7 a n N present)
    (says_scan (suc n) (λ i. scan N (at6 a present i)) (λ i li. says_scan N (at6 a present i) (λ d ld. says_when (not_twice a present i d) 6 0 i d refl)))
    (says_scan (suc n) (λ i. scan (suc n) (λ j. scan N (at7 a present i j))) (λ i li.
    says_scan (suc n) (λ j. scan N (at7 a present i j)) (λ j lj. says_scan N (at7 a present i j) (λ d ld. says_when (not_commuting a present i j d) 7 0 i d refl)))))

-- marks with 8
pub marks_early : (a : Involutions) (n N h : ℕ) (Λ Δ : ℕ → ℕ) → Says Early (check8 n N h Λ Δ)
unfolding at8 check8
marks_early a n N h Λ Δ = says_scan N (at8 n h Λ Δ) (λ d ld. says_when (refused_marks n h (Λ d) (Δ d)) 8 0 0 d refl)

-- A job that tests sizes, then base and marks, both with other numbers than 9 and 10, then kernels, with no other. What it leaves in the table is what was found, unless the kernels were reached.
module _ (top : List ℕ) (levels : ℕ → List ℕ) (found : List ℕ) {At : ℕ → Type 0} (job sized marked kernels : Verdict) (parts : job ≡ (sized then (marked then kernels)))
    (early : Says Early sized) (early₂ : Says Early marked) (late : Says (Late At) kernels) where
  early_left : (r : Refusal) (v w : Verdict) → Says Early v → refusal_of r ≡ v → found ≡ left_behind top levels found (v then w)
  unfolding left_behind
  early_left r _ w passed e = absurd (not_refused (sym (refusal_refuses r).is ∙ e))
  early_left r _ w (says k l i d p) e = rw p

  late_left : (other : List ℕ) (v : Verdict) → Says (Late At) v → left_behind top levels other v ≡ left_behind top levels found v
  unfolding left_behind
  late_left other _ passed = refl
  late_left other _ (says k l i d p) = rw p.0

  pub at_sizes : (r : Refusal) → refusal_of r ≡ sized → (refusal_of r ≡ job) × (found ≡ left_behind top levels found job)
  at_sizes r e = rw parts (refused_then r sized (marked then kernels) e, early_left r sized (marked then kernels) early e)

  module _ (f : accepted ≡ sized) where
    pub at_marks : (r : Refusal) → refusal_of r ≡ marked → (refusal_of r ≡ job) × (found ≡ left_behind top levels found job)
    at_marks r e = rw (parts, ← f) (refused_then r marked kernels e, early_left r marked kernels early₂ e)

    pub at_kernels : accepted ≡ marked → {v : Verdict} {after : List ℕ} (other : List ℕ) → v ≡ kernels → after ≡ left_behind top levels other kernels → (v ≡ job) × (after ≡ left_behind top levels found job)
    at_kernels g other e leaves = rw (parts, ← f, ← g) (e, leaves ∙ late_left other kernels late)
