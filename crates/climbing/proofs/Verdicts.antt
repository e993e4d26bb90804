-- Which numbers a kernel can refuse with: 9 and 10, with its level; and what is then left in the table. Assumes nothing.
use mathlib.Core.Path.{◌≡◌, refl, ap}
use mathlib.Core.Bool.{Bool, true, false, ◌||◌}
use mathlib.Core.List.{List}
use Prim.Native.Nat.{ℕ, zero, suc, ◌≤◌, ◌<◌}
use native.Mathlib.Omega.{arith}
use lib.Dec.{eqb}
use borrow.Author.Tests.{eqb-true, eqb-false}
use Rattle.maps.specs.Verdict.{Verdict, accepted, refused, when, if_accepted, ◌then◌, scan}
use Rattle.maps.specs.Map.{Involutions}
use Rattle.maps.specs.Mark.{between}
use Rattle.maps.specs.Folded.{marks, level}
use Rattle.maps.specs.Check.{leaves, not_fitting, at9, at10, check9, check10, check_kernel, kernel_at, check_kernels}
use Rattle.maps.specs.CheckPyramid.{left_behind}

-- accepted, or refused with a number and a level of which P holds
pub data Says (P : ℕ → ℕ → Type 0) : Verdict → Type 0 where
  passed : Says P accepted
  says : (number level involution dart : ℕ) → P number level → Says P (refused number level involution dart)

-- 9 or 10, with a level
abbrev pub Late : (ℕ → Type 0) → ℕ → ℕ → Type 0
Late At number level = ((eqb number 9 || eqb number 10) ≡ true) × At level

module _ {P : ℕ → ℕ → Type 0} where
  pub says_when : (t : Bool) (k l i d : ℕ) → P k l → Says P (when t (refused k l i d))
  says_when true k l i d p = says k l i d p
  says_when false k l i d p = passed

  pub says_then : (v w : Verdict) → Says P v → Says P w → Says P (v then w)
  says_then _ w passed q = q
  says_then _ w (says k l i d p) q = says k l i d p

  pub says_scan : (m : ℕ) (v : ℕ → Verdict) → ((x : ℕ) → x < m → Says P (v x)) → Says P (scan m v)
  unfolding scan
  says_scan zero v h = passed
  says_scan (suc m) v h = says_then (scan m v) (v m) (says_scan m v (λ x l. h x (omega arith))) (h m (omega arith))

pub says_more : {P Q : ℕ → ℕ → Type 0} → ((k l : ℕ) → P k l → Q k l) → (v : Verdict) → Says P v → Says Q v
says_more f _ passed = passed
says_more f _ (says k l i d p) = says k l i d (f k l p)

-- a kernel with 9 or 10 and its level
pub kernel_late : (a : Involutions) (n N : ℕ) (mark : ℕ → ℕ) (l : ℕ) → Says (Late (λ x. x ≡ l)) (check_kernel a n N mark l)
unfolding at9 at10 check9 check10 check_kernel
kernel_late a n N mark l =
    says_then (check9 a n N mark l) (check10 a n N mark l)
    (says_scan N (λ d. scan (suc n) (at9 a n mark l d)) (λ d ld. says_scan (suc n) (at9 a n mark l d) (λ j lj. says_when (leaves a n mark d j) 9 l j d (refl, refl))))
    (says_scan N (at10 a n mark l) (λ d ld. says_when (not_fitting a n mark d) 10 l (between (mark d)).1 d (refl, refl)))

-- kernels with 9 or 10 and the level of one of them
pub kernels_late : (a : Involutions) (n N h : ℕ) (Λ Δ : ℕ → ℕ) → Says (Late (λ x. x < h)) (check_kernels a n N h Λ Δ)
unfolding kernel_at check_kernels
kernels_late a n N h Λ Δ =
    says_scan h (kernel_at a n N h Λ Δ) (λ l f.
    says_more (λ k x p. (p.0, rw p.1 f)) (kernel_at a n N h Λ Δ l) (kernel_late (level a n N (marks h Λ Δ) l) n N (marks h Λ Δ l) l))

-- and a refusal of one kernel leaves the level that it names
pub late_leaves : (top : List ℕ) (levels : ℕ → List ℕ) (found : List ℕ) (m : ℕ) (v : Verdict) → Says (Late (λ x. x ≡ m)) v → left_behind top levels found v ≡ if_accepted v top (levels m)
unfolding left_behind
late_leaves top levels found m _ passed = refl
late_leaves top levels found m _ (says k l i d p) = rw p.0 (ap levels p.1)

-- what was found matters only to other numbers
pub late_found : {At : ℕ → Type 0} (top : List ℕ) (levels : ℕ → List ℕ) (found other : List ℕ) (v : Verdict) → Says (Late At) v → left_behind top levels found v ≡ left_behind top levels other v
unfolding left_behind
late_found top levels found other _ passed = refl
late_found top levels found other _ (says k l i d p) = rw p.0

-- a scan that is refused is refused no matter how far it goes
pub scan_stops : (v : ℕ → Verdict) (l m : ℕ) {k x i d : ℕ} → l ≤ m → scan l v ≡ refused k x i d → scan m v ≡ refused k x i d
unfolding scan
scan_stops v l zero low e = let z : l ≡ 0 = omega arith in rw z at e
scan_stops v l (suc m) {k} {x} {i} {d} low e = go (λ f. scan_stops v l m f e) (eqb l (suc m)) refl
  where
    go : (l ≤ m → scan m v ≡ refused k x i d) → (b : Bool) → eqb l (suc m) ≡ b → scan (suc m) v ≡ refused k x i d
    go r true q = rw (eqb-true l (suc m) q) at e
    go r false q = let ne : l ≡ suc m → ⊥ = eqb-false l (suc m) q in rw (r (omega arith))
