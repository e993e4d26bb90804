-- Laws of the alternating sum: in two halves, with unused places, and that a difference of two small counts fits an `i32`. Assumes nothing.
use mathlib.Core.Path.{◌≡◌, refl, sym, ap, subst, ◌∙◌}
use mathlib.Core.Bool.{Bool, true, false, cond}
use Prim.Native.Nat.{ℕ, zero, suc, ◌+◌, ◌-◌, ◌^◌, ◌≤◌, ◌<◌}
use native.Mathlib.Nat.{add-suc, add-zero}
use native.Mathlib.Omega.{arith}
use lib.Dec.{ltb}
use lib.IntN.{ℤ, pos, negsuc, neg_ℤ, ◌+ℤ◌, ◌-ℤ◌, +ℤ_comm, +ℤ_assoc, +ℤ_idr, neg_ℤ-+ℤ}
use lib.Signed.{mag}
use mir.Syntax.{w32}
use mir.Val.{SFits, to_z}
use Rattle.maps.specs.Count.{sum}
use Rattle.maps.specs.Census.{even, alternating}
use mathlib.Core.List.{List}
use lib.ListN.{length, get_or, set}
use lib.Seq.{get_or-set_same, get_or-set_other}
use borrow.Author.Count.{below_more}
use mir.ValLaws.{to_z_pos}

module _ (c : ℕ → ℕ) where
  -- the sum of the counts of 0, 2, ..
  abbrev evens : ℕ → ℕ
  evens m = sum (λ i. cond (even i) (c i) 0) m

  -- those of 1, 3, ..
  abbrev odds : ℕ → ℕ
  odds m = sum (λ i. cond (even i) 0 (c i)) m

  -- it is the difference of the two
  alternating_halves : (m : ℕ) → alternating c m ≡ pos (evens m) -ℤ pos (odds m)
  unfolding alternating sum
  alternating_halves zero = refl
  alternating_halves (suc m) = go (even m) refl (alternating_halves m)
    where
      go : (b : Bool) → even m ≡ b → alternating c m ≡ pos (evens m) -ℤ pos (odds m) → alternating c (suc m) ≡ pos (evens (suc m)) -ℤ pos (odds (suc m))
      go true q ih =
          let z : odds m + 0 ≡ odds m = omega arith in
          rw (q, ih, z) (+ℤ_assoc (pos (evens m)) (neg_ℤ (pos (odds m))) (pos (c m)) ∙ ap (λ (x : ℤ). pos (evens m) +ℤ x) (+ℤ_comm (neg_ℤ (pos (odds m))) (pos (c m))) ∙ sym (+ℤ_assoc (pos (evens m)) (pos (c m)) (neg_ℤ (pos (odds m)))))
      go false q ih =
          let z : evens m + 0 ≡ evens m = omega arith in
          rw (q, ih, z) (+ℤ_assoc (pos (evens m)) (neg_ℤ (pos (odds m))) (neg_ℤ (pos (c m))) ∙ ap (λ (x : ℤ). pos (evens m) +ℤ x) (sym (neg_ℤ-+ℤ (pos (odds m)) (pos (c m)))))

  -- of five counts
  pub alternating_five : alternating c 5 ≡ pos (c 0 + c 2 + c 4) -ℤ pos (c 1 + c 3)
  unfolding sum
  alternating_five =
      let e : evens 5 ≡ c 0 + c 2 + c 4 = omega arith in
      let o : odds 5 ≡ c 1 + c 3 = omega arith in
      alternating_halves 5 ∙ (λ x. pos (e x) -ℤ pos (o x))

  -- unused places that are 0 change nothing
  pub alternating_unused : (m k : ℕ) → ((i : ℕ) → m ≤ i → i < m + k → c i ≡ 0) → alternating c (m + k) ≡ alternating c m
  unfolding alternating
  alternating_unused m zero h = rw add-zero
  alternating_unused m (suc k) h = rw add-suc (go (even (m + k)) refl (alternating_unused m k (λ i l f. h i l (omega arith))))
    where
      go : (b : Bool) → even (m + k) ≡ b → alternating c (m + k) ≡ alternating c m → alternating c (suc (m + k)) ≡ alternating c m
      go true q ih = rw (q, h (m + k) (omega arith) (omega arith)) (+ℤ_idr (alternating c (m + k)) ∙ ih)
      go false q ih = rw (q, h (m + k) (omega arith) (omega arith)) (+ℤ_idr (alternating c (m + k)) ∙ ih)

  -- so a row of zeros has the sum 0
  pub alternating_zero : (m : ℕ) → ((i : ℕ) → i < m → c i ≡ 0) → alternating c m ≡ pos 0
  unfolding alternating
  alternating_zero m h =
      let z : 0 + m ≡ m = omega arith in
      let k = alternating_unused 0 m (λ i l f. h i (omega arith)) in
      rw z at k

-- it depends on the counts alone
pub alternating_same : (c c' : ℕ → ℕ) (m : ℕ) → ((i : ℕ) → i < m → c i ≡ c' i) → alternating c m ≡ alternating c' m
unfolding alternating
alternating_same c c' zero h = refl
alternating_same c c' (suc m) h = rw (alternating_same c c' m (λ i l. h i (omega arith)), h m (omega arith))

-- by the sign of the difference
mag_choice : (t : Bool) (a b n : ℕ) → a < n → b < n → mag (cond t (negsuc a) (pos b)) < n
mag_choice true a b n h k = h
mag_choice false a b n h k = k

mag_sub : (a b n : ℕ) → a < n → b < n → mag (pos a -ℤ pos b) < n
mag_sub a zero n h k = let e : a + 0 ≡ a = omega arith in subst (λ (m : ℕ). m < n) (sym e) h
mag_sub a (suc b) n h k = mag_choice (ltb a (suc b)) (suc b - suc a) (a - suc b) n (omega arith) (omega arith)

pub difference_fits : (a b : ℕ) → a ≤ 196605 → b ≤ 196605 → SFits w32 (pos a -ℤ pos b)
difference_fits a b h k = record { sfits = mag_sub a b (2 ^ 31) (omega arith) (omega arith) }

-- what the machine subtracts are the numbers
pub plain : (a b : ℕ) → a ≤ 12288 → b ≤ 12288 → to_z w32 a -ℤ to_z w32 b ≡ pos a -ℤ pos b
plain a b h k = λ i. to_z_pos w32 a (omega arith) i -ℤ to_z_pos w32 b (omega arith) i

-- a list of sums with one more
pub sums_more : (f : ℕ → ℤ) (sums : List ℤ) (k : ℕ) (v : ℤ) → k < length sums → ((x : ℕ) → x < k → get_or sums x (pos 0) ≡ f x) → v ≡ f k → (x : ℕ) → x < k + 1 → get_or (set sums k v) x (pos 0) ≡ f x
sums_more f sums k v lk below e =
    below_more (λ x. get_or (set sums k v) x (pos 0) ≡ f x) k
    (λ x l. get_or-set_other sums k x v (pos 0) (λ q. omega arith) ∙ below x l)
    (get_or-set_same sums k v (pos 0) lk ∙ e)
