-- Laws of counts and sums that the theorems on turns lean on. Assumes nothing.
use mathlib.Core.Path.{◌≡◌, refl, sym, ap, ◌∙◌}
use mathlib.Core.Bool.{Bool, true, false, true≢false}
use Prim.Native.Nat.{ℕ, zero, suc, ◌+◌, ◌-◌, ◌≤◌, ◌<◌}
use native.Mathlib.Omega.{arith}
use Rattle.maps.specs.Count.{one, count, sum}
use Rattle.laws.proofs.Counting.{count_add}

-- what passes one test passes another
pub count_within : (p q : ℕ → Bool) (m : ℕ) → ((x : ℕ) → x < m → p x ≡ true → q x ≡ true) → count p m ≤ count q m
unfolding count
count_within p q zero h = omega arith
count_within p q (suc m) h = go (p m) refl (q m) refl (count_within p q m (λ x l. h x (omega arith)))
  where
    go : (b : Bool) → p m ≡ b → (c : Bool) → q m ≡ c → count p m ≤ count q m → count p m + one (p m) ≤ count q m + one (q m)
    go true e true f k = rw (e, f) (omega arith)
    go true e false f k = absurd (true≢false (sym (h m (omega arith) e) ∙ f))
    go false e c f k = rw (e) (omega arith)

-- nothing from m to below m + k passes
count_gap : (p : ℕ → Bool) (m k : ℕ) → ((x : ℕ) → m ≤ x → x < m + k → p x ≡ false) → count p (m + k) ≡ count p m
unfolding count
count_gap p m zero h = let e : m + 0 ≡ m = omega arith in rw e
count_gap p m (suc k) h =
    let e : m + suc k ≡ suc (m + k) = omega arith in
    let o = count_gap p m k (λ x l g. h x l (omega arith)) in
    rw (e, count, h (m + k) (omega arith) (omega arith)) (omega arith)

pub count_still : (p : ℕ → Bool) (m k : ℕ) → m ≤ k → ((x : ℕ) → m ≤ x → x < k → p x ≡ false) → count p k ≡ count p m
count_still p m k l h = let e : m + (k - m) ≡ k = omega arith in sym (ap (count p) e) ∙ count_gap p m (k - m) (λ x g b. h x g (omega arith))

-- a count of more numbers is no smaller
pub count_rises : (p : ℕ → Bool) (m k : ℕ) → m ≤ k → count p m ≤ count p k
count_rises p m k l = let e : m + (k - m) ≡ k = omega arith in omega (arith, count_add p m (k - m), ap (count p) e)

-- sums of what is less are less
pub sum_at_most : (f g : ℕ → ℕ) (m : ℕ) → ((x : ℕ) → x < m → f x ≤ g x) → sum f m ≤ sum g m
unfolding sum
sum_at_most f g zero h = omega arith
sum_at_most f g (suc m) h = omega (arith, sum_at_most f g m (λ x l. h x (omega arith)), h m (omega arith))
