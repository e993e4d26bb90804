-- The numbers that pass a test, numbered from 0 in rising order: rank and k-th number are inverse to each other. Assumes nothing.
use mathlib.Core.Path.{◌≡◌, refl, sym, ap, ◌∙◌}
use mathlib.Core.Bool.{Bool, true, false, ◌&&◌, not}
use Prim.Native.Nat.{ℕ, zero, suc, ◌+◌, ◌≤◌, ◌<◌}
use native.Mathlib.Omega.{arith}
use lib.Dec.{eqb, ltb}
use borrow.Author.Tests.{eqb-true, eqb-false, eq-eqb, ne_eqb, ltb-true, ltb-false}
use Rattle.maps.specs.Count.{one, count, sum}
use Rattle.laws.proofs.Counting.{sum_same, sum_count}
use Rattle.maps.specs.NewBase.{kth}

-- a sum of numbers that are no greater is no greater
pub sum_at_most : (f g : ℕ → ℕ) (m : ℕ) → ((x : ℕ) → x < m → f x ≤ g x) → sum f m ≤ sum g m
unfolding sum
sum_at_most f g zero h = omega arith
sum_at_most f g (suc m) h = omega (arith, sum_at_most f g m (λ x l. h x (omega arith)), h m (omega arith))

-- what passes a test and what does not
pub count_both : (p : ℕ → Bool) (m : ℕ) → count p m + count (λ x. not (p x)) m ≡ m
unfolding count
count_both p zero = refl
count_both p (suc m) = go (p m) (count_both p m)
  where
    go : (b : Bool) → count p m + count (λ x. not (p x)) m ≡ m → count p m + one b + (count (λ x. not (p x)) m + one (not b)) ≡ suc m
    go true h = omega arith
    go false h = omega arith

module _ (p : ℕ → Bool) where
  -- a count does not fall
  pub count_rises : (x m : ℕ) → x ≤ m → count p x ≤ count p m
  unfolding count
  count_rises x zero l = let e : x ≡ 0 = omega arith in rw e (omega arith)
  count_rises x (suc m) l = go (eqb x (suc m)) refl (λ k. count_rises x m k)
    where
      go : (b : Bool) → eqb x (suc m) ≡ b → (x ≤ m → count p x ≤ count p m) → count p x ≤ count p m + one (p m)
      go true q ih = let e : x ≡ suc m = eqb-true x (suc m) q in rw e (omega arith)
      go false q ih = let ne : x ≡ suc m → ⊥ = eqb-false x (suc m) q in omega (arith, ih (omega arith))

  -- past a number that passes, the count is greater
  pub count_passes : (x m : ℕ) → p x ≡ true → x < m → count p x < count p m
  unfolding count
  count_passes x m q l =
      let s : count p (suc x) ≡ count p x + 1 = rw q refl in
      omega (arith, count_rises (suc x) m l)

  -- two numbers that pass and have one rank are one number
  pub rank_one : (x y : ℕ) → p x ≡ true → p y ≡ true → count p x ≡ count p y → x ≡ y
  rank_one x y px py e = go (ltb x y) refl (ltb y x) refl
    where
      go : (s : Bool) → ltb x y ≡ s → (t : Bool) → ltb y x ≡ t → x ≡ y
      go true u t v = absurd (omega (arith, count_passes x y px (ltb-true x y u)))
      go false u true v = absurd (omega (arith, count_passes y x py (ltb-true y x v)))
      go false u false v = omega (arith, ltb-false x y u, ltb-false y x v)

  -- the k-th number passes, and its rank is k
  pub record Kth (m k : ℕ) : Type 0 where
    pub below : kth p m k < m
    pub passes : p (kth p m k) ≡ true
    pub ranked : count p (kth p m k) ≡ k

  -- at m + 1: it is m, where m passes and has rank k
  kth_here : (m k : ℕ) → p m ≡ true → count p m ≡ k → kth p (suc m) k ≡ m
  unfolding kth
  kth_here m k q e = rw (q, eq-eqb (count p m) k e, kth)

  -- and else what it is at m
  kth_lower : (m k : ℕ) → (p m && eqb (count p m) k) ≡ false → kth p (suc m) k ≡ kth p m k
  unfolding kth
  kth_lower m k q = rw (q, kth)

  -- as many as pass, so many are numbered
  pub kth_is : (m k : ℕ) → k < count p m → Kth m k
  unfolding count
  kth_is zero k l = absurd (omega arith)
  kth_is (suc m) k l = go (p m) refl (eqb (count p m) k) refl (λ z. kth_is m k z)
    where
      lower : (p m && eqb (count p m) k) ≡ false → Kth m k → Kth (suc m) k
      lower q r = let e = kth_lower m k q in record { below = rw e (omega (arith, r.below)); passes = rw e r.passes; ranked = rw e r.ranked }

      go : (s : Bool) → p m ≡ s → (t : Bool) → eqb (count p m) k ≡ t → (k < count p m → Kth m k) → Kth (suc m) k
      go true u true v ih =
          let e = kth_here m k u (eqb-true (count p m) k v) in
          record { below = rw e (omega arith); passes = rw e u; ranked = rw e (eqb-true (count p m) k v) }
      go true u false v ih =
          let ne : count p m ≡ k → ⊥ = eqb-false (count p m) k v in
          let z : k < count p m + 1 = rw u at l in
          lower (rw (u, v) refl) (ih (omega arith))
      go false u t v ih =
          let z : k < count p m + 0 = rw u at l in
          lower (rw u refl) (ih (omega arith))

  -- the number whose rank is k is the k-th
  pub kth_rank : (m d : ℕ) → d < m → p d ≡ true → kth p m (count p d) ≡ d
  kth_rank m d l q = let r = kth_is m (count p d) (count_passes d m q l) in rank_one (kth p m (count p d)) d r.passes q r.ranked

  -- both rise
  pub kth_rises : (m j k : ℕ) → j < k → k < count p m → kth p m j < kth p m k
  kth_rises m j k f l =
      let r = kth_is m j (omega arith) in
      let s = kth_is m k l in
      go r s (ltb (kth p m j) (kth p m k)) refl
    where
      go : Kth m j → Kth m k → (t : Bool) → ltb (kth p m j) (kth p m k) ≡ t → kth p m j < kth p m k
      go r s true u = ltb-true (kth p m j) (kth p m k) u
      go r s false u = absurd (omega (arith, count_rises (kth p m k) (kth p m j) (ltb-false (kth p m j) (kth p m k) u), r.ranked, s.ranked))

  -- a sum over the numbers that pass, by their new numbers
  pub sum_renumbered : (f : ℕ → ℕ) (m : ℕ) → ((d : ℕ) → d < m → p d ≡ false → f d ≡ 0) → sum (λ k. f (kth p m k)) (count p m) ≡ sum f m
  unfolding sum count
  sum_renumbered f zero h = refl
  sum_renumbered f (suc m) h = go (p m) refl (sum_renumbered f m (λ d l q. h d (omega arith) q))
    where
      go : (s : Bool) → p m ≡ s → sum (λ k. f (kth p m k)) (count p m) ≡ sum f m → sum (λ k. f (kth p (suc m) k)) (count p m + one (p m)) ≡ sum f m + f m
      go true u ih =
          let lower = sum_same (λ k. f (kth p (suc m) k)) (λ k. f (kth p m k)) (count p m) (λ k l. ap f (kth_lower m k (rw (u, ne_eqb (count p m) k (λ e. omega arith)) refl))) in
          let e : count p m + 1 ≡ suc (count p m) = omega arith in
          rw (u, e) (omega (arith, lower, ih, ap f (kth_here m (count p m) u refl)))
      go false u ih =
          let lower = sum_same (λ k. f (kth p (suc m) k)) (λ k. f (kth p m k)) (count p m) (λ k l. ap f (kth_lower m k (rw u refl))) in
          let e : count p m + 0 ≡ count p m = omega arith in
          rw (u, e) (omega (arith, lower, ih, h m (omega arith) u))

  -- how many of them pass another test, which none else passes
  pub count_renumbered : (q : ℕ → Bool) (m : ℕ) → ((d : ℕ) → d < m → p d ≡ false → q d ≡ false) → count (λ k. q (kth p m k)) (count p m) ≡ count q m
  count_renumbered q m h =
      sym (sum_count (λ k. q (kth p m k)) (count p m))
      ∙ sum_renumbered (λ d. one (q d)) m (λ d l u. ap one (h d l u))
      ∙ sum_count q m
