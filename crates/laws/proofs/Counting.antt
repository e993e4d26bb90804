-- Laws of counts and sums, lists without repeats, and the pigeonhole. Assumes nothing.
use mathlib.Core.Path.{◌≡◌, refl, ap, ◌∙◌}
use mathlib.Core.Logic.{◌⊎◌, inl, inr}
use mathlib.Core.Bool.{Bool, true, false, ◌&&◌, not}
use mathlib.Core.List.{List, [], ◌∷◌, ◌++◌}
use Prim.Native.Nat.{ℕ, zero, suc, ◌+◌, ◌-◌, ◌*◌, ◌≤◌, ◌<◌}
use native.Mathlib.Nat.{add-zero, add-suc}
use native.Mathlib.Numerals.{add-one}
use native.Mathlib.Omega.{arith}
use lib.ListN.{length, length-append}
use lib.Dec.{eqb}
use borrow.Author.Tests.{eqb-true, eqb-false, ne_eqb}
use Rattle.maps.specs.Count.{one, count, sum}

abbrev pub Mem : ℕ → List ℕ → Type 0
Mem x [] = ⊥
Mem x (y ∷ ys) = (x ≡ y) ⊎ Mem x ys

abbrev pub Nodup : List ℕ → Type 0
Nodup [] = Unit {0}
Nodup (x ∷ xs) = (Mem x xs → ⊥) × Nodup xs

abbrev pub minus : (ℕ → Bool) → ℕ → ℕ → Bool
minus p x y = p y && not (eqb y x)

pub minus_other : (p : ℕ → Bool) (x y : ℕ) → (y ≡ x → ⊥) → minus p x y ≡ p y
minus_other p x y h = rw (ne_eqb y x h) (go (p y))
  where
    go : (b : Bool) → (b && true) ≡ b
    go true = refl
    go false = refl

pub count_same : (p q : ℕ → Bool) (m : ℕ) → ((y : ℕ) → y < m → p y ≡ q y) → count p m ≡ count q m
unfolding count
count_same p q zero h = refl
count_same p q (suc m) h = rw (count_same p q m (λ y l. h y (omega arith)), h m (omega arith))

-- one number more
pub count_more : (p : ℕ → Bool) (m : ℕ) → count p (m + 1) ≡ count p m + one (p m)
unfolding count
count_more p m = rw add-one

pub count_minus : (p : ℕ → Bool) (x m : ℕ) → x < m → p x ≡ true → suc (count (minus p x) m) ≡ count p m
unfolding count
count_minus p x zero h e = omega arith
count_minus p x (suc m) h e = go (eqb m x) refl (λ less. count_minus p x m less e)
  where
    go : (b : Bool) → eqb m x ≡ b → (x < m → suc (count (minus p x) m) ≡ count p m) → suc (count (minus p x) (suc m)) ≡ count p (suc m)
    go true q ih =
        let mx : m ≡ x = eqb-true m x q in
        let pm : p m ≡ true = ap p mx ∙ e in
        let same : count (minus p x) m ≡ count p m = count_same (minus p x) p m (λ y l. minus_other p x y (λ yx. omega arith)) in
        rw (q, pm) (omega arith)
    go false q ih =
        let ne : m ≡ x → ⊥ = eqb-false m x q in
        let less : x < m = omega arith in
        rw (minus_other p x m ne) (omega (arith, ih less))

-- distinct numbers below m that pass p are no more than there are
pub pigeon : (l : List ℕ) (p : ℕ → Bool) (m : ℕ) → Nodup l → ((x : ℕ) → Mem x l → (x < m) × (p x ≡ true)) → length l ≤ count p m
pigeon [] p m d h = omega arith
pigeon (x ∷ xs) p m d h =
    let hx : (x < m) × (p x ≡ true) = h x (inl refl) in
    let rest : length xs ≤ count (minus p x) m =
    pigeon xs (minus p x) m d.1 (λ y l. ((h y (inr l)).0, minus_other p x y (λ (e : y ≡ x). d.0 (rw e at l)) ∙ (h y (inr l)).1)) in
    omega (arith, count_minus p x m hx.0 hx.1)

-- joining lists
pub mem_append : (x : ℕ) (l k : List ℕ) → Mem x (l ++ k) → Mem x l ⊎ Mem x k
mem_append x [] k h = inr h
mem_append x (y ∷ l) k (inl e) = inl (inl e)
mem_append x (y ∷ l) k (inr h) = elim (mem_append x l k h) [ inl u ↦ inl (inr u) | inr v ↦ inr v ]

pub nodup_append : (l k : List ℕ) → Nodup l → Nodup k → ((x : ℕ) → Mem x l → Mem x k → ⊥) → Nodup (l ++ k)
nodup_append [] k hl hk h = hk
nodup_append (x ∷ l) k hl hk h =
    (λ m. elim (mem_append x l k m) [ inl u ↦ hl.0 u | inr v ↦ h x (inl refl) v ], nodup_append l k hl.1 hk (λ y u v. h y (inr u) v))

-- a count of a range cut in two
pub count_add : (p : ℕ → Bool) (m k : ℕ) → count p (m + k) ≡ count p m + count (λ x. p (m + x)) k
unfolding count
count_add p m zero = rw add-zero (omega arith)
count_add p m (suc k) = rw add-suc (omega (arith, count_add p m k))

pub count_le : (p : ℕ → Bool) (m : ℕ) → count p m ≤ m
unfolding count
count_le p zero = omega arith
count_le p (suc m) = go (p m) (count_le p m)
  where
    go : (b : Bool) → count p m ≤ m → count p m + one b ≤ suc m
    go true h = omega arith
    go false h = omega arith

-- lists put end to end
unfoldable pub gather : (ℕ → List ℕ) → ℕ → List ℕ
gather g zero = []
gather g (suc m) = gather g m ++ g m

pub sum_same : (f g : ℕ → ℕ) (m : ℕ) → ((x : ℕ) → x < m → f x ≡ g x) → sum f m ≡ sum g m
unfolding sum
sum_same f g zero h = refl
sum_same f g (suc m) h = omega (arith, sum_same f g m (λ x l. h x (omega arith)), h m (omega arith))

pub sum_add : (f g : ℕ → ℕ) (m : ℕ) → sum (λ x. f x + g x) m ≡ sum f m + sum g m
unfolding sum
sum_add f g zero = refl
sum_add f g (suc m) = omega (arith, sum_add f g m)

-- a sum taken from the other end
sum_front : (f : ℕ → ℕ) (m : ℕ) → sum f (suc m) ≡ f 0 + sum (λ x. f (suc x)) m
unfolding sum
sum_front f zero = omega arith
sum_front f (suc m) = omega (arith, sum_front f m)

pub sum_reverse : (f : ℕ → ℕ) (m : ℕ) → sum (λ x. f (m - x)) (suc m) ≡ sum f (suc m)
unfolding sum
sum_reverse f zero = refl
sum_reverse f (suc m) =
    let k : suc m - 0 ≡ suc m = omega arith in
    omega (arith, sum_front (λ x. f (suc m - x)) (suc m), ap f k, sum_same (λ x. f (suc m - suc x)) (λ x. f (m - x)) (suc m) (λ x l. let j : suc m - suc x ≡ m - x = omega arith in ap f j), sum_reverse f m)

pub sum_const : (c m : ℕ) → sum (λ x. c) m ≡ m * c
unfolding sum
sum_const c zero = omega arith
sum_const c (suc m) = omega (arith, sum_const c m)

pub sum_count : (p : ℕ → Bool) (m : ℕ) → sum (λ x. one (p x)) m ≡ count p m
unfolding sum count
sum_count p zero = refl
sum_count p (suc m) = omega (arith, sum_count p m)

pub length_gather : (g : ℕ → List ℕ) (m : ℕ) → length (gather g m) ≡ sum (λ x. length (g x)) m
unfolding gather sum
length_gather g zero = refl
length_gather g (suc m) = omega (arith, length-append (gather g m) (g m), length_gather g m)

pub mem_gather : (g : ℕ → List ℕ) (m x : ℕ) → Mem x (gather g m) → (j : ℕ) × (j < m) × Mem x (g j)
unfolding gather
mem_gather g zero x h = elim h [ ]
mem_gather g (suc m) x h = go (mem_append x (gather g m) (g m) h) (λ k. mem_gather g m x k)
  where
    go : Mem x (gather g m) ⊎ Mem x (g m) → (Mem x (gather g m) → (j : ℕ) × (j < m) × Mem x (g j)) → (j : ℕ) × (j < suc m) × Mem x (g j)
    go (inl k) ih = let r = ih k in (r.0, omega (arith, r.1), r.2)
    go (inr k) ih = (m, omega arith, k)

pub nodup_gather : (g : ℕ → List ℕ) (m : ℕ) → ((j : ℕ) → j < m → Nodup (g j)) → ((j k x : ℕ) → j < m → k < m → Mem x (g j) → Mem x (g k) → j ≡ k) → Nodup (gather g m)
unfolding gather
nodup_gather g zero h d = tt
nodup_gather g (suc m) h d =
    nodup_append (gather g m) (g m) (nodup_gather g m (λ j l. h j (omega arith)) (λ j k x l l' u v. d j k x (omega arith) (omega arith) u v)) (h m (omega arith))
    (λ x u v. let r = mem_gather g m x u in omega (arith, r.1, d r.0 m x (omega (arith, r.1)) (omega arith) r.2 v))
