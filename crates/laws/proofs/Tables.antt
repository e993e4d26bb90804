-- Laws of tables: the list of a function's values, one store more, and the places of rows and darts. Assumes nothing.
use mathlib.Core.Path.{◌≡◌, refl, sym, ap, ◌∙◌}
use mathlib.Core.Bool.{Bool, true, false, cond}
use mathlib.Core.List.{List, [], ◌∷◌, ◌++◌}
use Prim.Native.Nat.{ℕ, zero, suc, ◌+◌, ◌*◌, ◌/◌, ◌%◌, ◌≤◌, ◌<◌}
use native.Mathlib.Nat.{mul-le-mul_right, suc-mul, div-lt_iff_lt-mul, mod-lt, div-add-mod'}
use native.Mathlib.Omega.{arith}
use lib.ListN.{length, get_or, set, length-append, get_or-append}
use lib.Seq.{get_or-append_seam, ext_get_or, get_or-set_same, get_or-set_other}
use lib.Arith.{digits_div, digits_mod, digits_lt}
use lib.Dec.{eqb}
use borrow.Author.Tests.{eqb-true, eqb-false}
use Rattle.maps.specs.Map.{Involutions}
use Rattle.maps.specs.Table.{entry, listed, absent, explicit}

pub length_listed : (f : ℕ → ℕ) (m : ℕ) → length (listed f m) ≡ m
unfolding listed
length_listed f zero = refl
length_listed f (suc m) = omega (arith, length-append (listed f m) (f m ∷ []), length_listed f m)

pub get_or_listed : (f : ℕ → ℕ) (m x z : ℕ) → x < m → get_or (listed f m) x z ≡ f x
unfolding listed
get_or_listed f zero x z l = absurd (omega arith)
get_or_listed f (suc m) x z l = go (eqb x m) refl (λ k. get_or_listed f m x z k)
  where
    go : (b : Bool) → eqb x m ≡ b → (x < m → get_or (listed f m) x z ≡ f x) → get_or (listed f m ++ (f m ∷ [])) x z ≡ f x
    go true q ih =
        let e : x ≡ m = eqb-true x m q in
        let k : m ≡ length (listed f m) = sym (length_listed f m) in
        rw e (ap (λ (y : ℕ). get_or (listed f m ++ (f m ∷ [])) y z) k ∙ get_or-append_seam (listed f m) (f m) [] z)
    go false q ih =
        let e : x ≡ m → ⊥ = eqb-false x m q in
        let k : x < m = omega arith in
        get_or-append (listed f m) (f m ∷ []) z x (omega (arith, length_listed f m)) ∙ ih k

-- a list that has the function's value at each place is the function's list
pub listed_of : (f : ℕ → ℕ) (m : ℕ) (list : List ℕ) → length list ≡ m → ((x : ℕ) → x < m → get_or list x 0 ≡ f x) → list ≡ listed f m
listed_of f m list e h = ext_get_or 0 list (listed f m) (e ∙ sym (length_listed f m)) (λ x l. h x (omega arith) ∙ sym (get_or_listed f m x 0 (omega arith)))

pub listed_same : (f g : ℕ → ℕ) (m : ℕ) → ((x : ℕ) → x < m → f x ≡ g x) → listed f m ≡ listed g m
listed_same f g m h = listed_of g m (listed f m) (length_listed f m) (λ x l. get_or_listed f m x 0 l ∙ h x l)

-- one store more: places below i hold the function's values, and now place i does
pub set_below : (f : ℕ → ℕ) (list : List ℕ) (i v : ℕ) → i < length list → ((x : ℕ) → x < i → get_or list x 0 ≡ f x) → v ≡ f i → (x : ℕ) → x < i + 1 → get_or (set list i v) x 0 ≡ f x
set_below f list i v h below e x l = go (eqb x i) refl
  where
    go : (b : Bool) → eqb x i ≡ b → get_or (set list i v) x 0 ≡ f x
    go true q =
        let k : x ≡ i = eqb-true x i q in
        rw k (get_or-set_same list i v 0 h ∙ e)
    go false q =
        let ne : x ≡ i → ⊥ = eqb-false x i q in
        get_or-set_other list i x v 0 ne ∙ below x (omega arith)

-- the largest of the places below i and of place i
pub most_more : (list : List ℕ) (i most larger : ℕ) → ((x : ℕ) → x < i → get_or list x 0 ≤ most) → most ≤ larger → get_or list i 0 ≤ larger → (x : ℕ) → x < i + 1 → get_or list x 0 ≤ larger
most_more list i most larger below l h x f = go (eqb x i) refl
  where
    go : (b : Bool) → eqb x i ≡ b → get_or list x 0 ≤ larger
    go true q = let k : x ≡ i = eqb-true x i q in rw k h
    go false q = let ne : x ≡ i → ⊥ = eqb-false x i q in omega (arith, below x (omega arith))

-- the entry of row i and dart d lies in a table of n+1 rows of N
pub in_table : (n N i d : ℕ) → i ≤ n → d < N → i * N + d < suc n * N
in_table n N i d li ld = digits_lt (omega arith) ld

-- sizes of tables, for n ≤ 4 and N ≤ 4,096
pub table_size : (n N i : ℕ) → n ≤ 4 → N ≤ 4096 → i ≤ n → (i * N ≤ 16384) × (suc n * N ≤ 20480) × (suc n * N ≡ (n + 1) * N)
table_size n N i ln lN li =
    let x : i * N ≤ 4 * N = mul-le-mul_right N (omega arith) in
    let y : suc n * N ≤ 5 * N = mul-le-mul_right N (omega arith) in
    let s : suc n ≡ n + 1 = omega arith in
    (omega arith, omega arith, ap (λ (k : ℕ). k * N) s)

pub next_row : (i N : ℕ) → i * N + N ≡ (i + 1) * N
next_row i N = let s : suc i ≡ i + 1 = omega arith in omega (arith, suc-mul i N, ap (λ (k : ℕ). k * N) s)

pub entry_explicit : (a : Involutions) (n N : ℕ) (present : ℕ → Bool) (i d : ℕ) → i ≤ n → d < N → entry N (explicit a n N present) i d ≡ cond (present d) (a i d) absent
unfolding explicit
entry_explicit a n N present i d li ld =
    get_or_listed (λ x. cond (present (x % N)) (a (x / N) (x % N)) absent) (suc n * N) (i * N + d) 0 (in_table n N i d li ld)
    ∙ rw (digits_mod i ld, digits_div i ld)

pub length_explicit : (a : Involutions) (n N : ℕ) (present : ℕ → Bool) → length (explicit a n N present) ≡ suc n * N
unfolding explicit
length_explicit a n N present = length_listed (λ x. cond (present (x % N)) (a (x / N) (x % N)) absent) (suc n * N)

-- a place of a table is an entry of a row and a dart
pub place : (n N x : ℕ) → x < suc n * N → (x / N ≤ n) × (x % N < N) × (x / N * N + x % N ≡ x)
place n zero x l = absurd (omega arith)
place n (suc N) x l =
    let pos : 0 < suc N = omega arith in
    let q : x / suc N < suc n = (div-lt_iff_lt-mul {k = suc N} {x = x} {y = suc n} pos).1 l in
    (omega arith, mod-lt x pos, div-add-mod' x (suc N))

-- a list whose entries are those of an explicit table is that table
pub explicit_of : (a : Involutions) (n N : ℕ) (present : ℕ → Bool) (table : List ℕ) → length table ≡ suc n * N
    → ((i d : ℕ) → i ≤ n → d < N → entry N table i d ≡ cond (present d) (a i d) absent) → table ≡ explicit a n N present
unfolding explicit
explicit_of a n N present table e h =
    listed_of (λ x. cond (present (x % N)) (a (x / N) (x % N)) absent) (suc n * N) table e
    (λ x l. let p = place n N x l in ap (λ (y : ℕ). get_or table y 0) (sym p.2) ∙ h (x / N) (x % N) p.0 p.1)

pub explicit_same : (a b : Involutions) (n N : ℕ) (p q : ℕ → Bool) → ((d : ℕ) → d < N → p d ≡ q d) → ((i d : ℕ) → i ≤ n → d < N → q d ≡ true → a i d ≡ b i d) → explicit a n N p ≡ explicit b n N q
explicit_same a b n N p q same agree =
    explicit_of b n N q (explicit a n N p) (length_explicit a n N p) (λ i d li ld. entry_explicit a n N p i d li ld ∙ rw (same d ld) (go i d li ld (q d) refl))
  where
    go : (i d : ℕ) → i ≤ n → d < N → (x : Bool) → q d ≡ x → cond x (a i d) absent ≡ cond x (b i d) absent
    go i d li ld true e = agree i d li ld e
    go i d li ld false e = refl
