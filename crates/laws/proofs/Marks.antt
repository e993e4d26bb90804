-- Laws of marks, of either kind: their rows, and the row that has to commute. Nothing else looks into what a mark is. Assumes nothing.
use mathlib.Core.Path.{◌≡◌, refl, sym, ap, ◌∙◌}
use mathlib.Core.Logic.{◌⊎◌, inl, inr}
use mathlib.Core.Bool.{Bool, true, false, cond, ◌||◌, or-true, or_comm, true≢false}
use Prim.Native.Nat.{ℕ, ◌+◌, ◌-◌, ◌≤◌, ◌<◌}
use native.Mathlib.Omega.{arith}
use lib.Dec.{eqb, ltb}
use borrow.Author.Tests.{ltb-true, ltb-false, lt-ltb, le-ltb, eqb-true, ne_eqb}
use Rattle.maps.specs.Mark.{is_mark, contracts, stay, widest, between, lower, has_beyond, beyond, can_pass, across}

-- A removed dart is passed between the rows δ and δ+1, a contracted one between δ and δ−1.
abbrev pub onto : Bool → ℕ → ℕ
onto contracted δ = cond contracted (δ - 1) (δ + 1)

-- removed with a dimension from 0 to n−1, contracted with one from 1 to n
abbrev pub InRange : ℕ → Bool → ℕ → Type 0
InRange n true δ = (1 ≤ δ) × (δ ≤ n)
InRange n false δ = δ < n

-- both rows of a kind and dimension are rows of the map, and they differ
pub rows_in : (n : ℕ) (x : Bool) (δ : ℕ) → InRange n x δ → (δ ≤ n) × (onto x δ ≤ n) × (δ ≡ onto x δ → ⊥)
rows_in n true δ r = (omega arith, omega arith, λ e. omega arith)
rows_in n false δ r = (omega arith, omega arith, λ e. omega arith)

-- a mark is of one kind
pub data Kind (n mark : ℕ) : Type 0 where
  removes : contracts mark ≡ false → mark < n → Kind n mark
  shrinks : contracts mark ≡ true → 8 < mark → mark < 9 + n → Kind n mark

pub kind : (n mark : ℕ) → is_mark n mark ≡ true → Kind n mark
unfolding is_mark
kind n mark q = go (contracts mark) refl (ltb mark n) refl (ltb mark (9 + n)) refl
  where
    go : (x : Bool) → contracts mark ≡ x → (y : Bool) → ltb mark n ≡ y → (z : Bool) → ltb mark (9 + n) ≡ z → Kind n mark
    go false e true f z g = removes e (ltb-true mark n f)
    go false e false f z g = absurd (true≢false (sym q ∙ rw (f, e)))
    go true e y f true g = shrinks e (ltb-true 8 mark e) (ltb-true mark (9 + n) g)
    go true e true f false g = absurd (omega (arith, ltb-true mark n f, ltb-false mark (9 + n) g))
    go true e false f false g = absurd (true≢false (sym q ∙ rw (f, e, g)))

pub is_removal : (n mark : ℕ) → mark < n → is_mark n mark ≡ true
unfolding is_mark
is_removal n mark l = rw (lt-ltb mark n l)

pub is_contraction : (n mark : ℕ) → 8 < mark → mark < 9 + n → is_mark n mark ≡ true
unfolding is_mark
is_contraction n mark l m = rw (lt-ltb 8 mark l, lt-ltb mark (9 + n) m) (or-true (ltb mark n))

-- 255 is no mark
pub stay_none : (n : ℕ) → n ≤ widest → is_mark n stay ≡ false
unfolding is_mark
stay_none n l = rw (le-ltb stay n (omega arith), le-ltb stay (9 + n) (omega arith))

-- a mark is another byte than 255
pub mark_byte : (n mark : ℕ) → n ≤ widest → is_mark n mark ≡ true → mark < stay
mark_byte n mark l q = elim (kind n mark q) [ removes e m ↦ omega arith | shrinks e m u ↦ omega arith ]

-- the rows of each kind
pub removed_rows : (n mark : ℕ) → contracts mark ≡ false → (between mark ≡ (mark, mark + 1)) × (has_beyond n mark ≡ ltb (mark + 1) n) × (beyond mark ≡ mark + 2)
unfolding between has_beyond beyond
removed_rows n mark e = rw e (refl, refl, refl)

pub contracted_rows : (n mark : ℕ) → contracts mark ≡ true → (between mark ≡ (mark - 8, mark - 8 - 1)) × (has_beyond n mark ≡ ltb 1 (mark - 8)) × (beyond mark ≡ mark - 8 - 2)
unfolding between has_beyond beyond
contracted_rows n mark e = rw e (refl, refl, refl)

-- a mark by kind and dimension, which is the first of its rows
pub mark_range : (n mark : ℕ) → is_mark n mark ≡ true → InRange n (contracts mark) (between mark).0
unfolding between
mark_range n mark q = go (kind n mark q)
  where
    go : Kind n mark → InRange n (contracts mark) (between mark).0
    go (removes e l) = rw e l
    go (shrinks e l m) = rw e (omega arith, omega arith)

pub second_row : (mark : ℕ) → (between mark).1 ≡ onto (contracts mark) (between mark).0
unfolding between
second_row mark = go (contracts mark) refl
  where
    go : (x : Bool) → contracts mark ≡ x → (between mark).1 ≡ onto (contracts mark) (between mark).0
    go true e = rw e
    go false e = rw e

-- the two rows are the lower one and the next, in either order
pub lower_rows : (mark : ℕ) → (between mark ≡ (lower mark, lower mark + 1)) ⊎ (between mark ≡ (lower mark + 1, lower mark))
unfolding between lower
lower_rows mark = go (contracts mark) refl
  where
    go : (x : Bool) → contracts mark ≡ x → (between mark ≡ (lower mark, lower mark + 1)) ⊎ (between mark ≡ (lower mark + 1, lower mark))
    go false e = inl (rw e refl)
    go true e =
        let above = ltb-true 8 mark e in
        let next : mark - 8 ≡ mark - 8 - 1 + 1 = omega arith in
        inr (rw e (ap (λ (x : ℕ). (x, mark - 8 - 1)) next))

pub lower_most : (mark : ℕ) → lower mark ≤ mark
unfolding lower
lower_most mark = go (contracts mark) refl
  where
    go : (x : Bool) → contracts mark ≡ x → lower mark ≤ mark
    go false e = rw e (omega arith)
    go true e = rw e (omega arith)

-- a byte is a mark where the lower row is below n, of either kind
pub lower_mark : (n mark : ℕ) → is_mark n mark ≡ ltb (lower mark) n
unfolding is_mark lower
lower_mark n mark = go (contracts mark) refl (ltb mark n) refl (ltb mark (9 + n)) refl
  where
    go : (x : Bool) → contracts mark ≡ x → (y : Bool) → ltb mark n ≡ y → (z : Bool) → ltb mark (9 + n) ≡ z → is_mark n mark ≡ ltb (lower mark) n
    go false e true f z g = rw (e, f) refl
    go false e false f z g = rw (e, f) refl
    go true e true f z g = rw (e, f) (sym (lt-ltb (mark - 8 - 1) n (omega (arith, ltb-true 8 mark e, ltb-true mark n f))))
    go true e false f true g = rw (e, f, g) (sym (lt-ltb (mark - 8 - 1) n (omega (arith, ltb-true 8 mark e, ltb-true mark (9 + n) g))))
    go true e false f false g = rw (e, f, g) (sym (le-ltb (mark - 8 - 1) n (omega (arith, ltb-true 8 mark e, ltb-false mark (9 + n) g))))

-- a walk passes from either to the other
pub lower_pass : (mark t : ℕ) → can_pass mark t ≡ (eqb t (lower mark) || eqb t (lower mark + 1))
lower_pass mark t = elim (lower_rows mark) [ inl e ↦ rw e refl | inr e ↦ rw e (or_comm (eqb t (lower mark + 1)) (eqb t (lower mark))) ]

pub lower_across : (mark t : ℕ) → can_pass mark t ≡ true → across mark t ≡ cond (eqb t (lower mark)) (lower mark + 1) (lower mark)
lower_across mark t passes = go (lower_rows mark) (eqb t (lower mark)) refl
  where
    go : (between mark ≡ (lower mark, lower mark + 1)) ⊎ (between mark ≡ (lower mark + 1, lower mark)) → (x : Bool) → eqb t (lower mark) ≡ x → across mark t ≡ cond (eqb t (lower mark)) (lower mark + 1) (lower mark)
    go (inl e) x f = rw e refl
    go (inr e) true f = let at = eqb-true t (lower mark) f in rw (e, f, ne_eqb t (lower mark + 1) (λ next. omega arith)) refl
    go (inr e) false f = let next : eqb t (lower mark + 1) ≡ true = sym (rw f at (lower_pass mark t)) ∙ passes in rw (e, f, next) refl

-- both rows are rows of the map, and they differ
pub record Rows (n mark : ℕ) : Type 0 where
  pub first : (between mark).0 ≤ n
  pub second : (between mark).1 ≤ n
  pub two : (between mark).0 ≡ (between mark).1 → ⊥

pub mark_rows : (n mark : ℕ) → is_mark n mark ≡ true → Rows n mark
mark_rows n mark q =
    let r = rows_in n (contracts mark) (between mark).0 (mark_range n mark q) in
    record { first = r.0; second = rw (second_row mark) r.1; two = λ e. r.2 (e ∙ second_row mark) }

-- the rows of a mark tell the mark
pub same_mark : (x y : ℕ) → (between x).0 ≡ (between y).0 → (between x).1 ≡ (between y).1 → x ≡ y
unfolding between
same_mark x y e f = go (contracts x) refl (contracts y) refl
  where
    go : (p : Bool) → contracts x ≡ p → (q : Bool) → contracts y ≡ q → x ≡ y
    go false p false q = rw (p, q) at e
    go false p true q =
        let u : x ≡ y - 8 = rw (p, q) at e in
        let v : x + 1 ≡ y - 8 - 1 = rw (p, q) at f in
        omega arith
    go true p false q =
        let u : x - 8 ≡ y = rw (p, q) at e in
        let v : x - 8 - 1 ≡ y + 1 = rw (p, q) at f in
        omega arith
    go true p true q =
        let u : x - 8 ≡ y - 8 = rw (p, q) at e in
        omega (arith, ltb-true 8 x p, ltb-true 8 y q)

-- rows that are two or more apart
abbrev pub Far : ℕ → ℕ → Type 0
Far i j = (i + 2 ≤ j) ⊎ (j + 2 ≤ i)

-- the row that has to commute with the second is a row of the map, two from the first
pub beyond_row : (n mark : ℕ) → is_mark n mark ≡ true → has_beyond n mark ≡ true → (beyond mark ≤ n) × Far (between mark).0 (beyond mark)
unfolding between has_beyond beyond
beyond_row n mark q h = go (kind n mark q)
  where
    go : Kind n mark → (beyond mark ≤ n) × Far (between mark).0 (beyond mark)
    go (removes e l) = let k = ltb-true (mark + 1) n (rw e at h) in rw e (omega arith, inl (omega arith))
    go (shrinks e l m) = let k = ltb-true 1 (mark - 8) (rw e at h) in rw e (omega arith, inr (omega arith))
