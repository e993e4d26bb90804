-- Two entries more of a row that is written, pair by pair or link by link. Assumes nothing.
use mathlib.Core.Path.{◌≡◌, refl, ◌∙◌}
use mathlib.Core.Logic.{◌⊎◌, inl, inr}
use mathlib.Core.List.{List}
use Prim.Native.Nat.{ℕ, ◌+◌, ◌*◌, ◌≤◌, ◌<◌}
use native.Mathlib.Omega.{arith}
use lib.ListN.{length, get_or, set, length-set}
use lib.Seq.{get_or-set_same, get_or-set_other}
use borrow.Author.Count.{below_more}
use Rattle.combinatorial.specs.Rows.{Kept, Pairs, Turns}

-- a list with two entries stored
module _ (list : List ℕ) (p x q y : ℕ) where
  abbrev both : List ℕ
  both = set (set list p x) q y

  both_long : length both ≡ length list
  both_long = simp length-set

  second_is : q < length list → get_or both q 0 ≡ y
  second_is l = get_or-set_same (set list p x) q y 0 (omega (arith, length-set list p x))

  first_is : p < length list → (p ≡ q → ⊥) → get_or both p 0 ≡ x
  first_is l ne = get_or-set_other (set list p x) q p y 0 ne ∙ get_or-set_same list p x 0 l

  other_is : (k : ℕ) → (k ≡ p → ⊥) → (k ≡ q → ⊥) → get_or both k 0 ≡ get_or list k 0
  other_is k n m = get_or-set_other (set list p x) q k y 0 m ∙ get_or-set_other list p k x 0 n

-- nothing is written yet
pub kept_none : (M start : ℕ) (list : List ℕ) → Kept M start list list
kept_none M start list = record { long = refl; rest = λ k w. refl }

-- the pair of dart d, whose place and even dart are known
module _ (start : ℕ) (number : ℕ → ℕ) (before list : List ℕ) (d p y : ℕ) (at_p : p ≡ start + 2 * d) (is_y : y ≡ number d) (fits : p + 1 < length list) where
  abbrev new_list : List ℕ
  new_list = both list p (y + 1) (p + 1) y

  pairs_more : Pairs d start number list → Pairs (d + 1) start number new_list
  pairs_more h = below_more _ d (λ e l. old e l) new
    where
      stays : (k : ℕ) → (k ≡ p → ⊥) → (k ≡ p + 1 → ⊥) → get_or new_list k 0 ≡ get_or list k 0
      stays = other_is list p (y + 1) (p + 1) y

      old : (e : ℕ) → e < d → (get_or new_list (start + 2 * e) 0 ≡ number e + 1) × (get_or new_list (start + 2 * e + 1) 0 ≡ number e)
      old e l = (stays (start + 2 * e) (λ f. omega arith) (λ f. omega arith) ∙ (h e l).0, stays (start + 2 * e + 1) (λ f. omega arith) (λ f. omega arith) ∙ (h e l).1)

      new : (get_or new_list (start + 2 * d) 0 ≡ number d + 1) × (get_or new_list (start + 2 * d + 1) 0 ≡ number d)
      new = rw (← at_p, ← is_y) (first_is list p (y + 1) (p + 1) y (omega arith) (λ g. omega arith), second_is list p (y + 1) (p + 1) y fits)

  kept_more : Kept d start before list → Kept (d + 1) start before new_list
  kept_more h = record { long = both_long list p (y + 1) (p + 1) y ∙ h.long; rest = λ k w. rest k w }
    where
      rest : (k : ℕ) → (k < start) ⊎ (start + 2 * (d + 1) ≤ k) → get_or new_list k 0 ≡ get_or before k 0
      rest k (inl l) = other_is list p (y + 1) (p + 1) y k (λ f. omega arith) (λ f. omega arith) ∙ h.rest k (inl l)
      rest k (inr l) = other_is list p (y + 1) (p + 1) y k (λ f. omega arith) (λ f. omega arith) ∙ h.rest k (inr (omega arith))

  pub pair_more : {after : List ℕ} → after ≡ set (set list p (y + 1)) (p + 1) y → Pairs d start number list × Kept d start before list → Pairs (d + 1) start number after × Kept (d + 1) start before after
  pair_more e h = rw e (pairs_more h.0, kept_more h.1)

-- the link of dart d and its vertex successor
module _ (M start : ℕ) (vertex : ℕ → ℕ) (before list : List ℕ) (d p x q y : ℕ) (at_p : p ≡ start + (2 * d + 1)) (at-q : q ≡ start + 2 * vertex d) (is_x : x ≡ 2 * vertex d) (is_y : y ≡ 2 * d + 1)
    (low : d < M) (inside : vertex d < M) (fits : start + 2 * M ≤ length list) where
  pub turns_more : ((e : ℕ) → e < d → vertex e ≡ vertex d → ⊥) → Turns d start vertex list → Turns (d + 1) start vertex (set (set list p x) q y)
  turns_more fresh h = below_more _ d (λ e l. old e l) new
    where
      old : (e : ℕ) → e < d → (get_or (both list p x q y) (start + (2 * e + 1)) 0 ≡ 2 * vertex e) × (get_or (both list p x q y) (start + 2 * vertex e) 0 ≡ 2 * e + 1)
      old e l = (
        other_is list p x q y (start + (2 * e + 1)) (λ f. omega arith) (λ f. omega arith) ∙ (h e l).0,
        other_is list p x q y (start + 2 * vertex e) (λ f. omega arith) (λ f. fresh e l (omega arith)) ∙ (h e l).1,
      )

      new : (get_or (both list p x q y) (start + (2 * d + 1)) 0 ≡ 2 * vertex d) × (get_or (both list p x q y) (start + 2 * vertex d) 0 ≡ 2 * d + 1)
      new = (rw (← at_p) (first_is list p x q y (omega arith) (λ g. omega arith) ∙ is_x), rw (← at-q) (second_is list p x q y (omega arith) ∙ is_y))

  pub kept_all : Kept M start before list → Kept M start before (set (set list p x) q y)
  kept_all h = record { long = both_long list p x q y ∙ h.long; rest = λ k w. rest k w }
    where
      rest : (k : ℕ) → (k < start) ⊎ (start + 2 * M ≤ k) → get_or (both list p x q y) k 0 ≡ get_or before k 0
      rest k (inl l) = other_is list p x q y k (λ f. omega arith) (λ f. omega arith) ∙ h.rest k (inl l)
      rest k (inr l) = other_is list p x q y k (λ f. omega arith) (λ f. omega arith) ∙ h.rest k (inr l)
