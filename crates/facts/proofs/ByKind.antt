-- Kernels by kind and dimension, with no byte for the two, for every n: walks can pass them. Assumes nothing.
use mathlib.Core.Path.{◌≡◌, refl, sym}
use mathlib.Core.Logic.{inl, inr}
use mathlib.Core.Bool.{Bool, true, false}
use Prim.Native.Nat.{ℕ, ◌+◌, ◌-◌, ◌≤◌, ◌<◌}
use native.Mathlib.Omega.{arith}
use lib.Dec.{eqb}
use borrow.Author.Tests.{eqb-true, eqb-false}
use Rattle.maps.specs.Map.{Involutions, Valid}
use Rattle.maps.specs.Cell.{itself}
use Rattle.maps.specs.Kernel.{Removable, Contractible}
use Rattle.laws.proofs.Marks.{onto, InRange, rows_in, Far}
use Rattle.facts.proofs.Removals.{Passing, crosses}

-- Dart d is in the kernel where `taken d` holds, contracted or removed, with dimension `δ d`. Whole cells, removable or contractible.
pub record KernelOf (a : Involutions) (n : ℕ) (present : ℕ → Type 0) (taken contracted : ℕ → Bool) (δ : ℕ → ℕ) : Type 0 where
  pub range : (d : ℕ) → present d → taken d ≡ true → InRange n (contracted d) (δ d)
  pub whole : (d j : ℕ) → present d → taken d ≡ true → j ≤ n → (j ≡ δ d → ⊥) → (taken (a j d) ≡ true) × (contracted (a j d) ≡ contracted d) × (δ (a j d) ≡ δ d)
  pub removable : (d : ℕ) → present d → taken d ≡ true → contracted d ≡ false → Removable a n (δ d) d
  pub contractible : (d : ℕ) → present d → taken d ≡ true → contracted d ≡ true → Contractible a n (δ d) d

module _ (a : Involutions) (n : ℕ) (present : ℕ → Type 0) (v : Valid a n present) (taken contracted : ℕ → Bool) (δ : ℕ → ℕ) (k : KernelOf a n present taken contracted δ) where
  -- the one law that a removable or contractible cell's rows commute: a row far from δ is far from the other row too, or is the row beyond it
  commutes : (d j : ℕ) → present d → taken d ≡ true → j ≤ n → Far (δ d) j → (x : Bool) → contracted d ≡ x → a (onto x (δ d)) (a j d) ≡ a j (a (onto x (δ d)) d)
  commutes d j p q lj f false e = go (eqb j (δ d + 2)) refl f (rw e at (k.range d p q))
    where
      go : (y : Bool) → eqb j (δ d + 2) ≡ y → Far (δ d) j → δ d < n → a (δ d + 1) (a j d) ≡ a j (a (δ d + 1) d)
      go true r g l = let s = eqb-true j (δ d + 2) r in rw s (sym (k.removable d p q e (omega arith) d itself))
      go false r (inl g) l = let ne = eqb-false j (δ d + 2) r in crosses a n present v (δ d + 1) j d (inl (omega arith)) (omega arith) lj p
      go false r (inr g) l = crosses a n present v (δ d + 1) j d (inr (omega arith)) (omega arith) lj p
  commutes d j p q lj f true e = go (eqb (j + 2) (δ d)) refl f (rw e at (k.range d p q))
    where
      go : (y : Bool) → eqb (j + 2) (δ d) ≡ y → Far (δ d) j → (1 ≤ δ d) × (δ d ≤ n) → a (δ d - 1) (a j d) ≡ a j (a (δ d - 1) d)
      go true r g l =
          let s = eqb-true (j + 2) (δ d) r in
          let z : j ≡ δ d - 2 = omega arith in
          rw z (sym (k.contractible d p q e (omega arith) d itself))
      go false r (inl g) l = crosses a n present v (δ d - 1) j d (inl (omega arith)) (omega arith) lj p
      go false r (inr g) l = let ne = eqb-false (j + 2) (δ d) r in crosses a n present v (δ d - 1) j d (inr (omega arith)) (omega arith) lj p

  pub passing_of : Passing a n present δ (λ d. onto (contracted d) (δ d)) taken
  passing_of = record {
    low = λ d p q. (rows_in n (contracted d) (δ d) (k.range d p q)).0;
    high = λ d p q. (rows_in n (contracted d) (δ d) (k.range d p q)).1;
    two = λ d p q. (rows_in n (contracted d) (δ d) (k.range d p q)).2;
    whole = λ d j p q lj ne.
        let w = k.whole d j p q lj (λ e. ne (sym e)) in
        (w.0, w.2, rw (w.1, w.2));
    pass = λ d j p q lj f. commutes d j p q lj f (contracted d) refl;
  }
