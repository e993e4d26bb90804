-- Even and odd numbers. Assumes nothing.
use mathlib.Core.Path.{◌≡◌, refl, ap, ◌∙◌}
use mathlib.Core.Logic.{◌⊎◌, inl, inr}
use mathlib.Core.Bool.{Bool, true, false}
use Prim.Native.Nat.{ℕ, ◌+◌, ◌*◌, ◌/◌, ◌%◌, ◌<◌}
use native.Mathlib.Nat.{mod-lt, div-add-mod'}
use native.Mathlib.Omega.{arith}
use lib.Arith.{digits_div, digits_mod}
use lib.Dec.{eqb}
use borrow.Author.Tests.{eqb-true, eqb-false}

pub even_mod : (d : ℕ) → 2 * d % 2 ≡ 0
even_mod d = let e : 2 * d ≡ d * 2 + 0 = omega arith in ap (λ (x : ℕ). x % 2) e ∙ digits_mod d (omega arith)

pub odd_mod : (d : ℕ) → (2 * d + 1) % 2 ≡ 1
odd_mod d = let e : 2 * d + 1 ≡ d * 2 + 1 = omega arith in ap (λ (x : ℕ). x % 2) e ∙ digits_mod d (omega arith)

pub even_half : (d : ℕ) → 2 * d / 2 ≡ d
even_half d = let e : 2 * d ≡ d * 2 + 0 = omega arith in ap (λ (x : ℕ). x / 2) e ∙ digits_div d (omega arith)

-- a number by its half
pub even_is : (x : ℕ) → x % 2 ≡ 0 → x ≡ 2 * (x / 2)
even_is x e = omega (arith, div-add-mod' x 2, e)

pub odd_is : (x : ℕ) → x % 2 ≡ 1 → x ≡ 2 * (x / 2) + 1
odd_is x e = omega (arith, div-add-mod' x 2, e)

-- a dart of a base is 2d or 2d+1
pub half : (M x : ℕ) → x < 2 * M → (d : ℕ) × (d < M) × ((x ≡ 2 * d) ⊎ (x ≡ 2 * d + 1))
half M x l = go (eqb (x % 2) 0) refl
  where
    go : (b : Bool) → eqb (x % 2) 0 ≡ b → (d : ℕ) × (d < M) × ((x ≡ 2 * d) ⊎ (x ≡ 2 * d + 1))
    go true q = let e = even_is x (eqb-true (x % 2) 0 q) in (x / 2, omega (arith, e), inl e)
    go false q =
        let ne : x % 2 ≡ 0 → ⊥ = eqb-false (x % 2) 0 q in
        let m : x % 2 < 2 = mod-lt x (omega arith) in
        let e = odd_is x (omega (arith, m)) in
        (x / 2, omega (arith, e), inr e)
