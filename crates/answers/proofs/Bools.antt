-- Laws of tests. Assumes nothing.
use mathlib.Core.Path.{◌≡◌, refl, sym, ◌∙◌}
use mathlib.Core.Bool.{Bool, true, false, ◌||◌, true≢false}
use Prim.Native.Nat.{ℕ, ◌+◌, ◌-◌, ◌≤◌}
use native.Mathlib.Omega.{arith}
use lib.Dec.{ltb}
use borrow.Author.Tests.{ltb-true, ltb-false, lt-ltb, le-ltb}

pub neither : (x y : Bool) → (x || y) ≡ false → (x ≡ false) × (y ≡ false)
neither true y e = absurd (true≢false e)
neither false y e = (refl, e)

-- a number taken from one side or added to the other
pub ltb_more : (k x y : ℕ) → k ≤ y → ltb x (y - k) ≡ ltb (x + k) y
ltb_more k x y l = go (ltb (x + k) y) refl
  where
    go : (b : Bool) → ltb (x + k) y ≡ b → ltb x (y - k) ≡ ltb (x + k) y
    go true e = let f = ltb-true (x + k) y e in lt-ltb x (y - k) (omega arith) ∙ sym e
    go false e = let f = ltb-false (x + k) y e in le-ltb x (y - k) (omega arith) ∙ sym e
