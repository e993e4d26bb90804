-- Whether a level has two kernels from it on. Assumes nothing.
use mathlib.Core.Path.{◌≡◌, refl, sym, ◌∙◌}
use mathlib.Core.Bool.{Bool, true, false}
use Prim.Native.Nat.{ℕ, suc, ◌-◌, ◌<◌}
use native.Mathlib.Omega.{arith}
use lib.Dec.{eqb, leb}
use borrow.Author.Tests.{eqb-true, eqb-false, le-leb, lt-leb}

-- below h there is one kernel alone where the height is the next level
pub one_alone : (h l : ℕ) → l < h → eqb (h - l) 1 ≡ leb h (suc l)
one_alone h l below = go (eqb (h - l) 1) refl
  where
    go : (x : Bool) → eqb (h - l) 1 ≡ x → eqb (h - l) 1 ≡ leb h (suc l)
    go true e = let is = eqb-true (h - l) 1 e in e ∙ sym (le-leb h (suc l) (omega arith))
    go false e = let not = eqb-false (h - l) 1 e in e ∙ sym (lt-leb h (suc l) (omega arith))
