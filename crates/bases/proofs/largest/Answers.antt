-- `bases::largest` meets its contract. Assumes nothing.
use mathlib.Core.Path.{◌≡◌}
use mathlib.Core.List.{List, [], ◌∷◌}
use Prim.Native.Nat.{ℕ, suc, zero, max, ◌≤◌, ◌<◌}
use native.Mathlib.Omega.{arith}
use lib.ListN.{length, get_or}
use borrow.Author.Rules.{rules}
use Rattle.std.specs.List.{fold}
use Rattle.bases.proofs.largest.Goals as goal

-- the largest of a number and a list is no less than either
below_largest : (xs : List ℕ) (a : ℕ) → a ≤ fold max a xs
below_largest [] a = omega arith
below_largest (x ∷ xs) a = omega (arith, below_largest xs (max a x))

entry_below : (xs : List ℕ) (a k : ℕ) → k < length xs → get_or xs k 0 ≤ fold max a xs
entry_below [] a k l = omega arith
entry_below (x ∷ xs) a zero l = omega (arith, below_largest xs (max a x))
entry_below (x ∷ xs) a (suc k) l = entry_below xs (max a x) k (omega arith)

pub returns : goal.returns
returns c = let e : c.fold.result ≡ fold max 0 c.args.table.now = search rules in record { largest = e; above = rw e (entry_below c.args.table.now 0) }
