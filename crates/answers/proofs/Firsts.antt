-- Laws of the first place that `position` finds: what it says of a scan over all places. Assumes nothing.
use mathlib.Core.Path.{◌≡◌, refl}
use mathlib.Core.Bool.{Bool, true, false, cond}
use mathlib.Core.List.{List}
use Prim.Native.Nat.{ℕ, ◌<◌}
use native.Mathlib.Omega.{arith}
use lib.Dec.{ltb}
use lib.ListN.{length, get_or}
use borrow.Author.Rules.{rules}
use borrow.Author.Tests.{ltb-false}
use Rattle.std.specs.Prelude.{Some, None, position}
use Rattle.std.specs.List.{position_or_len}
use Rattle.std.proofs.lemmas.List.Quantifiers.{position-Some}
use Rattle.std.proofs.lemmas.List.Sums.{fails_before_first}
use Rattle.maps.specs.Verdict.{Verdict, accepted, refused, scan}
use Rattle.laws.proofs.Verdicts.{scan_all, scan_first}

no_first : {A : Type 0} (b : Bool) (x : A) → cond b (Some x) None ≡ None → b ≡ false
no_first false x e = refl
no_first true x e = absurd (search rules)

module _ {X : Type 0} (p : X → Bool) (xs : List X) (d : X) (at : ℕ → Verdict) (fine : (x : ℕ) → x < length xs → p (get_or xs x d) ≡ false → at x ≡ accepted) where
  -- the place found is the one reported
  pub scan_found : (i k l j e : ℕ) → position p xs ≡ Some i → (p (get_or xs i d) ≡ true → at i ≡ refused k l j e) → scan (length xs) at ≡ refused k l j e
  scan_found i k l j e found due =
      let f = position-Some p xs i d found in
      scan_first (length xs) at i k l j e f.0 (scan_all i at (λ x h. fine x (omega (arith, f.0)) (f.2 x h))) (due f.1)

  -- where none is found, all are accepted
  pub scan_none : position p xs ≡ None → scan (length xs) at ≡ accepted
  scan_none none = scan_all (length xs) at (λ x h. fine x h (fails_before_first p xs x d (omega (arith, ltb-false _ _ (no_first (ltb (position_or_len p xs) (length xs)) _ none)))))
