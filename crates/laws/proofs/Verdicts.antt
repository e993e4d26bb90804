-- Laws of verdicts: when all of several are accepted, and which refusal is the first. Assumes nothing.
use mathlib.Core.Path.{◌≡◌, refl, sym, ap, ◌∙◌}
use mathlib.Core.Bool.{Bool, true, false, ◌&&◌, true≢false}
use Prim.Native.Nat.{ℕ, zero, suc, ◌+◌, ◌<◌}
use native.Mathlib.Numerals.{add-one}
use native.Mathlib.Omega.{arith}
use lib.Dec.{eqb}
use borrow.Author.Tests.{eqb-true, eqb-false}
use Rattle.maps.specs.Verdict.{Verdict, accepted, refused, when, ◌then◌, scan}

pub not_refused : {number level involution dart : ℕ} → refused number level involution dart ≡ accepted → ⊥
not_refused e = let z : ◌≡◌ {A = ℕ} 0 1 = cc in omega arith

pub then_accepted : (v w : Verdict) → v then w ≡ accepted → (v ≡ accepted) × (w ≡ accepted)
then_accepted accepted w e = (refl, e)
then_accepted (refused k l i d) w e = absurd (not_refused e)

pub when_accepted : (t : Bool) (k l i d : ℕ) → when t (refused k l i d) ≡ accepted → t ≡ false
when_accepted true k l i d e = absurd (not_refused e)
when_accepted false k l i d e = refl

-- all of v 0 to v (m − 1) are accepted
pub scan_accepted : (m : ℕ) (v : ℕ → Verdict) → scan m v ≡ accepted → (x : ℕ) → x < m → v x ≡ accepted
unfolding scan
scan_accepted zero v e x l = absurd (omega arith)
scan_accepted (suc m) v e x l =
    let r = then_accepted (scan m v) (v m) e in
    go (eqb x m) refl r.1 (λ k. scan_accepted m v r.0 x k)
  where
    go : (b : Bool) → eqb x m ≡ b → v m ≡ accepted → (x < m → v x ≡ accepted) → v x ≡ accepted
    go true q f ih = ap v (eqb-true x m q) ∙ f
    go false q f ih = let ne : x ≡ m → ⊥ = eqb-false x m q in ih (omega arith)

pub scan_all : (m : ℕ) (v : ℕ → Verdict) → ((x : ℕ) → x < m → v x ≡ accepted) → scan m v ≡ accepted
unfolding scan
scan_all zero v h = refl
scan_all (suc m) v h = rw (scan_all m v (λ x l. h x (omega arith)), h m (omega arith))

-- where all before x are accepted and x is refused, that refusal is the first
pub scan_first : (m : ℕ) (v : ℕ → Verdict) (x k l i d : ℕ) → x < m → scan x v ≡ accepted → v x ≡ refused k l i d → scan m v ≡ refused k l i d
unfolding scan
scan_first zero v x k l i d f e r = absurd (omega arith)
scan_first (suc m) v x k l i d f e r = go (eqb x m) refl (λ z. scan_first m v x k l i d z e r)
  where
    go : (b : Bool) → eqb x m ≡ b → (x < m → scan m v ≡ refused k l i d) → scan (suc m) v ≡ refused k l i d
    go true q ih = rw (← (eqb-true x m q), e) r
    go false q ih = let ne : x ≡ m → ⊥ = eqb-false x m q in rw (ih (omega arith))

-- one place more that is accepted
pub scan_more : (v : ℕ → Verdict) (x : ℕ) → scan x v ≡ accepted → v x ≡ accepted → scan (x + 1) v ≡ accepted
unfolding scan
scan_more v x e f = rw (add-one, e) f

-- two verdicts alike at each place
pub scan_same : (m : ℕ) (v w : ℕ → Verdict) → ((x : ℕ) → x < m → v x ≡ w x) → scan m v ≡ scan m w
unfolding scan
scan_same zero v w h = refl
scan_same (suc m) v w h = rw (scan_same m v w (λ x l. h x (omega arith)), h m (omega arith))

-- tests in their order, the first three as one
pub then_three : (u v w x : Verdict) → u then (v then (w then x)) ≡ ((u then v) then w) then x
then_three accepted accepted w x = refl
then_three accepted (refused k l i d) w x = refl
then_three (refused k l i d) v w x = refl

pub then_two : (u v w : Verdict) → u then (v then w) ≡ (u then v) then w
then_two accepted v w = refl
then_two (refused k l i d) v w = refl

pub and_rest : (x y : Bool) → x ≡ true → (x && y) ≡ false → y ≡ false
and_rest true y p q = q
and_rest false y p q = absurd (true≢false (sym p))

pub and_both : (x y : Bool) → (x && y) ≡ true → (x ≡ true) × (y ≡ true)
and_both true y q = (refl, q)
and_both false y q = absurd (true≢false (sym q))

-- a conjunction fails where its second part does, if the first holds
pub and_false : (x y : Bool) → (x ≡ true → y ≡ false) → (x && y) ≡ false
and_false true y h = h refl
and_false false y h = refl
