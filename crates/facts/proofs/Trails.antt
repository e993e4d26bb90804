-- The darts that a walk passes, forwards and back, and the largest level among them, for any two rows by which a dart is passed. Assumes nothing.
use mathlib.Core.Path.{◌≡◌, refl, ap, ◌∙◌}
use mathlib.Core.Bool.{Bool}
use mathlib.Core.List.{List, [], ◌∷◌, reverse, reverse_aux}
use Prim.Native.Nat.{ℕ, zero, suc, ◌+◌, ◌≤◌, ◌<◌, max}
use native.Mathlib.Nat.{add-zero}
use native.Mathlib.Omega.{arith}
use lib.ListN.{length}
use borrow.Author.Tests.{ltb-true, lt-ltb}
use Rattle.maps.specs.Map.{Involutions}
use Rattle.maps.specs.Folded.{gone}
use Rattle.facts.proofs.Runs.{turn, Reaches, Ground, turn_le, turn_back}
use Rattle.maps.specs.Trail.{since_of}

module _ (a : Involutions) (dim via : ℕ → ℕ) (removed : ℕ → Bool) where
  -- the darts passed, in their order, by a walk that begins with row t of dart d and passes p
  unfoldable pub darts : ℕ → ℕ → ℕ → List ℕ
  darts zero t d = []
  darts (suc p) t d = a t d ∷ darts p (turn a dim via removed (a t d) t) (a t d)

  -- they are p
  pub length_darts : (p t d : ℕ) → length (darts p t d) ≡ p
  unfolding darts
  length_darts zero t d = refl
  length_darts (suc p) t d = ap suc (length_darts p (turn a dim via removed (a t d) t) (a t d))

  module _ (n : ℕ) (present : ℕ → Type 0) (g : Ground a dim via removed n present) where
    -- a walk back, over q darts more
    darts_onto : (p q t d u e : ℕ) → t ≤ n → present d → Reaches a dim via removed p t d u e → darts (p + q) u e ≡ reverse_aux (darts p t d) (darts q t (a t d))
    unfolding darts
    darts_onto zero q t d u e l h x = let k : zero + q ≡ q = omega arith in rw (k, x.0, x.1)
    darts_onto (suc p) q t d u e l h x =
        let e₁ = a t d in
        let t₁ = turn a dim via removed e₁ t in
        let h₁ : present e₁ = g.inside t d l h in
        let l₁ : t₁ ≤ n = turn_le a dim via removed n present g e₁ t h₁ x.0 x.1 in
        let k : suc p + q ≡ p + suc q = omega arith in
        let i : a t₁ (a t₁ e₁) ≡ e₁ = g.twice t₁ e₁ l₁ h₁ in
        let o : turn a dim via removed e₁ t₁ ≡ t = (turn_back a dim via removed e₁ t x.1).1 in
        let z : darts (suc q) t₁ (a t₁ e₁) ≡ e₁ ∷ darts q t e₁ = rw (i, o) in
        rw k (darts_onto p (suc q) t₁ e₁ u e l₁ h₁ x.2 ∙ ap (reverse_aux (darts p t₁ e₁)) z)

    -- the walk back passes the same darts in the reverse order
    pub darts_back : (p t d u e : ℕ) → t ≤ n → present d → Reaches a dim via removed p t d u e → darts p u e ≡ reverse (darts p t d)
    unfolding darts
    darts_back p t d u e l h x = rw add-zero at (darts_onto p zero t d u e l h x)

-- the largest of a list put in front of another
since_onto : (Λ : ℕ → ℕ) (l r : List ℕ) → since_of Λ (reverse_aux l r) ≡ max (since_of Λ l) (since_of Λ r)
unfolding since_of
since_onto Λ [] r = omega arith
since_onto Λ (x ∷ l) r = omega (arith, since_onto Λ l (x ∷ r))

-- the order of the darts doesn't matter
pub since_reverse : (Λ : ℕ → ℕ) (l : List ℕ) → since_of Λ (reverse l) ≡ since_of Λ l
unfolding since_of
since_reverse Λ l = omega (arith, since_onto Λ l [])

-- walks over the darts gone on level l, and on level m
module _ (a : Involutions) (dim via Λ : ℕ → ℕ) (l m : ℕ) where
  -- a walk of level l that passes only darts gone on level m is a walk of level m
  pub thin : (p t d u e : ℕ) → Reaches a dim via (gone Λ l) p t d u e → since_of Λ (darts a dim via (gone Λ l) p t d) ≤ m → Reaches a dim via (gone Λ m) p t d u e
  unfolding since_of darts
  thin zero t d u e x h = x
  thin (suc p) t d u e x h = (lt-ltb (Λ (a t d)) m (omega arith), x.1, thin p (turn a dim via (gone Λ l) (a t d) t) (a t d) u e x.2 (omega arith))

  -- a walk of a lower level m is a walk of level l, and all that it passes is gone on level m
  pub thick : (p t d u e : ℕ) → m ≤ l → Reaches a dim via (gone Λ m) p t d u e → Reaches a dim via (gone Λ l) p t d u e × (since_of Λ (darts a dim via (gone Λ l) p t d) ≤ m)
  unfolding since_of darts
  thick zero t d u e k x = (x, omega arith)
  thick (suc p) t d u e k x =
      let r = thick p (turn a dim via (gone Λ l) (a t d) t) (a t d) u e k x.2 in
      let q : Λ (a t d) < m = ltb-true (Λ (a t d)) m x.0 in
      ((lt-ltb (Λ (a t d)) l (omega arith), x.1, r.0), omega (arith, r.1))
