-- Walks over what is left of a map are walks over the map. Assumes nothing.
use mathlib.Core.Path.{◌≡◌, refl, sym, ap, ◌∙◌}
use mathlib.Core.Bool.{Bool, true, false}
use Prim.Native.Nat.{ℕ, zero, suc, ◌+◌, ◌≤◌}
use native.Mathlib.Omega.{arith}
use Rattle.maps.specs.Map.{Involutions}
use Rattle.facts.proofs.Runs.{turn, Passable, Reaches, Run, front, Ground, turn_le}

-- a test that passes more darts
module _ (a : Involutions) (dim via : ℕ → ℕ) (less more : ℕ → Bool) (sub : (d : ℕ) → less d ≡ true → more d ≡ true) where
  pub widen : (p t d u e : ℕ) → Reaches a dim via less p t d u e → Reaches a dim via more p t d u e
  widen zero t d u e x = x
  widen (suc p) t d u e x = (sub (a t d) x.0, x.1, widen p (turn a dim via less (a t d) t) (a t d) u e x.2)

  -- a walk that is stopped at e goes on from there
  pub join : (p q t d u e s f : ℕ) → Reaches a dim via less p t d u e → more e ≡ true → Passable a dim via more e u → Run a dim via more q (turn a dim via more e u) e s f → Run a dim via more (p + suc q) t d s f
  join zero q t d u e s f x i c r =
      let k : zero + suc q ≡ suc q = omega arith in
      let c₁ : Passable a dim via more e t = rw x.0 at c in
      let r₁ : Run a dim via more q (turn a dim via more e t) e s f = rw x.0 at r in
      rw k (front a dim via more q t d s f e (sym x.1) i c₁ r₁)
  join (suc p) q t d u e s f x i c r =
      let k : suc p + suc q ≡ suc (p + suc q) = omega arith in
      let e₁ = a t d in
      rw k (front a dim via more (p + suc q) t d s f e₁ refl (sub e₁ x.0) x.1 (join p q (turn a dim via less e₁ t) e₁ u e s f x.2 i c r))

-- b is what is left of a when the darts of `less` are without; then those of `next` are taken without of b. A walk over b, each of whose steps is
-- a walk over a, is a walk over a that passes no fewer darts. (`more` is the two together.)
module _ (a b : Involutions) (dim via : ℕ → ℕ) (less next more : ℕ → Bool) (n : ℕ) (present : ℕ → Type 0)
    (g : Ground b dim via next n present)
    (sub : (d : ℕ) → less d ≡ true → more d ≡ true) (sub' : (d : ℕ) → next d ≡ true → more d ≡ true) (rest : (d : ℕ) → present d → next d ≡ false → more d ≡ false)
    (below : (t d : ℕ) → t ≤ n → present d → (p : ℕ) × Run a dim via less p t d t (b t d)) where
  pub string : (q t d u e : ℕ) → t ≤ n → present d → Run b dim via next q t d u e → (p : ℕ) × (q ≤ p) × Run a dim via more p t d u e
  string zero t d u e lt hd r =
      let w = below t d lt hd in
      let x : Reaches a dim via more w.0 t d t (b t d) = widen a dim via less more sub w.0 t d t (b t d) w.1.0 in
      (w.0, omega arith, rw (r.0.0, r.0.1) (x, rest (b t d) (g.inside t d lt hd) (ap next (sym r.0.1) ∙ r.1)))
  string (suc q) t d u e lt hd r =
      let w = below t d lt hd in
      let e₁ = b t d in
      let h₁ : present e₁ = g.inside t d lt hd in
      let v = string q (turn b dim via next e₁ t) e₁ u e (turn_le b dim via next n present g e₁ t h₁ r.0.0 r.0.1) h₁ (r.0.2, r.1) in
      (w.0 + suc v.0, omega (arith, v.1), join a dim via less more sub w.0 v.0 t d t e₁ u e w.1.0 (sub' e₁ r.0.0) r.0.1 v.2)
