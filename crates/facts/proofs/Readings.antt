-- The direct walk in an accepted pyramid: it ends at the level's neighbour, by the row it began with, and is short. Assumes nothing.
use mathlib.Core.Path.{◌≡◌, sym, ap, ◌∙◌}
use mathlib.Core.Logic.{◌⊎◌, inl, inr}
use mathlib.Core.Bool.{true, false, or-true}
use Prim.Native.Nat.{ℕ, zero, suc, ◌+◌, ◌*◌, ◌≤◌, ◌<◌}
use native.Mathlib.Omega.{arith}
use lib.Dec.{eqb}
use borrow.Author.Tests.{lt-ltb, eq-eqb}
use Rattle.maps.specs.Map.{Involutions}
use Rattle.maps.specs.Mark.{can_pass, across}
use Rattle.maps.specs.Folded.{On, gone, refused_marks, removed_below}
use Rattle.maps.specs.Walk.{ended, walk_from, walk}
use Rattle.maps.specs.Pyramid.{Pyramid}
use Rattle.laws.proofs.Counting.{count_le}
use Rattle.facts.proofs.Runs.{swap, Run, Ground, turn_le}
use Rattle.facts.proofs.Levels.{low, high, level_at, pyramid_tower, level_floor}
use Rattle.facts.proofs.Towers.{floor, tower_ground}
use Rattle.facts.proofs.TowerFacts.{FactsOf, tower_facts}

pub can_pass_lem : (Δ : ℕ → ℕ) (d t : ℕ) → (t ≡ low Δ d) ⊎ (t ≡ high Δ d) → can_pass (Δ d) t ≡ true
can_pass_lem Δ d t (inl e) = rw (eq-eqb t (low Δ d) e)
can_pass_lem Δ d t (inr e) = rw (eq-eqb t (high Δ d) e) (or-true (eqb t (low Δ d)))

-- a run over tables whose marks are allowed is a walk
module _ (a : Involutions) (n N h : ℕ) (Λ Δ : ℕ → ℕ) (l i b : ℕ) (g : Ground a (low Δ) (high Δ) (gone Λ l) n (λ d. d < N))
    (allowed : (d : ℕ) → d < N → refused_marks n h (Λ d) (Δ d) ≡ false) where
  pub run_walk : (p k t d u e c : ℕ) → p < k → t ≤ n → d < N → Run a (low Δ) (high Δ) (gone Λ l) p t d u e → walk_from a n N h Λ Δ l i b k t d c ≡ ended u e (c + suc p)
  unfolding walk_from swap
  run_walk p zero t d u e c f lt ld r = absurd (omega arith)
  run_walk zero (suc k) t d u e c f lt ld r =
      let le : a t d < N = g.inside t d lt ld in
      let q : gone Λ l (a t d) ≡ false = ap (gone Λ l) (sym r.0.1) ∙ r.1 in
      let s : suc c ≡ c + 1 = omega arith in
      rw (lt-ltb (a t d) N le, allowed (a t d) le, q, ← r.0.1, ← r.0.0, s, walk_from)
  run_walk (suc p) (suc k) t d u e c f lt ld r =
      let e₁ = a t d in
      let le : e₁ < N = g.inside t d lt ld in
      let s : suc c + suc p ≡ c + suc (suc p) = omega arith in
      rw (lt-ltb e₁ N le, allowed e₁ le, r.0.0, can_pass_lem Δ e₁ t r.0.1, ← s, walk_from)
      (run_walk p k (across (Δ e₁) t) e₁ u e (suc c) (omega arith) (turn_le a (low Δ) (high Δ) (gone Λ l) n (λ x. x < N) g e₁ t le r.0.0 r.0.1) le (r.0.2, r.1))

module _ (a : Involutions) (n N h : ℕ) (Λ Δ : ℕ → ℕ) (y : Pyramid a n N h Λ Δ) where
  -- the base is ground for the direct walks of level l
  pub base_ground : (l : ℕ) → l ≤ h → Ground a (low Δ) (high Δ) (gone Λ l) n (λ d. d < N)
  base_ground = tower_ground a n N h Λ (low Δ) (high Δ) (pyramid_tower a n N h Λ Δ y)

  -- the facts of its tower
  abbrev pub own : (l : ℕ) → l ≤ h → FactsOf a n N Λ (low Δ) (high Δ) l
  own = tower_facts a n N Λ (low Δ) (high Δ) h (pyramid_tower a n N h Λ Δ y)

  -- the walk of dart b of level l by involution i: the darts that it passes, and that it is short
  pub record Walks (l i b : ℕ) : Type 0 where
    pub passes : ℕ
    pub run : Run a (low Δ) (high Δ) (gone Λ l) passes i b i (level_at a n N h Λ Δ y l i b)
    pub few : passes ≤ 2 * removed_below N Λ l
    pub reads : walk a n N h Λ Δ l i b ≡ ended i (level_at a n N h Λ Δ y l i b) (suc passes)

  module _ (l : ℕ) (k : l ≤ h) (i b : ℕ) (li : i ≤ n) (o : On N Λ l b) where
    -- the direct walk runs the tower's course
    pub walk_course : walk a n N h Λ Δ l i b ≡ ended i (floor a (low Δ) (high Δ) N Λ l i b) (suc ((own l k).course i b li o).passes)
    unfolding walk
    walk_course =
        let w = (own l k).course i b li o in
        let e = floor a (low Δ) (high Δ) N Λ l i b in
        let f : w.passes < 1 + 2 * N = omega (arith, (own l k).few i b li o, count_le (gone Λ l) N) in
        let z : 0 + suc w.passes ≡ suc w.passes = omega arith in
        run_walk a n N h Λ Δ l i b (base_ground l k) y.allowed w.passes (1 + 2 * N) i b i e 0 f li o.0 w.run ∙ ap (ended i e) z

    pub walks : Walks l i b
    walks =
        let w = (own l k).course i b li o in
        let e = level_floor a n N h Λ Δ y l k i b li o in
        record { passes = w.passes; run = rw e w.run; few = (own l k).few i b li o; reads = rw e walk_course }
