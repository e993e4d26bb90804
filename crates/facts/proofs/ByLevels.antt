-- In an accepted pyramid a reading by levels is the direct reading: the same neighbour, with the same count. Assumes nothing.
use mathlib.Core.Path.{◌≡◌, sym, ap, ◌∙◌}
use mathlib.Core.Bool.{true, ◌&&◌}
use Prim.Native.Nat.{ℕ, zero, suc, ◌+◌, ◌*◌, ◌≤◌, ◌<◌}
use native.Mathlib.Omega.{arith}
use lib.Dec.{eqb}
use borrow.Author.Tests.{lt-ltb, eq-eqb, eqb-true}
use Rattle.maps.specs.Map.{Involutions}
use Rattle.maps.specs.Mark.{between}
use Rattle.maps.specs.Folded.{On, gone}
use Rattle.maps.specs.Pyramid.{Pyramid}
use Rattle.maps.specs.Walk.{Walked, ended, walk}
use Rattle.maps.specs.ByLevels.{read_base, over_level, read_level, by_levels}
use Rattle.laws.proofs.Counting.{count_le}
use Rattle.laws.proofs.Marks.{mark_rows, same_mark}
use Rattle.laws.proofs.MarkRows.{allowed_small}
use Rattle.facts.proofs.Levels.{low, high}
use Rattle.facts.proofs.Towers.{floor, gone_kernel}
use Rattle.facts.proofs.TowerFacts.{Rounds, stop, pass, ByLevels}
use Rattle.facts.proofs.Readings.{own, walk_course}

module _ (a : Involutions) (n N h : ℕ) (Λ Δ : ℕ → ℕ) (y : Pyramid a n N h Λ Δ) where
  -- a reading in the tower: of row t of dart d on level l, past p darts, to e
  abbrev Reading : ℕ → ℕ → ℕ → ℕ → ℕ → Type 0
  Reading = ByLevels a n N Λ (low Δ) (high Δ)

  -- `read`, from as many entries read as are given, answers so
  abbrev Answers : ℕ → ℕ → ℕ → (ℕ → Walked) → Type 0
  Answers p t e read = (c : ℕ) → c + suc p ≤ 1 + 2 * N → read c ≡ ended t e (c + suc p)

  -- the question is involution i of dart b
  module _ (i b : ℕ) where
    abbrev read : ℕ → ℕ → ℕ → ℕ → Walked
    read = read_level a n N h Λ Δ i b

    -- every reading on level l that is short enough is answered, and ends at a dart
    abbrev Answered : ℕ → Type 0
    Answered l = (p t d e : ℕ) → t ≤ n → d < N → p < 1 + 2 * N → Reading l p t d e → (e < N) × Answers p t e (read l t d)

    answered_base : Answered zero
    unfolding read_level read_base
    answered_base p t d e lt ld f r =
        let le : a t d < N = y.base.inside t d lt ld in
        rw (r.0, r.1) (le, λ c m. let s : suc c ≡ c + 1 = omega arith in rw (lt-ltb c (1 + 2 * N) (omega arith), lt-ltb (a t d) N le, y.allowed (a t d) le, s, read_base))

    -- the walk over level l: it goes on no more often than it passes darts
    module _ (l : ℕ) (k : l < h) (below : Answered l) (t : ℕ) (lt : t ≤ n) where
      answered_rounds : (times p d e : ℕ) → p < times → d < N → p < 1 + 2 * N → Rounds a n N Λ (low Δ) (high Δ) (Reading l) l t p d e → (e < N) × Answers p t e (over_level a n N h Λ Δ i b (read l) l times t d)
      unfolding over_level
      answered_rounds zero p d e m ld f x = absurd (omega arith)
      answered_rounds (suc times) p d e m ld f (stop r q) = let w = below p t d e lt ld f r in (w.0, λ c z. rw (w.1 c z, q, over_level))
      answered_rounds (suc times) p d e m ld f (pass {p₁} {p₂} {p₃} {e₁ = e₁} {e₂ = e₂} r₁ k₁ dim₁ r₂ k₂ dim₂ via₂ x) =
          let w₁ = below p₁ t d e₁ lt ld (omega arith) r₁ in
          let l₁ = eqb-true (Λ e₁) l k₁ in
          let ls : high Δ e₁ ≤ n = (mark_rows n (Δ e₁) (allowed_small n h Λ Δ e₁ (y.allowed e₁ w₁.0) (omega arith))).second in
          let w₂ = below p₂ (high Δ e₁) e₁ e₂ ls w₁.0 (omega arith) r₂ in
          let w₃ = answered_rounds times p₃ e₂ e (omega arith) w₂.0 (omega arith) x in
          let q₁ : (eqb (Λ e₁) l && eqb (between (Δ e₁)).0 t) ≡ true = rw (k₁, eq-eqb (between (Δ e₁)).0 t dim₁) in
          let q₂ : (eqb (Λ e₂) l && eqb (Δ e₂) (Δ e₁)) ≡ true = rw (k₂, eq-eqb (Δ e₂) (Δ e₁) (same_mark (Δ e₂) (Δ e₁) dim₂ via₂)) in (
            w₃.0,
            λ c z.
                let c₁ = c + suc p₁ in
                let c₂ = c₁ + suc p₂ in
                let u : c₂ + suc p₃ ≡ c + suc (p₁ + suc (p₂ + suc p₃)) = omega arith in
                rw (w₁.1 c (omega arith), gone_kernel Λ l e₁ k₁, q₁, w₂.1 c₁ (omega arith), q₂, ← u, over_level) (w₃.1 c₂ (omega arith)),
          )

    answered : (l : ℕ) → l ≤ h → Answered l
    unfolding read_level
    answered zero k p t d e lt ld f x = answered_base p t d e lt ld f x
    answered (suc l) k p t d e lt ld f x = answered_rounds l k (answered l (omega arith)) t lt (1 + 2 * N) p d e f ld f x

  pub by_levels_lem : (l : ℕ) → l ≤ h → (i b : ℕ) → i ≤ n → On N Λ l b → by_levels a n N h Λ Δ i b l ≡ walk a n N h Λ Δ l i b
  unfolding by_levels
  by_levels_lem l k i b li o =
      let w = (own a n N h Λ Δ y l k).course i b li o in
      let e = floor a (low Δ) (high Δ) N Λ l i b in
      let f : w.passes < 1 + 2 * N = omega (arith, (own a n N h Λ Δ y l k).few i b li o, count_le (gone Λ l) N) in
      let z : 0 + suc w.passes ≡ suc w.passes = omega arith in
      (answered i b l k w.passes i b e li o.0 f w.alike).1 0 (omega arith) ∙ ap (ended i e) z ∙ sym (walk_course a n N h Λ Δ y l k i b li o)

  -- a reading by levels that is short enough is the direct walk
  pub reading_walk : (l : ℕ) → l ≤ h → (p t d e : ℕ) → t ≤ n → On N Λ l d → p < 1 + 2 * N → ByLevels a n N Λ (low Δ) (high Δ) l p t d e → walk a n N h Λ Δ l t d ≡ ended t e (suc p)
  unfolding by_levels
  reading_walk l k p t d e lt o f r =
      let z : 0 + suc p ≡ suc p = omega arith in
      sym (by_levels_lem l k t d lt o) ∙ (answered t d l k p t d e lt o.0 f r).1 0 (omega arith) ∙ ap (ended t e) z
