-- Where a reading ends, and one turn of the walk over a level: what is left of the walk after it is the walk of a dart further on. Assumes nothing.
use mathlib.Core.Path.{◌≡◌, refl, sym, ap, ◌∙◌}
use mathlib.Core.Bool.{Bool, true, false, cond, ◌&&◌}
use Prim.Native.Nat.{ℕ, zero, suc, ◌+◌, ◌-◌, ◌*◌, ◌≤◌, ◌<◌}
use native.Mathlib.Omega.{arith}
use lib.Dec.{eqb, ltb}
use borrow.Author.Tests.{ltb-true}
use Rattle.maps.specs.Map.{Involutions}
use Rattle.maps.specs.Mark.{between}
use Rattle.maps.specs.Folded.{gone, refused_marks}
use Rattle.maps.specs.Walk.{Walked, ended, stopped}
use Rattle.maps.specs.ByLevels.{read_base, over_level, read_level}
use Rattle.by_levels.specs.Ends.{entered}

-- what is stopped stays so, and else it goes on
abbrev pub onward : Walked → (ℕ → ℕ → ℕ → Walked) → Walked
onward (ended row dart count) go = go row dart count
onward (stopped number row dart) go = stopped number row dart

-- a pass of dart e on level l has reached dart d by row u, with k entries read: it must be in that kernel with the same mark, else 14
abbrev pub reached : (ℕ → ℕ) → (ℕ → ℕ) → ℕ → ℕ → ℕ → ℕ → ℕ → Walked
reached Λ Δ l e u d k = cond (eqb (Λ d) l && eqb (Δ d) (Δ e)) (ended u d k) (stopped 14 u d)

-- the part of a turn of `overLevel` that passes dart e, met by row t with c entries read, on level l, which `below` reads
abbrev pub passed : (ℕ → ℕ) → (ℕ → ℕ) → (ℕ → ℕ → ℕ → Walked) → ℕ → ℕ → ℕ → ℕ → Walked
passed Λ Δ below l t e c = cond (entered Λ Δ l t e) (onward (below (between (Δ e)).1 e c) (reached Λ Δ l e)) (stopped 14 t e)

-- Row t was read with c entries read before, and the reading ended by row u at dart e with c₁: by the row that it began with, at a dart
-- whose marks are not refused, with more entries read.
pub record Landed (n N h : ℕ) (Λ Δ : ℕ → ℕ) (t c u e c₁ : ℕ) : Type 0 where
  pub row : u ≡ t
  pub dart : e < N
  pub marks : refused_marks n h (Λ e) (Δ e) ≡ false
  pub more : c < c₁
  pub most : c₁ ≤ 1 + 2 * N

module _ (a : Involutions) (n N h : ℕ) (Λ Δ : ℕ → ℕ) (i b : ℕ) where
  -- how a reading of row t ended, with c entries read before
  abbrev pub Met : ℕ → ℕ → Walked → Type 0
  Met t c (ended u e c₁) = Landed n N h Λ Δ t c u e c₁
  Met t c (stopped number row dart) = Unit {0}

  either : (t c : ℕ) (x : Bool) (v w : Walked) → Met t c v → Met t c w → Met t c (cond x v w)
  either t c true v w m k = m
  either t c false v w m k = k

  -- what began with more entries read began with fewer as well
  sooner : (t c k : ℕ) → c < k → (w : Walked) → Met t k w → Met t c w
  sooner t c k x (stopped number row dart) m = tt
  sooner t c k x (ended u e k₁) m = record { row = m.row; dart = m.dart; marks = m.marks; more = omega (arith, m.more); most = m.most }

  -- what goes on from where a reading of row s landed
  onward_met : (s t c : ℕ) (w : Walked) (go : ℕ → ℕ → ℕ → Walked) → Met s c w → ((u e k : ℕ) → Landed n N h Λ Δ s c u e k → Met t c (go u e k)) → Met t c (onward w go)
  onward_met s t c (stopped number row dart) go m f = tt
  onward_met s t c (ended u e k) go m f = f u e k m

  onward_same : (s c : ℕ) (w : Walked) (f g : ℕ → ℕ → ℕ → Walked) → Met s c w → ((u e k : ℕ) → Landed n N h Λ Δ s c u e k → f u e k ≡ g u e k) → onward w f ≡ onward w g
  onward_same s c (stopped number row dart) f g m same = refl
  onward_same s c (ended u e k) f g m same = same u e k m

  base_met : (t d c : ℕ) → Met t c (read_base a n N h Λ Δ i b t d c)
  unfolding read_base
  base_met t d c = go (ltb c (1 + 2 * N)) refl (ltb (a t d) N) refl (refused_marks n h (Λ (a t d)) (Δ (a t d))) refl
    where
      go : (x : Bool) → ltb c (1 + 2 * N) ≡ x → (y : Bool) → ltb (a t d) N ≡ y → (z : Bool) → refused_marks n h (Λ (a t d)) (Δ (a t d)) ≡ z → Met t c (read_base a n N h Λ Δ i b t d c)
      go false p y q z r = rw (p, read_base) tt
      go true p false q z r = rw (p, q, read_base) tt
      go true p true q true r = rw (p, q, r, read_base) tt
      go true p true q false r = rw (p, q, r, read_base) (record { row = refl; dart = ltb-true (a t d) N q; marks = r; more = omega arith; most = omega (arith, ltb-true c (1 + 2 * N) p) })

  -- the walk over level l, which `below` reads
  module _ (below : ℕ → ℕ → ℕ → Walked) (met : (t d c : ℕ) → Met t c (below t d c)) (l : ℕ) where
    abbrev over : ℕ → ℕ → ℕ → ℕ → Walked
    over = over_level a n N h Λ Δ i b below l

    -- one turn, and then `go` from the dart behind the pass
    abbrev turn : (ℕ → ℕ → Walked) → ℕ → ℕ → ℕ → Walked
    turn go t d c = onward (below t d c) (λ u e k. cond (gone Λ (suc l) e) (onward (passed Λ Δ below l u e k) (λ u₂ e₂ k₂. go e₂ k₂)) (ended u e k))

    pub passed_met : (t e c : ℕ) → Met (between (Δ e)).1 c (passed Λ Δ below l t e c)
    passed_met t e c =
        let s = (between (Δ e)).1 in
        let second = onward_met s s c (below s e c) (reached Λ Δ l e) (met s e c) (λ u d k m. either s c (eqb (Λ d) l && eqb (Δ d) (Δ e)) (ended u d k) (stopped 14 u d) m tt) in
        either s c (eqb (Λ e) l && eqb (between (Δ e)).0 t) (onward (below s e c) (reached Λ Δ l e)) (stopped 14 t e) second tt

    -- the definition's turn is that turn, since a reading ends by the row that it began with
    over_turn : (times t d c : ℕ) → over (suc times) t d c ≡ turn (over times t) t d c
    unfolding over_level
    over_turn times t d c = first (below t d c) refl (met t d c)
      where
        second : (e k : ℕ) → below t d c ≡ ended t e k → (x : Bool) → gone Λ (suc l) e ≡ x → (y : Bool) → (eqb (Λ e) l && eqb (between (Δ e)).0 t) ≡ y → (w : Walked) → below (between (Δ e)).1 e k ≡ w → over (suc times) t d c ≡ turn (over times t) t d c
        second e k p false g y q w r = rw (p, g, over_level)
        second e k p true g false q w r = rw (p, g, q, over_level)
        second e k p true g true q (stopped number row dart) r = rw (p, g, q, r, over_level)
        second e k p true g true q (ended u₂ e₂ k₂) r = last (eqb (Λ e₂) l && eqb (Δ e₂) (Δ e)) refl
          where
            last : (z : Bool) → (eqb (Λ e₂) l && eqb (Δ e₂) (Δ e)) ≡ z → over (suc times) t d c ≡ turn (over times t) t d c
            last false f = rw (p, g, q, r, f, over_level)
            last true f = rw (p, g, q, r, f, over_level)

        first : (w : Walked) → below t d c ≡ w → Met t c w → over (suc times) t d c ≡ turn (over times t) t d c
        first (stopped number row dart) p m = rw (p, over_level)
        first (ended u e k) p m = second e k (p ∙ ap (λ (v : ℕ). ended v e k) m.row) (gone Λ (suc l) e) refl (eqb (Λ e) l && eqb (between (Δ e)).0 t) refl (below (between (Δ e)).1 e k) refl

    turn_met : (go : ℕ → ℕ → Walked) (t d c : ℕ) → ((e k : ℕ) → Met t k (go e k)) → Met t c (turn go t d c)
    turn_met go t d c f = onward_met t t c (below t d c) _ (met t d c) (λ u e k m. either t c (gone Λ (suc l) e) _ (ended u e k) (onward_met (between (Δ e)).1 t c (passed Λ Δ below l u e k) _ (sooner (between (Δ e)).1 c k m.more (passed Λ Δ below l u e k) (passed_met u e k)) (λ u₂ e₂ k₂ m₂. sooner t c k₂ m₂.more (go e₂ k₂) (f e₂ k₂))) m)

    over_met : (times t d c : ℕ) → Met t c (over times t d c)
    unfolding over_level
    over_met zero t d c = tt
    over_met (suc times) t d c = rw (over_turn times t d c) (turn_met (over times t) t d c (over_met times t))

    turn_same : (f g : ℕ → ℕ → Walked) (t d c : ℕ) → ((e k : ℕ) → c + 1 < k → k ≤ 1 + 2 * N → f e k ≡ g e k) → turn f t d c ≡ turn g t d c
    turn_same f g t d c same =
        onward_same t c (below t d c) _ _ (met t d c) (λ u e k m. ap (λ (w : Walked). cond (gone Λ (suc l) e) w (ended u e k)) (onward_same (between (Δ e)).1 k (passed Λ Δ below l u e k) _ _ (passed_met u e k) (λ u₂ e₂ k₂ m₂. same e₂ k₂ (omega (arith, m.more, m₂.more)) m₂.most)))

    -- each turn reads entries, so that any number of turns does that is more than the entries left
    enough : (x y t d c : ℕ) → 1 + 2 * N < x + c → 1 + 2 * N < y + c → c ≤ 1 + 2 * N → over x t d c ≡ over y t d c
    enough zero y t d c f g k = absurd (omega arith)
    enough (suc x) zero t d c f g k = absurd (omega arith)
    enough (suc x) (suc y) t d c f g k = over_turn x t d c ∙ turn_same (over x t) (over y t) t d c (λ e k₂ more most. enough x y t e k₂ (omega arith) (omega arith) most) ∙ sym (over_turn y t d c)

    -- as many as the definition gives do behind a turn too
    whole_turn : (t d c : ℕ) → over (1 + 2 * N) t d c ≡ turn (over (1 + 2 * N) t) t d c
    whole_turn t d c =
        let z : 1 + 2 * N ≡ suc (2 * N) = omega arith in
        ap (λ (times : ℕ). over times t d c) z ∙ over_turn (2 * N) t d c ∙ turn_same (over (2 * N) t) (over (1 + 2 * N) t) t d c (λ e k more most. enough (2 * N) (1 + 2 * N) t e k (omega arith) (omega arith) most)

  pub level_met : (l t d c : ℕ) → Met t c (read_level a n N h Λ Δ i b l t d c)
  unfolding read_level
  level_met zero t d c = base_met t d c
  level_met (suc l) t d c = over_met (read_level a n N h Λ Δ i b l) (level_met l) l (1 + 2 * N) t d c

  -- the rows of darts on level l
  abbrev reading : ℕ → ℕ → ℕ → ℕ → Walked
  reading l = read_level a n N h Λ Δ i b l

  -- what the walk over level k, to level l by row t, does from where a reading ended
  abbrev pub rest : ℕ → ℕ → ℕ → ℕ → ℕ → ℕ → Walked
  rest k l t u e c = cond (gone Λ l e) (onward (passed Λ Δ (reading k) k u e c) (λ u₂ e₂ c₂. reading l t e₂ c₂)) (ended u e c)

  pub level_turn : (l : ℕ) → 0 < l → (t d c : ℕ) → reading l t d c ≡ onward (reading (l - 1) t d c) (rest (l - 1) l t)
  unfolding read_level
  level_turn zero x t d c = absurd (omega arith)
  level_turn (suc l) x t d c = let z : suc l - 1 ≡ l = omega arith in rw z (whole_turn (reading l) (level_met l) l t d c)
