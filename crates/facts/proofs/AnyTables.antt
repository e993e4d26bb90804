-- On any tables, checked or not, a reading by levels is refused 14 or is the direct reading. Assumes nothing.
use mathlib.Core.Path.{◌≡◌, refl, sym, ap, ◌∙◌}
use mathlib.Core.Logic.{◌⊎◌, inl, inr}
use mathlib.Core.Bool.{Bool, true, false, ◌&&◌, or-true, and-eq-true_iff}
use Prim.Native.Nat.{ℕ, zero, suc, ◌+◌, ◌-◌, ◌*◌, ◌≤◌, ◌<◌}
use native.Mathlib.Omega.{arith}
use lib.Dec.{eqb, ltb}
use borrow.Author.Tests.{eqb-true, eq-eqb, ltb-true, ltb-false, lt-ltb, le-ltb}
use Rattle.maps.specs.Map.{Involutions}
use Rattle.maps.specs.Mark.{between, can_pass, across}
use Rattle.maps.specs.Folded.{gone, refused_marks}
use Rattle.maps.specs.Walk.{Walked, ended, stopped, walk_from, walk}
use Rattle.maps.specs.ByLevels.{read_base, over_level, read_level, by_levels}
use Rattle.facts.proofs.Runs.{swap, swap_fst, swap_snd}

-- a mark is passed from the first of its rows to the second, and from the second to the first
pass_first : (mark : ℕ) → (can_pass mark (between mark).0 ≡ true) × (across mark (between mark).0 ≡ (between mark).1)
unfolding swap
pass_first mark = (rw (eq-eqb (between mark).0 (between mark).0 refl), swap_fst (between mark).0 (between mark).1)

pass_second : (mark : ℕ) → (can_pass mark (between mark).1 ≡ true) × (across mark (between mark).1 ≡ (between mark).0)
unfolding swap
pass_second mark = (rw (eq-eqb (between mark).1 (between mark).1 refl) (or-true (eqb (between mark).1 (between mark).0)), swap_snd (between mark).0 (between mark).1)

-- the question is involution i of dart b
module _ (a : Involutions) (n N h : ℕ) (Λ Δ : ℕ → ℕ) (i b : ℕ) where
  abbrev direct : ℕ → ℕ → ℕ → ℕ → ℕ → Walked
  direct l = walk_from a n N h Λ Δ l i b

  abbrev reading : ℕ → ℕ → ℕ → ℕ → Walked
  reading l = read_level a n N h Λ Δ i b l

  -- how the walk at level l+1 ends, by how the walk at level l ends: it goes on from a dart that is gone on level l+1
  abbrev after : ℕ → Walked → Walked
  after l (stopped number row dart) = stopped number row dart
  after l (ended u e c) = elim (gone Λ (suc l) e) [
    | false ↦ ended u e c
    | true ↦ elim (can_pass (Δ e) u) [
      | false ↦ stopped 14 u e
      | true ↦ direct (suc l) (1 + 2 * N - c) (across (Δ e) u) e c
    ]
  ]

  walk_split : (l k t d c : ℕ) → k + c ≡ 1 + 2 * N → direct (suc l) k t d c ≡ after l (direct l k t d c)
  unfolding walk_from
  walk_split l zero t d c s = refl
  walk_split l (suc k) t d c s =
      go (ltb (a t d) N) refl (refused_marks n h (Λ (a t d)) (Δ (a t d))) refl (gone Λ l (a t d)) refl (gone Λ (suc l) (a t d)) refl (can_pass (Δ (a t d)) t) refl
      (walk_split l k (across (Δ (a t d)) t) (a t d) (suc c) (omega arith))
    where
      go : (v : Bool) → ltb (a t d) N ≡ v → (w : Bool) → refused_marks n h (Λ (a t d)) (Δ (a t d)) ≡ w → (x : Bool) → gone Λ l (a t d) ≡ x → (y : Bool) → gone Λ (suc l) (a t d) ≡ y → (z : Bool) → can_pass (Δ (a t d)) t ≡ z
          → direct (suc l) k (across (Δ (a t d)) t) (a t d) (suc c) ≡ after l (direct l k (across (Δ (a t d)) t) (a t d) (suc c))
          → direct (suc l) (suc k) t d c ≡ after l (direct l (suc k) t d c)
      go false o w p x q y r z m ih = rw (o, walk_from)
      go true o true p x q y r z m ih = rw (o, p, walk_from)
      go true o false p false q false r z m ih = rw (o, p, q, walk_from, after, r)
      go true o false p false q true r false m ih = rw (o, p, q, walk_from, after, r, m)
      go true o false p false q true r true m ih = let f : 1 + 2 * N - suc c ≡ k = omega arith in rw (o, p, q, walk_from, after, r, m, f)
      go true o false p true q false r z m ih = absurd (omega (arith, ltb-true (Λ (a t d)) l q, ltb-false (Λ (a t d)) (suc l) r))
      go true o false p true q true r false m ih = rw (o, p, q, r, m, walk_from)
      go true o false p true q true r true m ih = rw (o, p, q, r, m, walk_from) ih

  -- the walk at level l+1 passes e, where the walk at level l ends, on to row v
  walk_past : (l k t d c u e c₁ v : ℕ) → k + c ≡ 1 + 2 * N → ended u e c₁ ≡ direct l k t d c → gone Λ (suc l) e ≡ true → (can_pass (Δ e) u ≡ true) × (across (Δ e) u ≡ v)
      → direct (suc l) k t d c ≡ direct (suc l) (1 + 2 * N - c₁) v e c₁
  walk_past l k t d c u e c₁ v s q g p = walk_split l k t d c s ∙ ap (after l) (sym q) ∙ rw (after, g, p.0, p.1)

  -- where a reading of row t ends, with c entries read before: by that row, with more entries read, and not too many
  abbrev InRow : ℕ → ℕ → Walked → Type 0
  InRow t c (ended u e c₁) = (u ≡ t) × (c < c₁) × (c₁ ≤ 1 + 2 * N)
  InRow t c (stopped number row dart) = Unit {0}

  -- refused 14, or what the walk at level l does from row t of dart d, where c entries are read and k more may be
  abbrev Answers : ℕ → ℕ → ℕ → ℕ → ℕ → Walked → Type 0
  Answers l k t d c w = ((row dart : ℕ) × (w ≡ stopped 14 row dart)) ⊎ ((w ≡ direct l k t d c) × InRow t c w)

  -- the walk comes on to dart d₂: what answers there answers before
  carry : (k k₂ t d d₂ c c₂ l : ℕ) (w : Walked) → direct l k t d c ≡ direct l k₂ t d₂ c₂ → c < c₂ → Answers l k₂ t d₂ c₂ w → Answers l k t d c w
  carry k k₂ t d d₂ c c₂ l w moved lc (inl r) = inl r
  carry k k₂ t d d₂ c c₂ l (ended u e c₃) moved lc (inr r) = inr (r.0 ∙ sym moved, (r.1.0, omega arith, r.1.2))
  carry k k₂ t d d₂ c c₂ l (stopped number row dart) moved lc (inr r) = inr (r.0 ∙ sym moved, tt)

  base_answers : (k t d c : ℕ) → k + c ≡ 1 + 2 * N → Answers zero k t d c (reading zero t d c)
  unfolding read_level read_base walk_from
  base_answers zero t d c s = rw (le-ltb c (1 + 2 * N) (omega arith), read_base) (inr (refl, tt))
  base_answers (suc k) t d c s = go (ltb (a t d) N) refl (refused_marks n h (Λ (a t d)) (Δ (a t d))) refl
    where
      go : (v : Bool) → ltb (a t d) N ≡ v → (w : Bool) → refused_marks n h (Λ (a t d)) (Δ (a t d)) ≡ w → Answers zero (suc k) t d c (reading zero t d c)
      go false o w p = rw (lt-ltb c (1 + 2 * N) (omega arith), o, read_base, walk_from) (inr (refl, tt))
      go true o true p = rw (lt-ltb c (1 + 2 * N) (omega arith), o, p, read_base, walk_from) (inr (refl, tt))
      go true o false p = rw (lt-ltb c (1 + 2 * N) (omega arith), o, p, le-ltb (Λ (a t d)) zero (omega arith), read_base, walk_from) (inr (refl, (refl, omega arith, omega arith)))

  module _ (l : ℕ) (ih : (k t d c : ℕ) → k + c ≡ 1 + 2 * N → Answers l k t d c (reading l t d c)) where
    abbrev over : ℕ → ℕ → ℕ → ℕ → Walked
    over = over_level a n N h Λ Δ i b (reading l) l

    -- a round of the walk over level l, and what is known of the rounds left
    module _ (times k t d c : ℕ) (f : k ≤ suc times) (s : k + c ≡ 1 + 2 * N)
        (onward : (k₂ d₂ c₂ : ℕ) → k₂ ≤ times → k₂ + c₂ ≡ 1 + 2 * N → Answers (suc l) k₂ t d₂ c₂ (over times t d₂ c₂)) where
      abbrev Round : Type 0
      Round = Answers (suc l) k t d c (over (suc times) t d c)

      module _ (u e c₁ : ℕ) (q : reading l t d c ≡ ended u e c₁) (g : gone Λ (suc l) e ≡ true) (x : (eqb (Λ e) l && eqb (between (Δ e)).0 t) ≡ true) (lc : c < c₁) (mc : c₁ ≤ 1 + 2 * N)
          (moved : direct (suc l) k t d c ≡ direct (suc l) (1 + 2 * N - c₁) (between (Δ e)).1 e c₁) where
        second : (w : Walked) → reading l (between (Δ e)).1 e c₁ ≡ w → Answers l (1 + 2 * N - c₁) (between (Δ e)).1 e c₁ w → Round
        unfolding over_level
        second w q₂ (inl r) = rw (q, g, x, q₂, r.2, over_level) (inl (r.0, r.1, refl))
        second (stopped number row dart) q₂ (inr r) =
            rw (q, g, x, q₂, over_level) (inr (ap (after l) r.0 ∙ sym (walk_split l (1 + 2 * N - c₁) (between (Δ e)).1 e c₁ (omega arith)) ∙ sym moved, tt))
        second (ended u₂ e₂ c₂) q₂ (inr r) = go (eqb (Λ e₂) l && eqb (Δ e₂) (Δ e)) refl
          where
            go : (y : Bool) → (eqb (Λ e₂) l && eqb (Δ e₂) (Δ e)) ≡ y → Round
            go false p = rw (q, g, x, q₂, p, over_level) (inl (u₂, e₂, refl))
            go true p =
                let o = (and-eq-true_iff (eqb (Λ e₂) l) (eqb (Δ e₂) (Δ e))).0 p in
                let same : Δ e₂ ≡ Δ e = eqb-true (Δ e₂) (Δ e) o.1 in
                let row : (between (Δ e)).0 ≡ t = eqb-true (between (Δ e)).0 t ((and-eq-true_iff (eqb (Λ e) l) (eqb (between (Δ e)).0 t)).0 x).1 in
                let g₂ : gone Λ (suc l) e₂ ≡ true = lt-ltb (Λ e₂) (suc l) (omega (arith, eqb-true (Λ e₂) l o.0)) in
                let m : (can_pass (Δ e₂) u₂ ≡ true) × (across (Δ e₂) u₂ ≡ t) = rw (same, r.1.0, ← row) (pass_second (Δ e)) in
                let moved₂ = walk_past l (1 + 2 * N - c₁) (between (Δ e)).1 e c₁ u₂ e₂ c₂ t (omega arith) r.0 g₂ m in
                rw (q, g, x, q₂, p, over_level) (carry k (1 + 2 * N - c₂) t d e₂ c c₂ (suc l) (over times t e₂ c₂) (moved ∙ moved₂) (omega arith) (onward (1 + 2 * N - c₂) e₂ c₂ (omega arith) (omega arith)))

      first : (w : Walked) → reading l t d c ≡ w → Answers l k t d c w → Round
      unfolding over_level
      first w q (inl r) = rw (q, r.2, over_level) (inl (r.0, r.1, refl))
      first (stopped number row dart) q (inr r) = rw (q, over_level) (inr (ap (after l) r.0 ∙ sym (walk_split l k t d c s), tt))
      first (ended u e c₁) q (inr r) = go (gone Λ (suc l) e) refl (eqb (Λ e) l && eqb (between (Δ e)).0 t) refl
        where
          go : (x : Bool) → gone Λ (suc l) e ≡ x → (y : Bool) → (eqb (Λ e) l && eqb (between (Δ e)).0 t) ≡ y → Round
          go false g y p =
              let z : after l (ended u e c₁) ≡ ended u e c₁ = rw (after, g) in
              rw (q, g, over_level) (inr (sym z ∙ ap (after l) r.0 ∙ sym (walk_split l k t d c s), r.1))
          go true g false p = rw (q, g, p, over_level) (inl (u, e, refl))
          go true g true p =
              let row : u ≡ (between (Δ e)).0 = r.1.0 ∙ sym (eqb-true (between (Δ e)).0 t ((and-eq-true_iff (eqb (Λ e) l) (eqb (between (Δ e)).0 t)).0 p).1) in
              let moved = walk_past l k t d c u e c₁ (between (Δ e)).1 s r.0 g (rw row (pass_first (Δ e))) in
              second u e c₁ q g p r.1.1 r.1.2 moved (reading l (between (Δ e)).1 e c₁) refl (ih (1 + 2 * N - c₁) (between (Δ e)).1 e c₁ (omega (arith, r.1.2)))

    -- each round reads an entry or more, so `times` runs out only where the reads do
    over_answers : (times k t d c : ℕ) → k ≤ times → k + c ≡ 1 + 2 * N → Answers (suc l) k t d c (over times t d c)
    unfolding over_level walk_from
    over_answers zero k t d c f s = let z : k ≡ 0 = omega arith in rw z (inr (refl, tt))
    over_answers (suc times) k t d c f s = first times k t d c f s (λ k₂ d₂ c₂. over_answers times k₂ t d₂ c₂) (reading l t d c) refl (ih k t d c s)

  answers : (l k t d c : ℕ) → k + c ≡ 1 + 2 * N → Answers l k t d c (reading l t d c)
  unfolding read_level
  answers zero k t d c s = base_answers k t d c s
  answers (suc l) k t d c s = over_answers l (answers l) (1 + 2 * N) k t d c (omega arith) s

module _ (a : Involutions) (n N h : ℕ) (Λ Δ : ℕ → ℕ) where
  pub any_tables : (l i b : ℕ) → ((row dart : ℕ) × (by_levels a n N h Λ Δ i b l ≡ stopped 14 row dart)) ⊎ (by_levels a n N h Λ Δ i b l ≡ walk a n N h Λ Δ l i b)
  unfolding by_levels walk
  any_tables l i b = elim (answers a n N h Λ Δ i b l (1 + 2 * N) i b 0 (omega arith)) [ inl r ↦ inl r | inr r ↦ inr r.0 ]
