-- What a reading by levels does, counted, on any tables: calls on each level, entries, steps, and stops. Assumes nothing.
use mathlib.Core.Path.{◌≡◌, refl, sym, ◌∙◌}
use mathlib.Core.Bool.{Bool, true, false, cond, ◌&&◌}
use Prim.Native.Nat.{ℕ, zero, suc, ◌+◌, ◌-◌, ◌*◌, ◌≤◌, ◌<◌}
use native.Mathlib.Omega.{arith}
use lib.Dec.{eqb, ltb}
use borrow.Author.Tests.{ltb-true, ltb-false, eqb-true, eqb-false, eq-eqb, ne_eqb}
use Rattle.maps.specs.Count.{one, sum}
use Rattle.maps.specs.Map.{Involutions}
use Rattle.maps.specs.Mark.{between}
use Rattle.maps.specs.Folded.{On, gone, removed_below, refused_marks, marks, level}
use Rattle.maps.specs.Pyramid.{Pyramid}
use Rattle.maps.specs.Cost.{reads}
use Rattle.maps.specs.Walk.{Walked, ended, stopped}
use Rattle.maps.specs.ByLevels.{read_base, over_level, read_level, by_levels}
use Rattle.laws.proofs.Counting.{sum_const}
use Rattle.facts.proofs.Facts.{facts}
use Rattle.turns.specs.ByLevels.{Counted, if_stopped, tally_base, tally_over, tally_level, calls_on, entries_read, further_steps, stops_begun, stops_passed, stop_level}
use Rattle.turns.proofs.Counts.{sum_at_most}

at_most_one : (x : Bool) → one x ≤ 1
at_most_one true = omega arith
at_most_one false = omega arith

-- a reading that ended, with c entries read before and c₁ after
record Done (N c c₁ calls entries further begun passed from : ℕ) : Type 0 where
  read : c + entries ≡ c₁
  few : c₁ ≤ 1 + 2 * N
  called : calls ≡ entries
  turned : 1 + further ≡ calls
  none_begun : begun ≡ 0
  none_passed : passed ≡ 0
  nowhere : from ≡ 0

-- a reading on level l that stopped
record Broken (N l c calls entries further begun passed from : ℕ) : Type 0 where
  few : c + entries ≤ 1 + 2 * N
  called : calls ≤ entries + 1
  turned : 1 + further ≡ calls
  once : begun ≡ 1
  up : passed + from ≡ l

-- What a whole question on level l does.
pub record Does (N l : ℕ) (x : Counted → ℕ) : Type 0 where
  -- base entries read: 1 + 2N at most
  pub entries : x entries_read ≤ 1 + 2 * N
  -- calls of the base: an entry read for each, but for one that is refused
  pub base : x (calls_on 0) ≤ x entries_read + 1
  -- no more calls on a level than on the one below
  pub fewer : (k : ℕ) → k < l → x (calls_on (suc k)) ≤ x (calls_on k)
  -- a call of the base more than second steps and further turns of all walks
  pub steps : x (calls_on 0) ≡ 1 + x further_steps
  -- so of these there are no more than entries
  pub further : x further_steps ≤ x entries_read
  -- a stop begins once
  pub begun : x stops_begun ≤ 1
  -- and is passed up once through each level above the one that it begins on
  pub passed : x stops_passed + x stop_level ≤ l

module _ (a : Involutions) (n N h : ℕ) (Λ Δ : ℕ → ℕ) (i b : ℕ) where
  -- what is told of a reading by how it ended: calls of the base, entries, further steps, stops begun and stops passed up
  abbrev Told : ℕ → ℕ → Walked → ℕ → ℕ → ℕ → ℕ → ℕ → ℕ → Type 0
  Told l c (ended u e c₁) C E F B P S = Done N c c₁ C E F B P S
  Told l c (stopped k r d) C E F B P S = Broken N l c C E F B P S

  base_told : (t d c : ℕ) → c ≤ 1 + 2 * N → let x : Counted → ℕ = λ w. tally_base a n N h Λ Δ i b w t d c in Told 0 c (read_base a n N h Λ Δ i b t d c) (x (calls_on 0)) (x entries_read) (x further_steps) (x stops_begun) (x stops_passed) (x stop_level)
  unfolding read_base tally_base
  base_told t d c low = go (ltb c (1 + 2 * N)) refl (ltb (a t d) N) refl (refused_marks n h (Λ (a t d)) (Δ (a t d))) refl
    where
      go : (x : Bool) → ltb c (1 + 2 * N) ≡ x → (y : Bool) → ltb (a t d) N ≡ y → (z : Bool) → refused_marks n h (Λ (a t d)) (Δ (a t d)) ≡ z
          → let x : Counted → ℕ = λ w. tally_base a n N h Λ Δ i b w t d c in Told 0 c (read_base a n N h Λ Δ i b t d c) (x (calls_on 0)) (x entries_read) (x further_steps) (x stops_begun) (x stops_passed) (x stop_level)
      go false p y q z r = rw (p, read_base, tally_base) (omega (arith, ltb-false c (1 + 2 * N) p))
      go true p false q z r = rw (p, q, read_base, tally_base) (omega (arith, ltb-true c (1 + 2 * N) p))
      go true p true q true r = rw (p, q, r, read_base, tally_base) (omega (arith, ltb-true c (1 + 2 * N) p))
      go true p true q false r = rw (p, q, r, read_base, tally_base) (omega (arith, ltb-true c (1 + 2 * N) p))

  -- the walk over level l, which `below` reads; each reading there is told of
  module _ (l : ℕ) (below : ℕ → ℕ → ℕ → Walked) (C E F B P S : ℕ → ℕ → ℕ → ℕ) (told : (t d c : ℕ) → c ≤ 1 + 2 * N → Told l c (below t d c) (C t d c) (E t d c) (F t d c) (B t d c) (P t d c) (S t d c)) where
    abbrev over : ℕ → ℕ → ℕ → ℕ → Walked
    over = over_level a n N h Λ Δ i b below l

    abbrev tell : Counted → (ℕ → ℕ → ℕ → ℕ) → ℕ → ℕ → ℕ → ℕ → ℕ
    tell w x = tally_over a n N h Λ Δ i b w below x l

    abbrev Over : ℕ → ℕ → ℕ → ℕ → Type 0
    Over times t d c = Told (suc l) c (over times t d c) (tell (calls_on 0) C times t d c) (tell entries_read E times t d c) (tell further_steps F times t d c) (tell stops_begun B times t d c) (tell stops_passed P times t d c) (tell stop_level S times t d c)

    round : (times t d c : ℕ) → c ≤ 1 + 2 * N → ((d₂ c₂ : ℕ) → c + 2 ≤ c₂ → c₂ ≤ 1 + 2 * N → Over times t d₂ c₂) → Over (suc times) t d c
    unfolding over_level tally_over
    round times t d c low rest = first (below t d c) refl (told t d c low)
      where
        first : (w : Walked) → below t d c ≡ w → Told l c w (C t d c) (E t d c) (F t d c) (B t d c) (P t d c) (S t d c) → Over (suc times) t d c
        first (stopped k r e) q m = rw (q, over_level, tally_over) (omega arith)
        first (ended u e c₁) q m = second (gone Λ (suc l) e) refl (eqb (Λ e) l && eqb (between (Δ e)).0 t) refl (below (between (Δ e)).1 e c₁) refl (told (between (Δ e)).1 e c₁ m.few)
          where
            second : (x : Bool) → gone Λ (suc l) e ≡ x → (y : Bool) → (eqb (Λ e) l && eqb (between (Δ e)).0 t) ≡ y → (w : Walked) → below (between (Δ e)).1 e c₁ ≡ w
                → (let s = (between (Δ e)).1 in Told l c₁ w (C s e c₁) (E s e c₁) (F s e c₁) (B s e c₁) (P s e c₁) (S s e c₁)) → Over (suc times) t d c
            second false g y f w q₂ m₂ = rw (q, g, over_level, tally_over) (omega arith)
            second true g false f w q₂ m₂ = rw (q, g, f, over_level, tally_over) (omega arith)
            second true g true f (stopped k r d₂) q₂ m₂ = rw (q, g, f, q₂, over_level, tally_over) (omega arith)
            second true g true f (ended u₂ e₂ c₂) q₂ m₂ = last (eqb (Λ e₂) l && eqb (Δ e₂) (Δ e)) refl (over times t e₂ c₂) refl (rest e₂ c₂ (omega arith) m₂.few)
              where
                last : (z : Bool) → (eqb (Λ e₂) l && eqb (Δ e₂) (Δ e)) ≡ z → (w : Walked) → over times t e₂ c₂ ≡ w
                    → Told (suc l) c₂ w (tell (calls_on 0) C times t e₂ c₂) (tell entries_read E times t e₂ c₂) (tell further_steps F times t e₂ c₂) (tell stops_begun B times t e₂ c₂) (tell stops_passed P times t e₂ c₂) (tell stop_level S times t e₂ c₂) → Over (suc times) t d c
                last false j w q₃ m₃ = rw (q, g, f, q₂, j, over_level, tally_over) (omega arith)
                last true j (stopped k r d₃) q₃ m₃ = rw (q, g, f, q₂, j, q₃, over_level, tally_over) (omega arith)
                last true j (ended u₃ e₃ c₃) q₃ m₃ = rw (q, g, f, q₂, j, q₃, over_level, tally_over) (omega arith)

    -- two entries are read a turn, so the limit of turns is not reached
    over_told : (times t d c : ℕ) → 1 + 2 * N < 2 * times + c → c ≤ 1 + 2 * N → Over times t d c
    unfolding over_level tally_over
    over_told zero t d c f low = absurd (omega arith)
    over_told (suc times) t d c f low = round times t d c low (λ d₂ c₂ more few. over_told times t d₂ c₂ (omega arith) few)

  -- A walk over level l reads two entries a turn, so that it never takes as many turns as the definition gives it: with more it does the same.
  module _ (l : ℕ) (below : ℕ → ℕ → ℕ → Walked) (met : (t d c u e c₁ : ℕ) → c ≤ 1 + 2 * N → below t d c ≡ ended u e c₁ → (c < c₁) × (c₁ ≤ 1 + 2 * N)) (w : Counted) (z : ℕ → ℕ → ℕ → ℕ) where
    abbrev whole : ℕ → ℕ → ℕ → ℕ → ℕ
    whole = tally_over a n N h Λ Δ i b w below z l

    same : (x y t d c : ℕ) → 1 + 2 * N < 2 * x + c → 1 + 2 * N < 2 * y + c → c ≤ 1 + 2 * N → whole x t d c ≡ whole y t d c
    unfolding tally_over
    same zero y t d c p q k = absurd (omega arith)
    same (suc x) zero t d c p q k = absurd (omega arith)
    same (suc x) (suc y) t d c p q k = first (below t d c) refl (λ d₂ c₂ more few. same x y t d₂ c₂ (omega arith) (omega arith) few)
      where
        first : (r : Walked) → below t d c ≡ r → ((d₂ c₂ : ℕ) → c + 2 ≤ c₂ → c₂ ≤ 1 + 2 * N → whole x t d₂ c₂ ≡ whole y t d₂ c₂) → whole (suc x) t d c ≡ whole (suc y) t d c
        first (stopped m r e) f rest = rw (f, tally_over)
        first (ended u e c₁) f rest = second (gone Λ (suc l) e) refl (eqb (Λ e) l && eqb (between (Δ e)).0 t) refl (below (between (Δ e)).1 e c₁) refl
          where
            second : (v : Bool) → gone Λ (suc l) e ≡ v → (o : Bool) → (eqb (Λ e) l && eqb (between (Δ e)).0 t) ≡ o → (r : Walked) → below (between (Δ e)).1 e c₁ ≡ r → whole (suc x) t d c ≡ whole (suc y) t d c
            second false g o j r s = rw (f, g, tally_over)
            second true g false j r s = rw (f, g, j, tally_over)
            second true g true j (stopped m r d₂) s = rw (f, g, j, s, tally_over)
            second true g true j (ended u₂ e₂ c₂) s = last (eqb (Λ e₂) l && eqb (Δ e₂) (Δ e)) refl
              where
                last : (m : Bool) → (eqb (Λ e₂) l && eqb (Δ e₂) (Δ e)) ≡ m → whole (suc x) t d c ≡ whole (suc y) t d c
                last false m = rw (f, g, j, s, m, tally_over)
                last true m =
                    let one = met t d c u e c₁ k f in
                    let two = met (between (Δ e)).1 e c₁ u₂ e₂ c₂ one.1 s in
                    rw (f, g, j, s, m, tally_over, rest e₂ c₂ (omega (arith, one.0, two.0)) two.1)

  -- a level more: `walk` is called by a call of `reading` above level 0
  one_more : (l c : ℕ) (w : Walked) (C E F B P S : ℕ) → Told (suc l) c w C E F B P S → Told (suc l) c w (one (eqb (suc l) 0) + C) (0 + E) (0 + F) (0 + B) (0 + P) (0 + S)
  one_more l c (ended u e c₁) C E F B P S m = rw (ne_eqb (suc l) 0 (λ (z : suc l ≡ 0). omega arith)) (omega arith)
  one_more l c (stopped k r d) C E F B P S m = rw (ne_eqb (suc l) 0 (λ (z : suc l ≡ 0). omega arith)) (omega arith)

  abbrev tally : ℕ → ℕ → ℕ → ℕ → Counted → ℕ
  tally l t d c w = tally_level a n N h Λ Δ i b w l t d c

  level_told : (l t d c : ℕ) → c ≤ 1 + 2 * N → Told l c (read_level a n N h Λ Δ i b l t d c) (tally l t d c (calls_on 0)) (tally l t d c entries_read) (tally l t d c further_steps) (tally l t d c stops_begun) (tally l t d c stops_passed) (tally l t d c stop_level)
  unfolding read_level tally_level
  level_told zero t d c low = base_told t d c low
  level_told (suc l) t d c low =
      let below = read_level a n N h Λ Δ i b l in
      let x : Counted → ℕ → ℕ → ℕ → ℕ = λ w t d c. tally_level a n N h Λ Δ i b w l t d c in
      let y : Counted → ℕ = λ w. tally_over a n N h Λ Δ i b w below (x w) l (1 + 2 * N) t d c in
      one_more l c (over_level a n N h Λ Δ i b below l (1 + 2 * N) t d c) (y (calls_on 0)) (y entries_read) (y further_steps) (y stops_begun) (y stops_passed) (y stop_level)
      (over_told l below (x (calls_on 0)) (x entries_read) (x further_steps) (x stops_begun) (x stops_passed) (x stop_level) (level_told l) (1 + 2 * N) t d c (omega arith) low)

  level_met : (l t d c u e c₁ : ℕ) → c ≤ 1 + 2 * N → read_level a n N h Λ Δ i b l t d c ≡ ended u e c₁ → (c < c₁) × (c₁ ≤ 1 + 2 * N)
  level_met l t d c u e c₁ low q = go (read_level a n N h Λ Δ i b l t d c) q (level_told l t d c low)
    where
      go : (w : Walked) → w ≡ ended u e c₁ → Told l c w (tally l t d c (calls_on 0)) (tally l t d c entries_read) (tally l t d c further_steps) (tally l t d c stops_begun) (tally l t d c stops_passed) (tally l t d c stop_level) → (c < c₁) × (c₁ ≤ 1 + 2 * N)
      go (ended u₁ e₁ c₂) p m = let z : c₂ ≡ c₁ = cc in (omega arith, omega arith)
      go (stopped k r d) p m = let z : ◌≡◌ {A = ℕ} 0 1 = cc in absurd (omega arith)

  -- the code's walk has no limit of turns, and does what is counted here
  pub walk_unlimited : (w : Counted) (l times t d c : ℕ) → 1 + 2 * N ≤ times → c ≤ 1 + 2 * N
      → tally_over a n N h Λ Δ i b w (read_level a n N h Λ Δ i b l) (tally_level a n N h Λ Δ i b w l) l times t d c ≡ tally_over a n N h Λ Δ i b w (read_level a n N h Λ Δ i b l) (tally_level a n N h Λ Δ i b w l) l (1 + 2 * N) t d c
  walk_unlimited w l times t d c k f = same l (read_level a n N h Λ Δ i b l) (level_met l) w (tally_level a n N h Λ Δ i b w l) times (1 + 2 * N) t d c (omega arith) (omega arith) f

  -- calls on single levels: a reading below makes so many calls of one kind and so many of another, and of a third no fewer than of both
  module _ (l : ℕ) (below : ℕ → ℕ → ℕ → Walked) (u v w : ℕ) (x y z : ℕ → ℕ → ℕ → ℕ) (less : (t d c : ℕ) → x t d c + y t d c ≤ z t d c) where
    abbrev calls : ℕ → (ℕ → ℕ → ℕ → ℕ) → ℕ → ℕ → ℕ → ℕ → ℕ
    calls k tally = tally_over a n N h Λ Δ i b (calls_on k) below tally l

    abbrev Less : ℕ → ℕ → ℕ → ℕ → Type 0
    Less times t d c = calls u x times t d c + calls v y times t d c ≤ calls w z times t d c

    -- so does a walk over that level
    over_less : (times t d c : ℕ) → Less times t d c
    unfolding tally_over
    over_less zero t d c = omega arith
    over_less (suc times) t d c = first (below t d c) refl (λ d₂ c₂. over_less times t d₂ c₂)
      where
        first : (r : Walked) → below t d c ≡ r → ((d₂ c₂ : ℕ) → Less times t d₂ c₂) → Less (suc times) t d c
        first (stopped k r e) q rest = rw (q, tally_over) (omega (arith, less t d c))
        first (ended s e c₁) q rest = second (gone Λ (suc l) e) refl (eqb (Λ e) l && eqb (between (Δ e)).0 t) refl (below (between (Δ e)).1 e c₁) refl
          where
            second : (f : Bool) → gone Λ (suc l) e ≡ f → (g : Bool) → (eqb (Λ e) l && eqb (between (Δ e)).0 t) ≡ g → (r : Walked) → below (between (Δ e)).1 e c₁ ≡ r → Less (suc times) t d c
            second false p g o r j = rw (q, p, tally_over) (omega (arith, less t d c))
            second true p false o r j = rw (q, p, o, tally_over) (omega (arith, less t d c))
            second true p true o (stopped k r d₂) j = rw (q, p, o, j, tally_over) (omega (arith, less t d c, less (between (Δ e)).1 e c₁))
            second true p true o (ended s₂ e₂ c₂) j = last (eqb (Λ e₂) l && eqb (Δ e₂) (Δ e)) refl
              where
                last : (m : Bool) → (eqb (Λ e₂) l && eqb (Δ e₂) (Δ e)) ≡ m → Less (suc times) t d c
                last false k = rw (q, p, o, j, k, tally_over) (omega (arith, less t d c, less (between (Δ e)).1 e c₁))
                last true k = rw (q, p, o, j, k, tally_over) (omega (arith, less t d c, less (between (Δ e)).1 e c₁, rest e₂ c₂))

  -- a walk makes the first of its calls
  over_first : (l k : ℕ) (below : ℕ → ℕ → ℕ → Walked) (x : ℕ → ℕ → ℕ → ℕ) (times t d c : ℕ) → x t d c ≤ tally_over a n N h Λ Δ i b (calls_on k) below x l (suc times) t d c
  unfolding tally_over
  over_first l k below x times t d c = omega arith

  base_calls : (k t d c : ℕ) → tally_base a n N h Λ Δ i b (calls_on k) t d c ≡ one (eqb 0 k)
  unfolding tally_base
  base_calls k t d c = go (ltb c (1 + 2 * N)) (read_base a n N h Λ Δ i b t d c)
    where
      go : (x : Bool) (w : Walked) → one (eqb 0 k) + (cond x 0 0 + if_stopped w 0) ≡ one (eqb 0 k)
      go true (ended r d c) = omega arith
      go true (stopped m r d) = omega arith
      go false (ended r d c) = omega arith
      go false (stopped m r d) = omega arith

  -- a reading makes no call above its level
  calls_none : (l k : ℕ) → l < k → (t d c : ℕ) → tally l t d c (calls_on k) ≡ 0
  unfolding tally_level
  calls_none zero k f t d c = base_calls k t d c ∙ rw (ne_eqb 0 k (λ (z : 0 ≡ k). omega arith))
  calls_none (suc l) k f t d c =
      let x : ℕ → ℕ → ℕ → ℕ = λ t d c. tally l t d c (calls_on k) in
      let e = over_less l (read_level a n N h Λ Δ i b l) k k k x x x (λ t d c. omega (arith, calls_none l k (omega arith) t d c)) (1 + 2 * N) t d c in
      rw (ne_eqb (suc l) k (λ (z : suc l ≡ k). omega arith)) (omega (arith, e))

  -- and one on it
  calls_own : (l t d c : ℕ) → 1 ≤ tally l t d c (calls_on l)
  unfolding tally_level
  calls_own zero t d c = rw (base_calls 0 t d c) (omega arith)
  calls_own (suc l) t d c = rw (eq-eqb (suc l) (suc l) refl) (omega arith)

  -- no more calls on a level than on the one below
  pub level_calls : (l k : ℕ) → k < l → (t d c : ℕ) → tally l t d c (calls_on (suc k)) ≤ tally l t d c (calls_on k)
  unfolding tally_level
  level_calls zero k f t d c = absurd (omega arith)
  level_calls (suc l) k f t d c = go (eqb l k) refl (λ g. level_calls l k g)
    where
      below : ℕ → ℕ → ℕ → Walked
      below = read_level a n N h Λ Δ i b l

      x : ℕ → ℕ → ℕ → ℕ → ℕ
      x k t d c = tally l t d c (calls_on k)

      more : 1 + 2 * N ≡ suc (2 * N)
      more = omega arith

      go : (m : Bool) → eqb l k ≡ m → (k < l → (t d c : ℕ) → x (suc k) t d c ≤ x k t d c) → tally (suc l) t d c (calls_on (suc k)) ≤ tally (suc l) t d c (calls_on k)
      go true q ih =
          let e : k ≡ l = sym (eqb-true l k q) in
          let none = over_less l below (suc k) (suc k) (suc k) (x (suc k)) (x (suc k)) (x (suc k)) (λ t d c. omega (arith, calls_none l (suc k) (omega arith) t d c)) (1 + 2 * N) t d c in
          let first = over_first l k below (x k) (2 * N) t d c in
          let own : 1 ≤ x k t d c = rw e (calls_own l t d c) in
          omega (arith, none, rw (← more) at first, own, at_most_one (eqb (suc l) (suc k)))
      go false q ih =
          let ne : l ≡ k → ⊥ = eqb-false l k q in
          let fewer = over_less l below (suc k) k k (x (suc k)) (λ t d c. x k t d c - x (suc k) t d c) (x k) (λ t d c. omega (arith, ih (omega arith) t d c)) (1 + 2 * N) t d c in
          rw (ne_eqb (suc l) (suc k) (λ (z : suc l ≡ suc k). omega arith)) (omega (arith, fewer))

  does : (l : ℕ) (w : Walked) (x : Counted → ℕ) → Told l 0 w (x (calls_on 0)) (x entries_read) (x further_steps) (x stops_begun) (x stops_passed) (x stop_level) → ((k : ℕ) → k < l → x (calls_on (suc k)) ≤ x (calls_on k)) → Does N l x
  does l (ended u e c₁) x m f = record { entries = omega arith; base = omega arith; fewer = f; steps = omega arith; further = omega arith; begun = omega arith; passed = omega arith }
  does l (stopped k r d) x m f = record { entries = omega arith; base = omega arith; fewer = f; steps = omega arith; further = omega arith; begun = omega arith; passed = omega arith }

  -- of every question, on any tables
  pub levels_work : (l : ℕ) → Does N l (tally l i b 0)
  levels_work l = does l (read_level a n N h Λ Δ i b l i b 0) (tally l i b 0) (level_told l i b 0 (omega arith)) (λ k f. level_calls l k f i b 0)

  -- where a neighbour is found, the count that is answered is the entries read, and as many calls are of the base
  pub found_work : (l u e c : ℕ) → by_levels a n N h Λ Δ i b l ≡ ended u e c → (tally l i b 0 entries_read ≡ c) × (tally l i b 0 (calls_on 0) ≡ c)
  unfolding by_levels
  found_work l u e c q = go (read_level a n N h Λ Δ i b l i b 0) q (level_told l i b 0 (omega arith))
    where
      go : (w : Walked) → w ≡ ended u e c → Told l 0 w (tally l i b 0 (calls_on 0)) (tally l i b 0 entries_read) (tally l i b 0 further_steps) (tally l i b 0 stops_begun) (tally l i b 0 stops_passed) (tally l i b 0 stop_level) → (tally l i b 0 entries_read ≡ c) × (tally l i b 0 (calls_on 0) ≡ c)
      go (ended u₁ e₁ c₁) p m = let z : c₁ ≡ c = cc in (omega arith, omega arith)
      go (stopped k r d) p m = let z : ◌≡◌ {A = ℕ} 0 1 = cc in absurd (omega arith)

module _ {N l : ℕ} {x : Counted → ℕ} (d : Does N l x) where
  -- no level has more calls than level 0
  most_calls : (k : ℕ) → k ≤ l → x (calls_on k) ≤ x (calls_on 0)
  most_calls zero f = omega arith
  most_calls (suc k) f = omega (arith, most_calls k (omega arith), d.fewer k f)

  -- so above level 0 there are at most l for each call of the base
  pub calls_above : sum (λ k. x (calls_on (suc k))) l ≤ l * (x entries_read + 1)
  calls_above =
      omega (arith, sum_at_most (λ k. x (calls_on (suc k))) (λ k. x entries_read + 1) l (λ k f. omega (arith, most_calls (suc k) f, d.base)), sum_const (x entries_read + 1) l)

-- in an accepted pyramid all of this is of the direct walk's count: 1 + 2·(darts gone below the level) at most
pub accepted_work : (a : Involutions) (n N h : ℕ) (Λ Δ : ℕ → ℕ) → Pyramid a n N h Λ Δ → (l : ℕ) → l ≤ h → (i b : ℕ) → i ≤ n → On N Λ l b
    → let x : Counted → ℕ = λ w. tally_level a n N h Λ Δ i b w l i b 0 in (x entries_read ≡ reads a n N h Λ Δ l i b) × (x (calls_on 0) ≡ reads a n N h Λ Δ l i b) × (x entries_read ≤ 1 + 2 * removed_below N Λ l)
accepted_work a n N h Λ Δ y l k i b li o =
    let f = facts a n N h Λ Δ y l k in
    let w = found_work a n N h Λ Δ i b l i (level a n N (marks h Λ Δ) l i b) (reads a n N h Λ Δ l i b) (f.alike i b li o ∙ f.ends i b li o) in
    (w.0, w.1, omega (arith, w.0, (f.few i b li o).1))
