-- Duality of readings by levels, on any tables; and what the dual of an accepted pyramid is. Assumes nothing.
use mathlib.Core.Path.{◌≡◌, refl, ap, ◌∙◌}
use mathlib.Core.Bool.{Bool, true, false, ◌&&◌}
use Prim.Native.Nat.{ℕ, zero, suc, ◌+◌, ◌-◌, ◌*◌, ◌≤◌, ◌<◌}
use native.Mathlib.Omega.{arith}
use lib.Dec.{eqb, ltb}
use borrow.Author.Tests.{eqb-true, lt-ltb}
use Rattle.maps.specs.Verdict.{accepted}
use Rattle.maps.specs.Map.{Involutions}
use Rattle.maps.specs.Mark.{is_mark, widest, between}
use Rattle.maps.specs.Folded.{gone, refused_marks, marks, level}
use Rattle.maps.specs.Walk.{Walked, ended, stopped, walk}
use Rattle.maps.specs.ByLevels.{read_base, over_level, read_level, by_levels}
use Rattle.maps.specs.Cost.{cost}
use Rattle.maps.specs.Pyramid.{Pyramid}
use Rattle.maps.specs.Check.{check_pyramid}
use Rattle.laws.proofs.Marks.{mark_rows}
use Rattle.laws.proofs.MarkRows.{allowed_small}
use Rattle.facts.proofs.Checks.{check_pyramid_lem, pyramid_check}
use Rattle.facts.proofs.Duals.{dual, dual_mark, Mirrors, mirrors, dual_twice, dual_equal, first_test, dualΔ, dual_walked, dual_refused, walk_dual, cost_dual, levels_dual, pyramid_dual}

module _ (n N h : ℕ) (Λ Δ : ℕ → ℕ) (ln : n ≤ widest) where
  abbrev Δ' : ℕ → ℕ
  Δ' = dualΔ n h Λ Δ

  -- `below` and `below'` read the level below, each in its order; a dart where a reading ends is not refused.
  abbrev Fine : Walked → Type 0
  Fine (ended u e c) = refused_marks n h (Λ e) (Δ e) ≡ false
  Fine (stopped number row dart) = Unit {0}

  module _ (a : Involutions) (i b : ℕ) (li : i ≤ n) (l : ℕ) (k : l < h) (below below' : ℕ → ℕ → ℕ → Walked) (mirror : (t d c : ℕ) → t ≤ n → below' t d c ≡ dual_walked n (below (n - t) d c)) (fine : (t d c : ℕ) → Fine (below t d c)) where
    abbrev over : ℕ → ℕ → ℕ → ℕ → Walked
    over = over_level a n N h Λ Δ (n - i) b below l

    abbrev over' : ℕ → ℕ → ℕ → ℕ → Walked
    over' = over_level (dual n a) n N h Λ Δ' i b below' l

    over_fine : (times t d c : ℕ) → Fine (over times t d c)
    unfolding over_level
    over_fine zero t d c = tt
    over_fine (suc times) t d c = first (below t d c) refl (fine t d c) (λ e c₂. over_fine times t e c₂)
      where
        first : (w : Walked) → below t d c ≡ w → Fine w → ((e c₂ : ℕ) → Fine (over times t e c₂)) → Fine (over (suc times) t d c)
        first (stopped number row dart) q f ih = rw (q, over_level) tt
        first (ended u e c₁) q f ih = go (gone Λ (suc l) e) refl (eqb (Λ e) l && eqb (between (Δ e)).0 t) refl (below (between (Δ e)).1 e c₁) refl
          where
            go : (x : Bool) → gone Λ (suc l) e ≡ x → (y : Bool) → (eqb (Λ e) l && eqb (between (Δ e)).0 t) ≡ y → (w : Walked) → below (between (Δ e)).1 e c₁ ≡ w → Fine (over (suc times) t d c)
            go false g y p w r = rw (q, g, over_level) f
            go true g false p w r = rw (q, g, p, over_level) tt
            go true g true p (stopped number row dart) r = rw (q, g, p, r, over_level) tt
            go true g true p (ended u₂ e₂ c₂) r = last (eqb (Λ e₂) l && eqb (Δ e₂) (Δ e)) refl
              where
                last : (z : Bool) → (eqb (Λ e₂) l && eqb (Δ e₂) (Δ e)) ≡ z → Fine (over (suc times) t d c)
                last false m = rw (q, g, p, r, m, over_level) tt
                last true m = rw (q, g, p, r, m, over_level) (ih e₂ c₂)

    -- the marks of kernel l
    is_dual : (e : ℕ) → eqb (Λ e) l ≡ true → Δ' e ≡ dual_mark n (Δ e)
    is_dual e m = let z = eqb-true (Λ e) l m in rw (lt-ltb (Λ e) h (omega arith))

    second_same : (e e₂ : ℕ) → eqb (Λ e) l ≡ true → (eqb (Λ e₂) l && eqb (Δ' e₂) (Δ' e)) ≡ (eqb (Λ e₂) l && eqb (Δ e₂) (Δ e))
    second_same e e₂ m = go (eqb (Λ e₂) l) refl
      where
        go : (x : Bool) → eqb (Λ e₂) l ≡ x → (eqb (Λ e₂) l && eqb (Δ' e₂) (Δ' e)) ≡ (eqb (Λ e₂) l && eqb (Δ e₂) (Δ e))
        go false r = rw r
        go true r = rw (r, is_dual e m, is_dual e₂ r) (dual_equal n ln (Δ e₂) (Δ e))

    over_dual : (times t d c : ℕ) → t ≤ n → over' times t d c ≡ dual_walked n (over times (n - t) d c)
    unfolding over_level
    over_dual zero t d c lt = let e : n - (n - i) ≡ i = omega arith in rw e
    over_dual (suc times) t d c lt = first (below (n - t) d c) refl (fine (n - t) d c) (λ e c₂. over_dual times t e c₂ lt)
      where
        first : (w : Walked) → below (n - t) d c ≡ w → Fine w → ((e c₂ : ℕ) → over' times t e c₂ ≡ dual_walked n (over times (n - t) e c₂)) → over' (suc times) t d c ≡ dual_walked n (over (suc times) (n - t) d c)
        first (stopped number row dart) q f ih = rw (mirror t d c lt, q, over_level)
        first (ended u e c₁) q f ih = go (gone Λ (suc l) e) refl (eqb (Λ e) l) refl
          where
            go : (x : Bool) → gone Λ (suc l) e ≡ x → (y : Bool) → eqb (Λ e) l ≡ y → over' (suc times) t d c ≡ dual_walked n (over (suc times) (n - t) d c)
            go false g y m = rw (mirror t d c lt, q, g, over_level)
            go true g false m = rw (mirror t d c lt, q, g, m, over_level)
            go true g true m = second (eqb (between (Δ e)).0 (n - t)) refl (below (between (Δ e)).1 e c₁) refl
              where
                mark : is_mark n (Δ e) ≡ true
                mark = let z = eqb-true (Λ e) l m in allowed_small n h Λ Δ e f (omega arith)

                rows : Mirrors n (Δ e) (dual_mark n (Δ e))
                rows = mirrors n ln (Δ e) mark

                first_same : eqb (between (dual_mark n (Δ e))).0 t ≡ eqb (between (Δ e)).0 (n - t)
                first_same = first_test n ln (Δ e) t mark lt

                below_second : below' (between (dual_mark n (Δ e))).1 e c₁ ≡ dual_walked n (below (between (Δ e)).1 e c₁)
                below_second =
                    let z : n - (between (dual_mark n (Δ e))).1 ≡ (between (Δ e)).1 = omega (arith, rows.second, (mark_rows n (Δ e) mark).second) in
                    mirror (between (dual_mark n (Δ e))).1 e c₁ (omega (arith, rows.second)) ∙ ap (λ (x : ℕ). dual_walked n (below x e c₁)) z

                second : (x : Bool) → eqb (between (Δ e)).0 (n - t) ≡ x → (w : Walked) → below (between (Δ e)).1 e c₁ ≡ w → over' (suc times) t d c ≡ dual_walked n (over (suc times) (n - t) d c)
                second false p w r = rw (mirror t d c lt, q, g, m, is_dual e m, first_same, p, over_level)
                second true p (stopped number row dart) r = rw (mirror t d c lt, q, g, m, is_dual e m, first_same, p, over_level, is_dual e m, below_second, r)
                second true p (ended u₂ e₂ c₂) r = last (eqb (Λ e₂) l && eqb (Δ e₂) (Δ e)) refl
                  where
                    last : (z : Bool) → (eqb (Λ e₂) l && eqb (Δ e₂) (Δ e)) ≡ z → over' (suc times) t d c ≡ dual_walked n (over (suc times) (n - t) d c)
                    last false o = rw (mirror t d c lt, q, g, m, is_dual e m, first_same, p, over_level, is_dual e m, below_second, r, second_same e e₂ m, o)
                    last true o = rw (mirror t d c lt, q, g, m, is_dual e m, first_same, p, over_level, is_dual e m, below_second, r, second_same e e₂ m, o) (ih e₂ c₂)

  module _ (a : Involutions) (i b : ℕ) (li : i ≤ n) where
    read_level_fine : (l : ℕ) → l ≤ h → (t d c : ℕ) → Fine (read_level a n N h Λ Δ (n - i) b l t d c)
    unfolding read_level read_base
    read_level_fine zero k t d c = go (ltb c (1 + 2 * N)) refl (ltb (a t d) N) refl (refused_marks n h (Λ (a t d)) (Δ (a t d))) refl
      where
        go : (x : Bool) → ltb c (1 + 2 * N) ≡ x → (y : Bool) → ltb (a t d) N ≡ y → (z : Bool) → refused_marks n h (Λ (a t d)) (Δ (a t d)) ≡ z → Fine (read_base a n N h Λ Δ (n - i) b t d c)
        go false p y q z r = rw (p, read_base) tt
        go true p false q z r = rw (p, q, read_base) tt
        go true p true q true r = rw (p, q, r, read_base) tt
        go true p true q false r = rw (p, q, r, read_base) r
    read_level_fine (suc l) k t d c =
        let R = read_level a n N h Λ Δ (n - i) b l in
        over_fine a i b li l k R (λ u e c₁. dual_walked n (R (n - u) e c₁)) (λ u e c₁ lu. refl) (read_level_fine l (omega arith)) (1 + 2 * N) t d c

    read_level_dual : (l : ℕ) → l ≤ h → (t d c : ℕ) → t ≤ n → read_level (dual n a) n N h Λ Δ' i b l t d c ≡ dual_walked n (read_level a n N h Λ Δ (n - i) b l (n - t) d c)
    unfolding read_level read_base
    read_level_dual zero k t d c lt = go (ltb c (1 + 2 * N)) refl (ltb (a (n - t) d) N) refl (refused_marks n h (Λ (a (n - t) d)) (Δ (a (n - t) d))) refl
      where
        back : n - (n - t) ≡ t
        back = omega arith

        go : (x : Bool) → ltb c (1 + 2 * N) ≡ x → (y : Bool) → ltb (a (n - t) d) N ≡ y → (z : Bool) → refused_marks n h (Λ (a (n - t) d)) (Δ (a (n - t) d)) ≡ z → read_base (dual n a) n N h Λ Δ' i b t d c ≡ dual_walked n (read_base a n N h Λ Δ (n - i) b (n - t) d c)
        go false p y q z r = let e : n - (n - i) ≡ i = omega arith in rw (p, read_base, e)
        go true p false q z r = rw (p, q, read_base, back)
        go true p true q true r = rw (p, q, dual_refused n N h Λ Δ ln (a (n - t) d), r, read_base, back)
        go true p true q false r = rw (p, q, dual_refused n N h Λ Δ ln (a (n - t) d), r, read_base, back)
    read_level_dual (suc l) k t d c lt =
        over_dual a i b li l k (read_level a n N h Λ Δ (n - i) b l) (read_level (dual n a) n N h Λ Δ' i b l) (read_level_dual l (omega arith)) (read_level_fine l (omega arith)) (1 + 2 * N) t d c lt

    pub by_levels_dual : (l : ℕ) → l ≤ h → by_levels (dual n a) n N h Λ Δ' i b l ≡ dual_walked n (by_levels a n N h Λ Δ (n - i) b l)
    unfolding by_levels
    by_levels_dual l k = read_level_dual l k i b 0 li

-- the dual of the dual: the rows up to n, and Δ
pub dual_back : (n : ℕ) (a : Involutions) (i d : ℕ) → i ≤ n → dual n (dual n a) i d ≡ a i d
dual_back n a i d li = let e : n - (n - i) ≡ i = omega arith in ap (λ (x : ℕ). a x d) e

pub dualΔ_back : (n h : ℕ) (Λ Δ : ℕ → ℕ) → n ≤ widest → (d : ℕ) → dualΔ n h Λ (dualΔ n h Λ Δ) d ≡ Δ d
dualΔ_back n h Λ Δ ln d = go (ltb (Λ d) h) refl
  where
    go : (x : Bool) → ltb (Λ d) h ≡ x → dualΔ n h Λ (dualΔ n h Λ Δ) d ≡ Δ d
    go true e = rw e (dual_twice n ln (Δ d))
    go false e = rw e

-- Rows in the other order and dual marks make an accepted pyramid again. Its levels have the rows of the levels in the other order, its walks read the
-- same darts by the rows in the other order and so count the same, and each level costs the same.
pub record Dual (a : Involutions) (n N h : ℕ) (Λ Δ : ℕ → ℕ) : Type 0 where
  pub pyramid : Pyramid (dual n a) n N h Λ (dualΔ n h Λ Δ)
  pub maps : (l i d : ℕ) → i ≤ n → level (dual n a) n N (marks h Λ (dualΔ n h Λ Δ)) l i d ≡ level a n N (marks h Λ Δ) l (n - i) d
  pub walks : (l i b : ℕ) → l ≤ h → i ≤ n → walk (dual n a) n N h Λ (dualΔ n h Λ Δ) l i b ≡ dual_walked n (walk a n N h Λ Δ l (n - i) b)
  pub by_levels_lem : (l i b : ℕ) → l ≤ h → i ≤ n → by_levels (dual n a) n N h Λ (dualΔ n h Λ Δ) i b l ≡ dual_walked n (by_levels a n N h Λ Δ (n - i) b l)
  pub costs : (l : ℕ) → l ≤ h → cost (dual n a) n N h Λ (dualΔ n h Λ Δ) l ≡ cost a n N h Λ Δ l

pub duality : (a : Involutions) (n N h : ℕ) (Λ Δ : ℕ → ℕ) → Pyramid a n N h Λ Δ → Dual a n N h Λ Δ
duality a n N h Λ Δ y = record {
  pyramid = pyramid_dual a n N h Λ Δ y;
  maps = levels_dual a n N h Λ Δ y;
  walks = λ l i b k li. walk_dual n N h Λ Δ y.dimension a l i b k li;
  by_levels_lem = λ l i b k li. by_levels_dual n N h Λ Δ y.dimension a i b li l k;
  costs = cost_dual n N h Λ Δ y.dimension a;
}

-- in the words of the check
pub check_dual : (a : Involutions) (n N h : ℕ) (Λ Δ : ℕ → ℕ) → n ≤ widest → check_pyramid a n N h Λ Δ ≡ accepted → check_pyramid (dual n a) n N h Λ (dualΔ n h Λ Δ) ≡ accepted
check_dual a n N h Λ Δ ln e = pyramid_check (dual n a) n N h Λ (dualΔ n h Λ Δ) ln (pyramid_dual a n N h Λ Δ (check_pyramid_lem a n N h Λ Δ ln e))
