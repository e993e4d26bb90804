-- From one level of an accepted pyramid to the next: the count of a link is the sum of the counts of the links that it is made of, and it stands since the new level exactly if there are several. Assumes nothing.
use mathlib.Core.Path.{◌≡◌, refl, sym, ap, ◌∙◌}
use mathlib.Core.Bool.{Bool, true, false, cond}
use Prim.Native.Nat.{ℕ, zero, suc, ◌+◌, ◌*◌, ◌≤◌, ◌<◌}
use native.Mathlib.Omega.{arith}
use lib.Dec.{ltb}
use borrow.Author.Tests.{eq-eqb, eqb-true, ltb-true, ltb-false, ne_eqb}
use Rattle.maps.specs.Map.{Involutions}
use Rattle.maps.specs.Mark.{between}
use Rattle.maps.specs.Removal.{marked, go_on, removal}
use Rattle.maps.specs.Folded.{On, gone, marks, level}
use Rattle.maps.specs.Trail.{since}
use Rattle.maps.specs.Cost.{reads}
use Rattle.maps.specs.Pyramid.{Pyramid}
use Rattle.maps.specs.UnfoldAll.{counts_from, counts_of}
use Rattle.laws.proofs.Counting.{count_le}
use Rattle.laws.proofs.Verdicts.{and_both}
use Rattle.laws.proofs.Marks.{mark_rows}
use Rattle.laws.proofs.MarkRows.{taken_is, marks_at_lem, allowed_small}
use Rattle.facts.proofs.Levels.{low, high, taken_in, level_valid}
use Rattle.facts.proofs.Towers.{in_kernel, on_below}
use Rattle.facts.proofs.TowerFacts.{Rounds, stop, pass, ByLevels}
use Rattle.facts.proofs.Readings.{own, walk_course}
use Rattle.facts.proofs.ByLevels.{reading_walk}
use Rattle.facts.proofs.Facts.{facts}
use Rattle.facts.proofs.Links.{stands_since_lem}

-- a dart that is not marked with row i is not passed
module _ (a : Involutions) (n : ℕ) (mark : ℕ → ℕ) (i e : ℕ) (q : marked a n mark i e ≡ false) where
  counts_stay : (count : ℕ → ℕ → ℕ) (times : ℕ) → counts_from a n mark count times i e ≡ 0
  unfolding counts_from
  counts_stay count zero = refl
  counts_stay count (suc times) = rw (q, counts_from)

  way_stays : (times : ℕ) → go_on a n mark times i e ≡ e
  unfolding go_on
  way_stays zero = refl
  way_stays (suc times) = rw (q, go_on)

-- one that is, is
counts_on_lem : (a : Involutions) (n : ℕ) (mark : ℕ → ℕ) (i e : ℕ) → marked a n mark i e ≡ true → (count : ℕ → ℕ → ℕ) (times : ℕ)
    → counts_from a n mark count (suc times) i e ≡ count (between (mark e)).1 e + (count i (a (between (mark e)).1 e) + counts_from a n mark count times i (a i (a (between (mark e)).1 e)))
unfolding counts_from
counts_on_lem a n mark i e q count times = rw (q, counts_from)

-- kernel l of an accepted pyramid
module _ (a : Involutions) (n N h : ℕ) (Λ Δ : ℕ → ℕ) (y : Pyramid a n N h Λ Δ) (l : ℕ) (f : l < h) where
  -- level l, its kernel's mark row and its counts
  abbrev A : Involutions
  A = level a n N (marks h Λ Δ) l

  abbrev mark : ℕ → ℕ
  mark = marks h Λ Δ l

  abbrev C : ℕ → ℕ → ℕ
  C = reads a n N h Λ Δ l

  -- a reading by levels on level l ends at its neighbour, and its count is that of the walk
  alike : (p t d e : ℕ) → t ≤ n → On N Λ l d → p < 1 + 2 * N → ByLevels a n N Λ (low Δ) (high Δ) l p t d e → (e ≡ A t d) × (suc p ≡ C t d)
  alike p t d e lt o g r =
      let w = reading_walk a n N h Λ Δ y l (omega arith) p t d e lt o g r in
      let u = (facts a n N h Λ Δ y l (omega arith)).ends t d lt o in
      (cc, cc)

  module _ (t : ℕ) (lt : t ≤ n) where
    -- a dart of the next level is not passed
    unmarked : (e : ℕ) → e < N → gone Λ (suc l) e ≡ false → marked A n mark t e ≡ false
    unmarked e le q = rw (taken_in a n N h Λ Δ y.dimension y.allowed l e f le ∙ ne_eqb (Λ e) l (λ z. let w = ltb-false (Λ e) (suc l) q in omega arith))

    -- a dart of kernel l whose mark's first row is t is passed
    passed : (e : ℕ) → e < N → in_kernel Λ l e ≡ true → low Δ e ≡ t → (marked A n mark t e ≡ true) × (mark e ≡ Δ e)
    passed e le q z =
        let m : mark e ≡ Δ e = marks_at_lem n h Λ Δ l e f (eqb-true (Λ e) l q) in
        (rw (taken_in a n N h Λ Δ y.dimension y.allowed l e f le ∙ q, m) (eq-eqb (low Δ e) t z), m)

    rounds : (times p d e : ℕ) → p ≤ 2 * times → p < 1 + 2 * N → On N Λ l d → Rounds a n N Λ (low Δ) (high Δ) (ByLevels a n N Λ (low Δ) (high Δ) l) l t p d e
        → suc p ≡ C t d + counts_from A n mark C times t (A t d)
    rounds times p d e m g o (stop r q) =
        let w = alike p t d e lt o g r in
        let v = (level_valid a n N h Λ Δ y l (omega arith)).inside t d lt o in
        omega (arith, w.1, counts_stay A n mark t (A t d) (unmarked (A t d) v.0 (rw (← w.0) q)) C times)
    rounds zero p d e m g o (pass {p₁} {p₂} {p₃} {e₁ = e₁} {e₂ = e₂} r₁ k₁ dim₁ r₂ k₂ dim₂ via₂ x) = absurd (omega arith)
    rounds (suc times) p d e m g o (pass {p₁} {p₂} {p₃} {e₁ = e₁} {e₂ = e₂} r₁ k₁ dim₁ r₂ k₂ dim₂ via₂ x) =
        let v = level_valid a n N h Λ Δ y l (omega arith) in
        let w₁ = alike p₁ t d e₁ lt o (omega arith) r₁ in
        let o₁ : On N Λ l e₁ = rw w₁.0 (v.inside t d lt o) in
        let l₁ = eqb-true (Λ e₁) l k₁ in
        let ls : high Δ e₁ ≤ n = (mark_rows n (Δ e₁) (allowed_small n h Λ Δ e₁ (y.allowed e₁ o₁.0) (omega arith))).second in
        let w₂ = alike p₂ (high Δ e₁) e₁ e₂ ls o₁ (omega arith) r₂ in
        let o₂ : On N Λ l e₂ = rw w₂.0 (v.inside (high Δ e₁) e₁ ls o₁) in
        let w₃ = rounds times p₃ e₂ e (omega arith) (omega arith) o₂ x in
        let q = passed e₁ o₁.0 k₁ dim₁ in
        let k : counts_from A n mark C (suc times) t e₁ ≡ C (high Δ e₁) e₁ + (C t (A (high Δ e₁) e₁) + counts_from A n mark C times t (A t (A (high Δ e₁) e₁))) = rw q.1 at (counts_on_lem A n mark t e₁ q.0 C times) in
        let k₂ : C t (A (high Δ e₁) e₁) + counts_from A n mark C times t (A t (A (high Δ e₁) e₁)) ≡ C t e₂ + counts_from A n mark C times t (A t e₂) = ap (λ (x : ℕ). C t x + counts_from A n mark C times t (A t x)) (sym w₂.0) in
        omega (arith, w₁.1, w₂.1, w₃, k, k₂, ap (counts_from A n mark C (suc times) t) w₁.0)

  module _ (i b : ℕ) (li : i ≤ n) (o : On N Λ (suc l) b) where
    -- the count of a link on level l+1 is that of the links of level l that it is made of
    pub carried_count : reads a n N h Λ Δ (suc l) i b ≡ counts_of A n mark C N i b
    unfolding counts_of
    carried_count =
        let F = own a n N h Λ Δ y (suc l) f in
        let w = F.course i b li o in
        let few = F.few i b li o in
        let c = count_le (gone Λ (suc l)) N in
        let u = (facts a n N h Λ Δ y (suc l) f).ends i b li o in
        let z = walk_course a n N h Λ Δ y (suc l) f i b li o in
        let s : reads a n N h Λ Δ (suc l) i b ≡ suc w.passes = cc in
        s ∙ rounds i li N w.passes b _ (omega arith) (omega arith) (on_below N Λ l b o).0 w.alike

    -- its level since which: l+1 where it leads into the kernel, else as before
    pub carried_since : since a N Λ Δ (suc l) i b ≡ cond (marked A n mark i (A i b)) (suc l) (since a N Λ Δ l i b)
    unfolding level removal
    carried_since = go (marked A n mark i (A i b)) refl
      where
        below : On N Λ l b
        below = (on_below N Λ l b o).0

        go : (x : Bool) → marked A n mark i (A i b) ≡ x → since a N Λ Δ (suc l) i b ≡ cond x (suc l) (since a N Λ Δ l i b)
        go true q = above (ltb (since a N Λ Δ (suc l) i b) (suc l)) refl
          where
            above : (x : Bool) → ltb (since a N Λ Δ (suc l) i b) (suc l) ≡ x → since a N Λ Δ (suc l) i b ≡ suc l
            above false z = let s = stands_since_lem a n N h Λ Δ y (suc l) f i b li o in omega (arith, s.at_most, ltb-false (since a N Λ Δ (suc l) i b) (suc l) z)
            above true z =
                let s = stands_since_lem a n N h Λ Δ y (suc l) f i b li o in
                let u = ltb-true (since a N Λ Δ (suc l) i b) (suc l) z in
                let e = s.same l (omega arith) (omega arith) in
                let v = (level_valid a n N h Λ Δ y (suc l) f).inside i b li o in
                let t = taken_is n h Λ Δ y.dimension l (A i b) (and_both _ _ q).0 in
                let k : suc l ≤ Λ (A i b) = rw e v.1 in
                absurd (omega (arith, t.lambda))
        go false q =
            let s = stands_since_lem a n N h Λ Δ y (suc l) f i b li o in
            let u = stands_since_lem a n N h Λ Δ y l (omega arith) i b li below in
            let e : level a n N (marks h Λ Δ) (suc l) i b ≡ A i b = way_stays A n mark i (A i b) q N in
            let no : since a N Λ Δ (suc l) i b < since a N Λ Δ l i b → ⊥ = λ z. let m = since a N Λ Δ (suc l) i b in u.other m z (s.same m (omega arith) s.at_most ∙ e) in
            let on : since a N Λ Δ l i b < since a N Λ Δ (suc l) i b → ⊥ = λ z. let m = since a N Λ Δ l i b in s.other m z (u.same m (omega arith) u.at_most ∙ sym e) in
            omega arith
