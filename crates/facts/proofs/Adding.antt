-- A pyramid with one accepted kernel more: the lower levels stay, and the new top is the removal. Assumes nothing.
use mathlib.Core.Path.{◌≡◌, refl, sym, ◌∙◌}
use mathlib.Core.Bool.{Bool, true, false, cond, ◌&&◌}
use Prim.Native.Nat.{ℕ, suc, ◌≤◌, ◌<◌}
use native.Mathlib.Omega.{arith}
use lib.Dec.{eqb, ltb}
use borrow.Author.Tests.{eqb-true, eqb-false, eq-eqb, ne_eqb, ltb-true, ltb-false, lt-ltb, le-ltb, not-false}
use Rattle.maps.specs.Map.{Involutions}
use Rattle.maps.specs.Mark.{is_mark, stay}
use Rattle.maps.specs.Kernel.{Kernel}
use Rattle.maps.specs.Removal.{removal}
use Rattle.maps.specs.Folded.{On, refused_marks, marks, addΛ, addΔ, level}
use Rattle.maps.specs.MarkRow.{Row}
use Rattle.maps.specs.Pyramid.{Pyramid}
use Rattle.laws.proofs.MarkRows.{marks_at_lem}
use Rattle.facts.proofs.Levels.{level_at, level_valid}
use Rattle.facts.proofs.Agreement.{removal_local, kernel_same, level_same}

-- the marks of darts whose Λ is not l
pub marks_not : (h : ℕ) (Λ Δ : ℕ → ℕ) (l d : ℕ) → (Λ d ≡ l → ⊥) → marks h Λ Δ l d ≡ stay
marks_not h Λ Δ l d ne = go (ltb l h)
  where
    go : (x : Bool) → cond (x && eqb (Λ d) l) (Δ d) stay ≡ stay
    go true = rw (ne_eqb (Λ d) l ne)
    go false = refl

-- marks that are allowed: below h with a mark, or at h with n
pub data Allowed (n h lambda delta : ℕ) : Type 0 where
  removed : lambda < h → is_mark n delta ≡ true → Allowed n h lambda delta
  never : lambda ≡ h → delta ≡ n → Allowed n h lambda delta

pub allowed_cases : (n h lambda delta : ℕ) → refused_marks n h lambda delta ≡ false → Allowed n h lambda delta
allowed_cases n h x y e = go (ltb h x) refl (ltb x h) refl
  where
    go : (p : Bool) → ltb h x ≡ p → (q : Bool) → ltb x h ≡ q → Allowed n h x y
    go true p q r = let z : true ≡ false = rw p at e in absurd (mathlib.Core.Bool.true≢false z)
    go false p true r = removed (ltb-true x h r) (not-false (is_mark n y) (rw (p, r) at e))
    go false p false r =
        let u = ltb-false h x p in
        let w = ltb-false x h r in
        never (omega arith) (eqb-true y n (not-false (eqb y n) (rw (p, r) at e)))

pub cases_allowed : (n h lambda delta : ℕ) → Allowed n h lambda delta → refused_marks n h lambda delta ≡ false
cases_allowed n h x y (removed l m) = rw (le-ltb h x (omega arith), lt-ltb x h l, m)
cases_allowed n h x y (never e f) = rw (le-ltb h x (omega arith), le-ltb x h (omega arith), eq-eqb y n f)

-- a dart under a level added: it is marked, it stays, or it was removed before
data Dart (n h : ℕ) (Λ Δ mark : ℕ → ℕ) (d : ℕ) : Type 0 where
  now : is_mark n (mark d) ≡ true → Λ d ≡ h → addΛ n h Λ mark d ≡ h → addΔ n Δ mark d ≡ mark d → Dart n h Λ Δ mark d
  stays : is_mark n (mark d) ≡ false → Λ d ≡ h → addΛ n h Λ mark d ≡ suc h → addΔ n Δ mark d ≡ Δ d → Dart n h Λ Δ mark d
  before : is_mark n (mark d) ≡ false → (Λ d ≡ h → ⊥) → addΛ n h Λ mark d ≡ Λ d → addΔ n Δ mark d ≡ Δ d → Dart n h Λ Δ mark d

module _ (n N h : ℕ) (Λ Δ mark : ℕ → ℕ) (r : Row n N h Λ mark) where
  dart : (d : ℕ) → d < N → Dart n h Λ Δ mark d
  dart d ld = go (is_mark n (mark d)) refl (eqb (Λ d) h) refl
    where
      go : (x : Bool) → is_mark n (mark d) ≡ x → (y : Bool) → eqb (Λ d) h ≡ y → Dart n h Λ Δ mark d
      go true q y e = now q (r.top d ld q) (rw q) (rw q)
      go false q true e = stays q (eqb-true (Λ d) h e) (rw (q, e)) (rw q)
      go false q false e = before q (eqb-false (Λ d) h e) (rw (q, e)) (rw q)

  -- the mark rows below stay
  pub marks_kept : (l d : ℕ) → l < h → d < N → marks h Λ Δ l d ≡ marks (suc h) (addΛ n h Λ mark) (addΔ n Δ mark) l d
  marks_kept l d k ld = go (dart d ld)
    where
      go : Dart n h Λ Δ mark d → marks h Λ Δ l d ≡ marks (suc h) (addΛ n h Λ mark) (addΔ n Δ mark) l d
      go (now q e u w) = marks_not h Λ Δ l d (λ z. omega arith) ∙ sym (marks_not (suc h) (addΛ n h Λ mark) (addΔ n Δ mark) l d (λ z. omega arith))
      go (stays q e u w) = marks_not h Λ Δ l d (λ z. omega arith) ∙ sym (marks_not (suc h) (addΛ n h Λ mark) (addΔ n Δ mark) l d (λ z. omega arith))
      go (before q e u w) = rw (lt-ltb l h k, lt-ltb l (suc h) (omega arith), u, w)

  -- the new one is the row added
  pub marks_new : (d : ℕ) → d < N → marks (suc h) (addΛ n h Λ mark) (addΔ n Δ mark) h d ≡ mark d
  marks_new d ld = go (dart d ld)
    where
      go : Dart n h Λ Δ mark d → marks (suc h) (addΛ n h Λ mark) (addΔ n Δ mark) h d ≡ mark d
      go (now q e u w) = marks_at_lem n (suc h) (addΛ n h Λ mark) (addΔ n Δ mark) h d (omega arith) u ∙ w
      go (stays q e u w) = marks_not (suc h) (addΛ n h Λ mark) (addΔ n Δ mark) h d (λ z. omega arith) ∙ sym (r.rest d ld q)
      go (before q e u w) = marks_not (suc h) (addΛ n h Λ mark) (addΔ n Δ mark) h d (λ z. e (sym u ∙ z)) ∙ sym (r.rest d ld q)

  -- so do the survivors of the levels below
  pub on_kept : (l d : ℕ) → l ≤ h → On N (addΛ n h Λ mark) l d → On N Λ l d
  on_kept l d k o = go (dart d o.0)
    where
      go : Dart n h Λ Δ mark d → On N Λ l d
      go (now q e u w) = (o.0, omega arith)
      go (stays q e u w) = (o.0, omega arith)
      go (before q e u w) = (o.0, omega (arith, o.1))

  pub allowed_added : (d : ℕ) → d < N → refused_marks n h (Λ d) (Δ d) ≡ false → refused_marks n (suc h) (addΛ n h Λ mark d) (addΔ n Δ mark d) ≡ false
  allowed_added d ld e = cases_allowed n (suc h) (addΛ n h Λ mark d) (addΔ n Δ mark d) (go (dart d ld) (allowed_cases n h (Λ d) (Δ d) e))
    where
      go : Dart n h Λ Δ mark d → Allowed n h (Λ d) (Δ d) → Allowed n (suc h) (addΛ n h Λ mark d) (addΔ n Δ mark d)
      go (now q f u w) x = removed (omega arith) (rw w q)
      go (stays q f u w) (removed l m) = absurd (omega arith)
      go (stays q f u w) (never z m) = never u (w ∙ m)
      go (before q f u w) (removed l m) = removed (omega arith) (rw w m)
      go (before q f u w) (never z m) = absurd (f z)

module _ (a : Involutions) (n N h : ℕ) (Λ Δ : ℕ → ℕ) (y : Pyramid a n N h Λ Δ) (mark : ℕ → ℕ) (r : Row n N h Λ mark) (k : Kernel (level_at a n N h Λ Δ y h) n (On N Λ h) mark) where
  abbrev Λ' : ℕ → ℕ
  Λ' = addΛ n h Λ mark

  abbrev Δ' : ℕ → ℕ
  Δ' = addΔ n Δ mark

  down : (l d : ℕ) → On N Λ (suc l) d → On N Λ l d
  down l d o = (o.0, omega (arith, o.1))

  -- the lower levels stay
  pub level_kept : (l : ℕ) → l ≤ h → (i d : ℕ) → i ≤ n → On N Λ l d → level_at a n N h Λ Δ y l i d ≡ level a n N (marks (suc h) Λ' Δ') l i d
  level_kept =
      level_same a n N h (marks h Λ Δ) (marks (suc h) Λ' Δ') (On N Λ) down (λ l z. level_valid a n N h Λ Δ y l (omega arith)) y.kernel (λ l d z o. marks_kept n N h Λ Δ mark r l d z o.0)

  kernel_at_lem : (l : ℕ) → l < suc h → Kernel (level a n N (marks (suc h) Λ' Δ') l) n (On N Λ' l) (marks (suc h) Λ' Δ' l)
  kernel_at_lem l f = go (eqb l h) refl
    where
      go : (x : Bool) → eqb l h ≡ x → Kernel (level a n N (marks (suc h) Λ' Δ') l) n (On N Λ' l) (marks (suc h) Λ' Δ' l)
      go true e =
          rw (eqb-true l h e)
          (kernel_same (level_at a n N h Λ Δ y h) (level a n N (marks (suc h) Λ' Δ') h) n (On N Λ h) (On N Λ' h) mark (marks (suc h) Λ' Δ' h) (level_valid a n N h Λ Δ y h (omega arith)) k
          (level_kept h (omega arith)) (λ d o. sym (marks_new n N h Λ Δ mark r d o.0)) (λ d o. on_kept n N h Λ Δ mark r h d (omega arith) o))
      go false e =
          let ne : l ≡ h → ⊥ = eqb-false l h e in
          let z : l < h = omega arith in
          kernel_same (level_at a n N h Λ Δ y l) (level a n N (marks (suc h) Λ' Δ') l) n (On N Λ l) (On N Λ' l) (marks h Λ Δ l) (marks (suc h) Λ' Δ' l) (level_valid a n N h Λ Δ y l (omega arith)) (y.kernel l z)
          (level_kept l (omega arith)) (λ d o. marks_kept n N h Λ Δ mark r l d z o.0) (λ d o. on_kept n N h Λ Δ mark r l d (omega arith) o)

  -- an added level makes an accepted pyramid
  pub added : Pyramid a n N (suc h) Λ' Δ'
  added = record {
    dimension = y.dimension;
    base = y.base;
    allowed = λ d ld. allowed_added n N h Λ Δ mark r d ld (y.allowed d ld);
    kernel = kernel_at_lem;
  }

  -- the new top is the removal
  pub level_new : (i d : ℕ) → i ≤ n → On N Λ h d → removal (level_at a n N h Λ Δ y h) n mark N i d ≡ level a n N (marks (suc h) Λ' Δ') (suc h) i d
  unfolding level
  level_new i d li o =
      removal_local (level_at a n N h Λ Δ y h) (level a n N (marks (suc h) Λ' Δ') h) n (On N Λ h) mark (marks (suc h) Λ' Δ' h) (level_valid a n N h Λ Δ y h (omega arith)) k
      (λ t e lt p q. level_kept h (omega arith) t e lt p) (λ e p. sym (marks_new n N h Λ Δ mark r e p.0)) N i d li o (level_kept h (omega arith) i d li o)
