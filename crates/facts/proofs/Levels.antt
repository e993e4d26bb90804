-- The levels of an accepted pyramid: they are those of a tower whose darts are passed between the rows of their marks, so each is a valid map on its survivors. Assumes nothing.
use mathlib.Core.Path.{◌≡◌, refl, sym, ap, ◌∙◌, fun_ext}
use mathlib.Core.Bool.{Bool, true, false}
use Prim.Native.Nat.{ℕ, zero, suc, ◌≤◌, ◌<◌}
use native.Mathlib.Omega.{arith}
use lib.Dec.{eqb}
use borrow.Author.Tests.{eqb-true, eqb-false}
use Rattle.maps.specs.Map.{Involutions, Valid}
use Rattle.maps.specs.Mark.{is_mark, widest, between}
use Rattle.maps.specs.Kernel.{Kernel}
use Rattle.maps.specs.Folded.{On, refused_marks, marks, level}
use Rattle.maps.specs.Pyramid.{Pyramid}
use Rattle.laws.proofs.MarkRows.{taken, taken_is, marks_at_lem, allowed_small}
use Rattle.facts.proofs.Removals.{without}
use Rattle.facts.proofs.Kernels.{removal_without, passing}
use Rattle.facts.proofs.Agreement.{valid_same}
use Rattle.facts.proofs.Namings.{passing_same, without_same}
use Rattle.facts.proofs.Towers.{in_kernel, floor, Tower, on_below, tower_of, tower_valid}

-- the rows between which a walk passes dart d
abbrev pub low : (ℕ → ℕ) → ℕ → ℕ
low Δ d = (between (Δ d)).0

abbrev pub high : (ℕ → ℕ) → ℕ → ℕ
high Δ d = (between (Δ d)).1

module _ (a : Involutions) (n N h : ℕ) (Λ Δ : ℕ → ℕ) (ln : n ≤ widest) (allowed : (d : ℕ) → d < N → refused_marks n h (Λ d) (Δ d) ≡ false) where
  -- the mark row of level l marks the darts of kernel l
  pub taken_in : (l d : ℕ) → l < h → d < N → taken n h Λ Δ l d ≡ in_kernel Λ l d
  taken_in l d k ld = go (eqb (Λ d) l) refl (taken n h Λ Δ l d) refl
    where
      go : (x : Bool) → eqb (Λ d) l ≡ x → (y : Bool) → taken n h Λ Δ l d ≡ y → taken n h Λ Δ l d ≡ in_kernel Λ l d
      go true e y q = let f = eqb-true (Λ d) l e in ap (is_mark n) (marks_at_lem n h Λ Δ l d k f) ∙ allowed_small n h Λ Δ d (allowed d ld) (omega arith) ∙ sym e
      go false e true q = absurd (eqb-false (Λ d) l e (taken_is n h Λ Δ ln l d q).lambda)
      go false e false q = q ∙ sym e

  rows : (l d : ℕ) → taken n h Λ Δ l d ≡ true → (low Δ d ≡ (between (marks h Λ Δ l d)).0) × (high Δ d ≡ (between (marks h Λ Δ l d)).1)
  rows l d q = let t = taken_is n h Λ Δ ln l d q in rw t.mark (refl, refl)

  level_suc : (l : ℕ) → level a n N (marks h Λ Δ) (suc l) ≡ without (level a n N (marks h Λ Δ) l) (low Δ) (high Δ) (taken n h Λ Δ l) N
  unfolding level
  level_suc l = fun_ext (λ i. fun_ext (λ b. removal_without (level a n N (marks h Λ Δ) l) n (marks h Λ Δ l) (low Δ) (high Δ) (rows l) N i b))

  -- the levels of a tower of these marks, up to its top, are those of the mark rows
  pub floor_level : (top : ℕ) → top ≤ h → Tower a n N top Λ (low Δ) (high Δ) → (l : ℕ) → l ≤ top → (i d : ℕ) → i ≤ n → On N Λ l d → floor a (low Δ) (high Δ) N Λ l i d ≡ level a n N (marks h Λ Δ) l i d
  unfolding level floor
  floor_level top lt t zero k i d li o = refl
  floor_level top lt t (suc l) k i d li o =
      without_same (floor a (low Δ) (high Δ) N Λ l) (level a n N (marks h Λ Δ) l) n (On N Λ l) (tower_valid a n N top Λ (low Δ) (high Δ) t l (omega arith)) (low Δ) (high Δ) (low Δ) (high Δ) (in_kernel Λ l) (taken n h Λ Δ l) (t.kernel l k)
      (floor_level top lt t l (omega arith)) (λ x p. sym (taken_in l x (omega arith) p.0)) (λ x p q. (refl, refl)) N i d li (on_below N Λ l d o).0
      ∙ sym (ap (λ (b : Involutions). b i d) (level_suc l))

  -- a valid base, and kernels of the levels below top, in the document's words
  module _ (base : Valid a n (λ d. d < N)) (top : ℕ) (lt : top ≤ h) (kernel : (l : ℕ) → l < top → Kernel (level a n N (marks h Λ Δ) l) n (On N Λ l) (marks h Λ Δ l)) where
    -- they are a tower
    pub kernels_tower : Tower a n N top Λ (low Δ) (high Δ)
    kernels_tower =
        tower_of a n N Λ (low Δ) (high Δ) base top (λ l f t.
        let F = floor a (low Δ) (high Δ) N Λ l in
        let A = level a n N (marks h Λ Δ) l in
        let agree = floor_level l (omega arith) t l (omega arith) in
        let v = valid_same F A n (On N Λ l) agree (tower_valid a n N l Λ (low Δ) (high Δ) t l (omega arith)) in
        passing_same A F n (On N Λ l) v (low Δ) (high Δ) (low Δ) (high Δ) (taken n h Λ Δ l) (in_kernel Λ l) (passing A n (marks h Λ Δ l) (low Δ) (high Δ) (rows l) (On N Λ l) v (kernel l f))
        (λ i d li o. sym (agree i d li o)) (λ x o. taken_in l x (omega arith) o.0) (λ x o q. (refl, refl)))

    -- each level is a valid map on exactly its survivors
    pub levels_valid : (l : ℕ) → l ≤ top → Valid (level a n N (marks h Λ Δ) l) n (On N Λ l)
    levels_valid l k = valid_same (floor a (low Δ) (high Δ) N Λ l) (level a n N (marks h Λ Δ) l) n (On N Λ l) (floor_level top lt kernels_tower l k) (tower_valid a n N top Λ (low Δ) (high Δ) kernels_tower l k)

module _ (a : Involutions) (n N h : ℕ) (Λ Δ : ℕ → ℕ) (y : Pyramid a n N h Λ Δ) where
  abbrev pub level_at : ℕ → Involutions
  level_at l = level a n N (marks h Λ Δ) l

  -- an accepted pyramid is a tower
  pub pyramid_tower : Tower a n N h Λ (low Δ) (high Δ)
  pyramid_tower = kernels_tower a n N h Λ Δ y.dimension y.allowed y.base h (omega arith) y.kernel

  -- its levels are the tower's
  pub level_floor : (l : ℕ) → l ≤ h → (i d : ℕ) → i ≤ n → On N Λ l d → level a n N (marks h Λ Δ) l i d ≡ floor a (low Δ) (high Δ) N Λ l i d
  level_floor l k i d li o = sym (floor_level a n N h Λ Δ y.dimension y.allowed h (omega arith) pyramid_tower l k i d li o)

  -- every level is a valid map on exactly its survivors
  pub level_valid : (l : ℕ) → l ≤ h → Valid (level a n N (marks h Λ Δ) l) n (On N Λ l)
  level_valid = levels_valid a n N h Λ Δ y.dimension y.allowed y.base h (omega arith) y.kernel
