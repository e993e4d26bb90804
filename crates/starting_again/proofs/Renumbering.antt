-- A pyramid whose base is a level of another under new numbers: it is accepted, and its levels are those of the other. Assumes nothing.
use mathlib.Core.Path.{◌≡◌, refl, sym, ap, ◌∙◌}
use mathlib.Core.Bool.{Bool, true, false}
use Prim.Native.Nat.{ℕ, zero, suc, ◌+◌, ◌≤◌, ◌<◌}
use native.Mathlib.Omega.{arith}
use lib.Dec.{eqb, ltb}
use borrow.Author.Count.{below_more}
use borrow.Author.Tests.{eqb-true, eqb-false, eq-eqb, ne_eqb, ltb-true, ltb-false, lt-ltb, le-ltb}
use Rattle.maps.specs.Map.{Involutions, Valid}
use Rattle.maps.specs.Kernel.{Kernel}
use Rattle.maps.specs.Folded.{On, refused_marks, marks, level}
use Rattle.maps.specs.Pyramid.{Pyramid}
use Rattle.facts.proofs.Levels.{taken_in, levels_valid, level_valid}
use Rattle.facts.proofs.Towers.{on_below}
use Rattle.starting_again.proofs.Renaming.{Renaming, valid_renamed, kernel_renamed, removed_renamed}

-- tests of numbers that are both raised by l
pub ltb_raised : (l x y : ℕ) → ltb (l + x) (l + y) ≡ ltb x y
ltb_raised l x y = go (ltb x y) refl
  where
    go : (b : Bool) → ltb x y ≡ b → ltb (l + x) (l + y) ≡ b
    go true q = lt-ltb (l + x) (l + y) (omega (arith, ltb-true x y q))
    go false q = le-ltb (l + x) (l + y) (omega (arith, ltb-false x y q))

-- the same of equality
pub eqb_raised : (l x y : ℕ) → eqb (l + x) (l + y) ≡ eqb x y
eqb_raised l x y = go (eqb x y) refl
  where
    go : (b : Bool) → eqb x y ≡ b → eqb (l + x) (l + y) ≡ b
    go true q = eq-eqb (l + x) (l + y) (omega (arith, eqb-true x y q))
    go false q = let ne : x ≡ y → ⊥ = eqb-false x y q in ne_eqb (l + x) (l + y) (λ e. omega arith)

-- Λ and h raised by l are refused as before
pub refused_raised : (n l h lambda delta : ℕ) → refused_marks n (l + h) (l + lambda) delta ≡ refused_marks n h lambda delta
refused_raised n l h lambda delta = rw (ltb_raised l h lambda, ltb_raised l lambda h)

-- The pyramid a', N', h', Λ', Δ' has level l of the pyramid a, N, h, Λ, Δ for its base: dart d is dart `old d` there, Λ and h are reduced by l.
pub record Renumbered (a : Involutions) (n N h : ℕ) (Λ Δ : ℕ → ℕ) (l : ℕ) (a' : Involutions) (N' h' : ℕ) (Λ' Δ' old : ℕ → ℕ) : Type 0 where
  pub height : h ≡ l + h'
  pub there : (d : ℕ) → d < N' → old d < N
  pub one_to_one : (d e : ℕ) → d < N' → e < N' → old d ≡ old e → d ≡ e
  pub inside : (i d : ℕ) → i ≤ n → d < N' → a' i d < N'
  pub neighbour : (i d : ℕ) → i ≤ n → d < N' → old (a' i d) ≡ level a n N (marks h Λ Δ) l i (old d)
  pub lambda : (d : ℕ) → d < N' → Λ (old d) ≡ l + Λ' d
  pub delta : (d : ℕ) → d < N' → Δ' d ≡ Δ (old d)

module _ (a : Involutions) (n N h : ℕ) (Λ Δ : ℕ → ℕ) (y : Pyramid a n N h Λ Δ) (l : ℕ) (a' : Involutions) (N' h' : ℕ) (Λ' Δ' old : ℕ → ℕ) (r : Renumbered a n N h Λ Δ l a' N' h' Λ' Δ' old) where
  -- the level under the old numbers and the level under the new ones
  abbrev old_at : ℕ → Involutions
  old_at k = level a n N (marks h Λ Δ) (l + k)

  abbrev new_at : ℕ → Involutions
  new_at k = level a' n N' (marks h' Λ' Δ') k

  -- survivors correspond
  pub on_old : (k d : ℕ) → On N' Λ' k d → On N Λ (l + k) (old d)
  on_old k d o = (r.there d o.0, omega (arith, r.lambda d o.0, o.1))

  -- and back
  pub on_new : (k d : ℕ) → d < N' → l + k ≤ Λ (old d) → On N' Λ' k d
  on_new k d ld f = (ld, omega (arith, r.lambda d ld))

  -- so do mark rows, whatever the marks say
  pub marks_renumbered : (k d : ℕ) → d < N' → marks h' Λ' Δ' k d ≡ marks h Λ Δ (l + k) (old d)
  marks_renumbered k d ld = rw (r.height, r.lambda d ld, ltb_raised l k h', eqb_raised l (Λ' d) k, r.delta d ld)

  -- marks that were allowed are allowed
  allowed : (d : ℕ) → d < N' → refused_marks n h' (Λ' d) (Δ' d) ≡ false
  allowed d ld =
      let e : refused_marks n h (Λ (old d)) (Δ (old d)) ≡ false = y.allowed (old d) (r.there d ld) in
      let e₁ : refused_marks n (l + h') (l + Λ' d) (Δ' d) ≡ false = rw (r.height, r.lambda d ld, ← (r.delta d ld)) at e in
      sym (refused_raised n l h' (Λ' d) (Δ' d)) ∙ e₁

  -- level l is a level
  low_enough : l ≤ h
  low_enough = omega (arith, r.height)

  -- the new base under its old numbers
  pub base_renaming : Renaming old a' (level a n N (marks h Λ Δ) l) n (λ d. d < N') (On N Λ l)
  base_renaming = record {
    there = λ d ld. (r.there d ld, omega (arith, r.lambda d ld));
    one_to_one = r.one_to_one;
    inside = r.inside;
    neighbour = r.neighbour;
  }

  -- the new base is a valid map
  base : Valid a' n (λ d. d < N')
  base = valid_renamed old a' (level a n N (marks h Λ Δ) l) n (λ d. d < N') (On N Λ l) base_renaming (level_valid a n N h Λ Δ y l low_enough)

  -- level k of the new pyramid: the kernels below it are kernels, it is a valid map, and level l + k of the old one
  pub record Alike (k : ℕ) : Type 0 where
    pub kernels : (j : ℕ) → j < k → Kernel (new_at j) n (On N' Λ' j) (marks h' Λ' Δ' j)
    pub valid : Valid (new_at k) n (On N' Λ' k)
    pub neighbour : (i d : ℕ) → i ≤ n → On N' Λ' k d → old (new_at k i d) ≡ old_at k i (old d)

  -- the new level k under its old numbers
  renaming : (k : ℕ) → Alike k → Renaming old (new_at k) (old_at k) n (On N' Λ' k) (On N Λ (l + k))
  renaming k s = record {
    there = on_old k;
    one_to_one = λ d e o p. r.one_to_one d e o.0 p.0;
    inside = s.valid.inside;
    neighbour = s.neighbour;
  }

  -- a kernel below the new top was one below the old top
  below : (k : ℕ) → k < h' → l + k < h
  below k f = omega (arith, r.height)

  -- kernel k is the old kernel l + k
  kernel : (k : ℕ) → k < h' → Alike k → Kernel (new_at k) n (On N' Λ' k) (marks h' Λ' Δ' k)
  kernel k f s =
      kernel_renamed old (new_at k) (old_at k) n (On N' Λ' k) (On N Λ (l + k)) (renaming k s) (marks h' Λ' Δ' k) (marks h Λ Δ (l + k)) (λ d o. marks_renumbered k d o.0) (y.kernel (l + k) (below k f))

  -- one level up
  alike_suc : (k : ℕ) → k < h' → Alike k → Alike (suc k)
  unfolding level
  alike_suc k f s =
      let e : l + suc k ≡ suc (l + k) = omega arith in
      let kernels : (j : ℕ) → j < suc k → Kernel (new_at j) n (On N' Λ' j) (marks h' Λ' Δ' j) = λ j g. below_more (λ j. Kernel (new_at j) n (On N' Λ' j) (marks h' Λ' Δ' j)) k s.kernels (kernel k f s) j (omega arith) in
      record {
        kernels = kernels;
        valid = levels_valid a' n N' h' Λ' Δ' y.dimension allowed base (suc k) f kernels (suc k) (omega arith);
        neighbour = λ i d li o.
            let w = on_below N' Λ' k d o in
            rw e
            (removed_renamed old (new_at k) (old_at k) n (On N' Λ' k) (On N Λ (l + k)) (renaming k s) (marks h' Λ' Δ' k) (marks h Λ Δ (l + k)) (λ d o. marks_renumbered k d o.0)
            (level_valid a n N h Λ Δ y (l + k) (omega (arith, below k f))) (y.kernel (l + k) (below k f)) N' N (λ d o. o.0) (λ d o. o.0) i d li w.0 (taken_in a' n N' h' Λ' Δ' y.dimension allowed k d f o.0 ∙ w.1));
      }

  -- every level
  pub alike : (k : ℕ) → k ≤ h' → Alike k
  unfolding level
  alike zero f =
      let e : l + zero ≡ l = omega arith in
      let none : (j : ℕ) → j < zero → Kernel (new_at j) n (On N' Λ' j) (marks h' Λ' Δ' j) = λ j g. absurd (omega arith) in
      record { kernels = none; valid = levels_valid a' n N' h' Λ' Δ' y.dimension allowed base zero f none zero (omega arith); neighbour = λ i d li o. rw e (r.neighbour i d li o.0) }
  alike (suc k) f = alike_suc k f (alike k (omega arith))

  -- it is an accepted pyramid
  pub renumbered_pyramid : Pyramid a' n N' h' Λ' Δ'
  renumbered_pyramid = record {
    dimension = y.dimension;
    base = base;
    allowed = allowed;
    kernel = (alike h' (omega arith)).kernels;
  }

-- tables that agree at the rows and darts there are do as well
pub renumbered_agree : (a : Involutions) (n N h : ℕ) (Λ Δ : ℕ → ℕ) (l : ℕ) (a' a'' : Involutions) (N' h' : ℕ) (Λ' Λ'' Δ' Δ'' old' old'' : ℕ → ℕ)
    → ((i d : ℕ) → i ≤ n → d < N' → a'' i d ≡ a' i d) → ((d : ℕ) → d < N' → Λ'' d ≡ Λ' d) → ((d : ℕ) → d < N' → Δ'' d ≡ Δ' d) → ((d : ℕ) → d < N' → old'' d ≡ old' d)
    → Renumbered a n N h Λ Δ l a' N' h' Λ' Δ' old' → Renumbered a n N h Λ Δ l a'' N' h' Λ'' Δ'' old''
renumbered_agree a n N h Λ Δ l a' a'' N' h' Λ' Λ'' Δ' Δ'' old' old'' same-a same-Λ same-Δ same_old r = record {
  height = r.height;
  there = λ d ld. rw (same_old d ld) (r.there d ld);
  one_to_one = λ d e ld le z. r.one_to_one d e ld le (sym (same_old d ld) ∙ z ∙ same_old e le);
  inside = λ i d li ld. rw (same-a i d li ld) (r.inside i d li ld);
  neighbour = λ i d li ld.
      ap old'' (same-a i d li ld) ∙ same_old (a' i d) (r.inside i d li ld) ∙ r.neighbour i d li ld ∙ ap (level a n N (marks h Λ Δ) l i) (sym (same_old d ld));
  lambda = λ d ld. ap Λ (same_old d ld) ∙ r.lambda d ld ∙ ap (λ (x : ℕ). l + x) (sym (same-Λ d ld));
  delta = λ d ld. same-Δ d ld ∙ r.delta d ld ∙ ap Δ (sym (same_old d ld));
}
