-- Kernels l and l+1 of a tower joined, for any two rows by which a dart is passed. Assumes nothing.
use mathlib.Core.Path.{◌≡◌, refl, sym, ap, ◌∙◌, subst, fun_ext}
use mathlib.Core.Bool.{Bool, true, false}
use Prim.Native.Nat.{ℕ, zero, suc, ◌≤◌, ◌<◌}
use native.Mathlib.Omega.{arith}
use lib.Dec.{eqb, ltb}
use borrow.Author.Tests.{eqb-true, eqb-false, eq-eqb, ne_eqb, ltb-true, ltb-false}
use Rattle.maps.specs.Map.{Involutions, Valid}
use Rattle.maps.specs.Folded.{On}
use Rattle.facts.proofs.Removals.{Passing, without}
use Rattle.maps.specs.Join.{joinΛ}
use Rattle.facts.proofs.Splits.{either, Left, Whole, without_both, whole_passing, passing_fewer}
use Rattle.facts.proofs.Namings.{passing_same, without_same}
use Rattle.facts.proofs.Towers.{in_kernel, floor, Tower, on_below, on_above, tower_valid}

-- A dart's Λ under a join: up to l it stays, above l it falls by 1.
pub data Falls (l lambda joined : ℕ) : Type 0 where
  stays : lambda ≤ l → joined ≡ lambda → Falls l lambda joined
  falls : l < lambda → suc joined ≡ lambda → Falls l lambda joined

-- each dart's Λ does one of the two
pub falls_at : (l : ℕ) (Λ : ℕ → ℕ) (d : ℕ) → Falls l (Λ d) (joinΛ l Λ d)
falls_at l Λ d = go (ltb l (Λ d)) refl
  where
    go : (x : Bool) → ltb l (Λ d) ≡ x → Falls l (Λ d) (joinΛ l Λ d)
    go true q = let k = ltb-true l (Λ d) q in falls k (rw q (omega arith))
    go false q = stays (ltb-false l (Λ d) q) (rw q)

-- two tests of equal numbers that agree
eqb_same : (x y z w : ℕ) → (x ≡ y → z ≡ w) → (z ≡ w → x ≡ y) → eqb x y ≡ eqb z w
eqb_same x y z w f g = go (eqb x y) refl
  where
    go : (b : Bool) → eqb x y ≡ b → eqb x y ≡ eqb z w
    go true q = q ∙ sym (eq-eqb z w (f (eqb-true x y q)))
    go false q = q ∙ sym (ne_eqb z w (λ e. eqb-false x y q (g e)))

-- the kernels and the survivors under a join
module _ (N : ℕ) (Λ : ℕ → ℕ) (l : ℕ) where
  -- kernels below l stay
  pub kernel_lower : (k d : ℕ) → k < l → in_kernel Λ k d ≡ in_kernel (joinΛ l Λ) k d
  kernel_lower k d z = go (falls_at l Λ d)
    where
      go : Falls l (Λ d) (joinΛ l Λ d) → in_kernel Λ k d ≡ in_kernel (joinΛ l Λ) k d
      go (stays f g) = eqb_same (Λ d) k (joinΛ l Λ d) k (λ e. omega arith) (λ e. omega arith)
      go (falls f g) = eqb_same (Λ d) k (joinΛ l Λ d) k (λ e. omega arith) (λ e. omega arith)

  -- kernel l is the old l and l+1 together
  pub kernel_joined : (d : ℕ) → either (in_kernel Λ l) (in_kernel Λ (suc l)) d ≡ in_kernel (joinΛ l Λ) l d
  kernel_joined d = go (eqb (Λ d) l) refl (falls_at l Λ d)
    where
      go : (x : Bool) → eqb (Λ d) l ≡ x → Falls l (Λ d) (joinΛ l Λ d) → either (in_kernel Λ l) (in_kernel Λ (suc l)) d ≡ in_kernel (joinΛ l Λ) l d
      go true q (stays f g) = let e = eqb-true (Λ d) l q in rw q (sym (eq-eqb (joinΛ l Λ d) l (g ∙ e)))
      go true q (falls f g) = let e = eqb-true (Λ d) l q in absurd (omega arith)
      go false q (stays f g) = let ne = eqb-false (Λ d) l q in rw q (eqb_same (Λ d) (suc l) (joinΛ l Λ d) l (λ e. omega arith) (λ e. absurd (ne (sym g ∙ e))))
      go false q (falls f g) = rw q (eqb_same (Λ d) (suc l) (joinΛ l Λ d) l (λ e. omega arith) (λ e. omega arith))

  -- kernels above l are the old ones of one level higher
  pub kernel_upper : (k d : ℕ) → l < k → in_kernel Λ (suc k) d ≡ in_kernel (joinΛ l Λ) k d
  kernel_upper k d z = go (falls_at l Λ d)
    where
      go : Falls l (Λ d) (joinΛ l Λ d) → in_kernel Λ (suc k) d ≡ in_kernel (joinΛ l Λ) k d
      go (stays f g) = eqb_same (Λ d) (suc k) (joinΛ l Λ d) k (λ e. omega arith) (λ e. omega arith)
      go (falls f g) = eqb_same (Λ d) (suc k) (joinΛ l Λ d) k (λ e. omega arith) (λ e. omega arith)

  -- so do the survivors
  pub on_lower : (k d : ℕ) → k ≤ l → On N (joinΛ l Λ) k d → On N Λ k d
  on_lower k d z o = go (falls_at l Λ d)
    where
      go : Falls l (Λ d) (joinΛ l Λ d) → On N Λ k d
      go (stays f g) = (o.0, omega (arith, o.1))
      go (falls f g) = (o.0, omega (arith, o.1))

  -- above l, with one level more
  pub on_upper : (k d : ℕ) → l < k → On N (joinΛ l Λ) k d → On N Λ (suc k) d
  on_upper k d z o = go (falls_at l Λ d)
    where
      go : Falls l (Λ d) (joinΛ l Λ d) → On N Λ (suc k) d
      go (stays f g) = absurd (omega (arith, o.1))
      go (falls f g) = (o.0, omega (arith, o.1))

  -- and back
  pub on_raised : (k d : ℕ) → l < k → On N Λ (suc k) d → On N (joinΛ l Λ) k d
  on_raised k d z o = go (falls_at l Λ d)
    where
      go : Falls l (Λ d) (joinΛ l Λ d) → On N (joinΛ l Λ) k d
      go (stays f g) = absurd (omega (arith, o.1))
      go (falls f g) = (o.0, omega (arith, o.1))

  -- up to l, and back
  pub on_kept : (k d : ℕ) → k ≤ l → On N Λ k d → On N (joinΛ l Λ) k d
  on_kept k d z o = go (falls_at l Λ d)
    where
      go : Falls l (Λ d) (joinΛ l Λ d) → On N (joinΛ l Λ) k d
      go (stays f g) = (o.0, omega (arith, o.1))
      go (falls f g) = (o.0, omega arith)

module _ (a : Involutions) (n N h : ℕ) (Λ dim via : ℕ → ℕ) (t : Tower a n N (suc h) Λ dim via) (l : ℕ) (lh : l < h) where
  -- the levels as they were
  abbrev old : ℕ → Involutions
  old = floor a dim via N Λ

  -- the levels of the joined tower
  abbrev new : ℕ → Involutions
  new = floor a dim via N (joinΛ l Λ)

  -- each of them is a valid map
  valid : (k : ℕ) → k ≤ suc h → Valid (old k) n (On N Λ k)
  valid = tower_valid a n N (suc h) Λ dim via t

  -- the levels up to l stay
  pub floor_lower : (k : ℕ) → k ≤ l → old k ≡ new k
  unfolding floor
  floor_lower zero z = refl
  floor_lower (suc k) z =
      let e : in_kernel Λ k ≡ in_kernel (joinΛ l Λ) k = fun_ext (λ d. kernel_lower N Λ l k d z) in
      ap (λ (b : Involutions). without b dim via (in_kernel Λ k) N) (floor_lower k (omega arith)) ∙ ap (λ (f : ℕ → Bool). without (new k) dim via f N) e

  -- the joined kernel is whole cells of level l
  module _ (whole : Whole (old l) n (On N Λ l) dim via (in_kernel (joinΛ l Λ) l)) where
    -- the joined kernel is the two together
    both_is : either (in_kernel Λ l) (in_kernel Λ (suc l)) ≡ in_kernel (joinΛ l Λ) l
    both_is = fun_ext (kernel_joined N Λ l)

    -- kernel l+1 on what kernel l leaves
    left_kernel : Passing (without (old l) dim via (in_kernel Λ l) N) n (Left (On N Λ l) (in_kernel Λ l)) dim via (in_kernel Λ (suc l))
    unfolding floor
    left_kernel = passing_fewer (old (suc l)) n (On N Λ (suc l)) (Left (On N Λ l) (in_kernel Λ l)) dim via (in_kernel Λ (suc l)) (on_above N Λ l) (t.kernel (suc l) (omega arith))

    -- then its cells can be passed there
    joined_kernel : Passing (old l) n (On N Λ l) dim via (either (in_kernel Λ l) (in_kernel Λ (suc l)))
    joined_kernel =
        whole_passing (old l) n (On N Λ l) (valid l (omega arith)) dim via (in_kernel Λ l) (in_kernel Λ (suc l)) (t.kernel l (omega arith)) (λ d o x y. omega (arith, eqb-true (Λ d) l x, eqb-true (Λ d) (suc l) y)) N (λ d o. o.0) left_kernel
        (subst (λ (f : ℕ → Bool). Whole (old l) n (On N Λ l) dim via f) (sym both_is) whole)

    -- level l+1 is the old level l+2, and so on upward
    floor_next : (i d : ℕ) → i ≤ n → On N Λ (suc (suc l)) d → old (suc (suc l)) i d ≡ new (suc l) i d
    unfolding floor
    floor_next i d li o =
        let x₂ = on_below N Λ (suc l) d o in
        let x₁ = on_below N Λ l d x₂.0 in
        without_both (old l) n (On N Λ l) (valid l (omega arith)) dim via (in_kernel Λ l) (in_kernel Λ (suc l)) (t.kernel l (omega arith)) N (λ e z. z.0) left_kernel joined_kernel i d li x₁.0 x₁.1 x₂.1
        ∙ ap (λ (f : ℕ → Bool). without (old l) dim via f N i d) both_is
        ∙ ap (λ (b : Involutions). without b dim via (in_kernel (joinΛ l Λ) l) N i d) (floor_lower l (omega arith))

    -- by induction on the level
    floor_upper : (k : ℕ) → l < k → k ≤ h → (i d : ℕ) → i ≤ n → On N Λ (suc k) d → old (suc k) i d ≡ new k i d
    unfolding floor
    floor_upper zero z kh i d li o = absurd (omega arith)
    floor_upper (suc k) z kh i d li o = go (eqb k l) refl (λ f. floor_upper k f (omega arith))
      where
        go : (x : Bool) → eqb k l ≡ x → (l < k → (i d : ℕ) → i ≤ n → On N Λ (suc k) d → old (suc k) i d ≡ new k i d) → old (suc (suc k)) i d ≡ new (suc k) i d
        go true e ih = let e' : k ≡ l = eqb-true k l e in rw e' (floor_next i d li (rw e' at o))
        go false e ih =
            let ne : k ≡ l → ⊥ = eqb-false k l e in
            let f : l < k = omega arith in
            without_same (old (suc k)) (new k) n (On N Λ (suc k)) (valid (suc k) (omega arith)) dim via dim via (in_kernel Λ (suc k)) (in_kernel (joinΛ l Λ) k) (t.kernel (suc k) (omega arith))
            (ih f) (λ x p. kernel_upper N Λ l k x f) (λ x p q. (refl, refl)) N i d li (on_below N Λ (suc k) d o).0

    -- each level of the joined tower has its kernel
    kernel_at_lem : (k : ℕ) → k < h → Passing (new k) n (On N (joinΛ l Λ) k) dim via (in_kernel (joinΛ l Λ) k)
    kernel_at_lem k kh = go (ltb k l) refl (eqb k l) refl
      where
        go : (x : Bool) → ltb k l ≡ x → (y : Bool) → eqb k l ≡ y → Passing (new k) n (On N (joinΛ l Λ) k) dim via (in_kernel (joinΛ l Λ) k)
        go true e y f =
            let z = ltb-true k l e in
            let i : in_kernel Λ k ≡ in_kernel (joinΛ l Λ) k = fun_ext (λ d. kernel_lower N Λ l k d z) in
            passing_fewer (new k) n (On N Λ k) (On N (joinΛ l Λ) k) dim via (in_kernel (joinΛ l Λ) k) (λ d o. on_lower N Λ l k d (omega arith) o) (rw (floor_lower k (omega arith), i) at (t.kernel k (omega arith)))
        go false e true f =
            rw (eqb-true k l f)
            (passing_fewer (new l) n (On N Λ l) (On N (joinΛ l Λ) l) dim via (in_kernel (joinΛ l Λ) l) (λ d o. on_lower N Λ l l d (omega arith) o) (rw (floor_lower l (omega arith), both_is) at joined_kernel))
        go false e false f =
            let z = ltb-false k l e in
            let ne = eqb-false k l f in
            let y : l < k = omega arith in
            passing_fewer (new k) n (On N Λ (suc k)) (On N (joinΛ l Λ) k) dim via (in_kernel (joinΛ l Λ) k) (λ d o. on_upper N Λ l k d y o)
            (passing_same (old (suc k)) (new k) n (On N Λ (suc k)) (valid (suc k) (omega arith)) dim via dim via (in_kernel Λ (suc k)) (in_kernel (joinΛ l Λ) k) (t.kernel (suc k) (omega arith)) (floor_upper k y (omega arith)) (λ x p. kernel_upper N Λ l k x y) (λ x p q. (refl, refl)))

-- Kernels l and l+1 of a tower of height h+1 joined: a tower again, with the same maps up to l, and from l+2 upward under their new numbers.
pub record JoinedTower (a : Involutions) (n N h : ℕ) (Λ dim via : ℕ → ℕ) (l : ℕ) : Type 0 where
  pub tower : Tower a n N h (joinΛ l Λ) dim via
  pub lower : (k : ℕ) → k ≤ l → floor a dim via N Λ k ≡ floor a dim via N (joinΛ l Λ) k
  pub upper : (k : ℕ) → l < k → k ≤ h → (i d : ℕ) → i ≤ n → On N Λ (suc k) d → floor a dim via N Λ (suc k) i d ≡ floor a dim via N (joinΛ l Λ) k i d

-- Joining, where the joined kernel is whole cells of level l.
pub tower_joins : (a : Involutions) (n N h : ℕ) (Λ dim via : ℕ → ℕ) → Tower a n N (suc h) Λ dim via → (l : ℕ) → l < h → Whole (floor a dim via N Λ l) n (On N Λ l) dim via (in_kernel (joinΛ l Λ) l) → JoinedTower a n N h Λ dim via l
tower_joins a n N h Λ dim via t l lh whole = record {
  tower = record { base = t.base; kernel = kernel_at_lem a n N h Λ dim via t l lh whole };
  lower = floor_lower a n N h Λ dim via t l lh;
  upper = floor_upper a n N h Λ dim via t l lh whole;
}
