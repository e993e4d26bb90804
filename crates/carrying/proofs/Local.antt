-- The counts of the links by which a removal goes on: what they read of two tables, of two mark rows and of two counts. Assumes nothing.
use mathlib.Core.Path.{◌≡◌, refl, sym, ap, ◌∙◌}
use mathlib.Core.Bool.{Bool, true, false}
use Prim.Native.Nat.{ℕ, zero, suc, ◌+◌, ◌≤◌}
use native.Mathlib.Omega.{arith}
use Rattle.maps.specs.Map.{Involutions}
use Rattle.maps.specs.Mark.{is_mark, between}
use Rattle.maps.specs.Removal.{marked}
use Rattle.maps.specs.UnfoldAll.{counts_from}
use Rattle.laws.proofs.Verdicts.{and_both}
use Rattle.laws.proofs.Marks.{mark_rows}

module _ (a : Involutions) (n : ℕ) (mark : ℕ → ℕ) (C : ℕ → ℕ → ℕ) (i d : ℕ) where
  -- none is left to go on
  pub counts_none : counts_from a n mark C 0 i d ≡ 0
  unfolding counts_from
  counts_none = refl

  -- a dart that is not marked with row i is not passed; one that is, is
  pub counts_stay : (times : ℕ) → marked a n mark i d ≡ false → counts_from a n mark C times i d ≡ 0
  unfolding counts_from
  counts_stay zero q = refl
  counts_stay (suc times) q = rw (q, counts_from)

  pub counts_on_lem : (times : ℕ) → marked a n mark i d ≡ true → counts_from a n mark C (suc times) i d ≡ C (between (mark d)).1 d + (C i (a (between (mark d)).1 d) + counts_from a n mark C times i (a i (a (between (mark d)).1 d)))
  unfolding counts_from
  counts_on_lem times q = rw (q, counts_from)

-- Two tables and two counts that agree at the darts marked, and two mark rows that agree at the darts present. A dart marked is passed to one of the same mark.
module _ (a a' : Involutions) (n : ℕ) (present : ℕ → Type 0) (mark mark' : ℕ → ℕ) (C C' : ℕ → ℕ → ℕ)
    (inside : (t d : ℕ) → t ≤ n → present d → is_mark n (mark d) ≡ true → present (a t d))
    (whole : (d : ℕ) → present d → is_mark n (mark d) ≡ true → mark (a (between (mark d)).1 d) ≡ mark d)
    (agree : (t d : ℕ) → t ≤ n → present d → is_mark n (mark d) ≡ true → a t d ≡ a' t d) (same : (d : ℕ) → present d → mark d ≡ mark' d)
    (counts : (t d : ℕ) → t ≤ n → present d → is_mark n (mark d) ≡ true → C t d ≡ C' t d) where
  pub counts_local : (times i d : ℕ) → i ≤ n → present d → counts_from a n mark C times i d ≡ counts_from a' n mark' C' times i d
  counts_local zero i d li p = counts_none a n mark C i d ∙ sym (counts_none a' n mark' C' i d)
  counts_local (suc times) i d li p = go (marked a n mark i d) refl (λ e z. counts_local times i e li z)
    where
      marked_same : marked a' n mark' i d ≡ marked a n mark i d
      marked_same = rw (same d p)

      go : (x : Bool) → marked a n mark i d ≡ x → ((e : ℕ) → present e → counts_from a n mark C times i e ≡ counts_from a' n mark' C' times i e) → counts_from a n mark C (suc times) i d ≡ counts_from a' n mark' C' (suc times) i d
      go false q ih = counts_stay a n mark C i d (suc times) q ∙ sym (counts_stay a' n mark' C' i d (suc times) (marked_same ∙ q))
      go true q ih =
          let m = (and_both _ _ q).0 in
          let u = (between (mark d)).1 in
          let lu : u ≤ n = (mark_rows n (mark d) m).second in
          let p₁ = inside u d lu p m in
          let q₁ : is_mark n (mark (a u d)) ≡ true = rw (whole d p m) m in
          let e₁ : a u d ≡ a' u d = agree u d lu p m in
          let e₂ : a i (a u d) ≡ a' i (a' u d) = agree i (a u d) li p₁ q₁ ∙ ap (a' i) e₁ in
          let w = ih (a i (a u d)) (inside i (a u d) li p₁ q₁) ∙ ap (counts_from a' n mark' C' times i) e₂ in
          let k = counts_on_lem a n mark C i d times q in
          let k' = rw (← (same d p)) at (counts_on_lem a' n mark' C' i d times (marked_same ∙ q)) in
          omega (arith, k, k', w, counts u d lu p m, counts i (a u d) li p₁ q₁ ∙ ap (C' i) e₁)
