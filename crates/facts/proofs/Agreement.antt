-- What a removal reads: a survivor's own entry, and the entries of the darts marked. Assumes nothing.
use mathlib.Core.Path.{◌≡◌, refl, sym, ap, ◌∙◌}
use mathlib.Core.Bool.{Bool, true, false}
use Prim.Native.Nat.{ℕ, zero, suc, ◌≤◌, ◌<◌}
use native.Mathlib.Omega.{arith}
use lib.Dec.{eqb}
use Rattle.maps.specs.Map.{Involutions, Valid}
use Rattle.maps.specs.Mark.{is_mark, between, beyond}
use Rattle.maps.specs.Kernel.{Kernel}
use Rattle.maps.specs.Removal.{go_on, turns_from, removal}
use Rattle.maps.specs.Folded.{level}
use Rattle.laws.proofs.Marks.{mark_rows, beyond_row}
use Rattle.facts.proofs.Commuting.{kernel_commutes, commutes_kernel}

-- Two tables that agree at the darts marked, and two mark rows that agree at the darts present. A dart marked is passed to one of the same mark.
module _ (a a' : Involutions) (n : ℕ) (present : ℕ → Type 0) (mark mark' : ℕ → ℕ)
    (inside : (t d : ℕ) → t ≤ n → present d → is_mark n (mark d) ≡ true → present (a t d))
    (whole : (d : ℕ) → present d → is_mark n (mark d) ≡ true → mark (a (between (mark d)).1 d) ≡ mark d)
    (agree : (t d : ℕ) → t ≤ n → present d → is_mark n (mark d) ≡ true → a t d ≡ a' t d) (same : (d : ℕ) → present d → mark d ≡ mark' d) where
  -- the way on, and its turns
  way_local : (times i d : ℕ) → i ≤ n → present d → (go_on a n mark times i d ≡ go_on a' n mark' times i d) × (turns_from a n mark times i d ≡ turns_from a' n mark' times i d)
  unfolding go_on turns_from
  way_local zero i d li p = (refl, refl)
  way_local (suc times) i d li p = go (is_mark n (mark d)) refl (eqb (between (mark d)).0 i) refl (λ e z. way_local times i e li z)
    where
      go : (x : Bool) → is_mark n (mark d) ≡ x → (y : Bool) → eqb (between (mark d)).0 i ≡ y → ((e : ℕ) → present e → (go_on a n mark times i e ≡ go_on a' n mark' times i e) × (turns_from a n mark times i e ≡ turns_from a' n mark' times i e))
          → (go_on a n mark (suc times) i d ≡ go_on a' n mark' (suc times) i d) × (turns_from a n mark (suc times) i d ≡ turns_from a' n mark' (suc times) i d)
      go false q y r ih = (rw (← (same d p), q, go_on), rw (← (same d p), q, turns_from))
      go true q false r ih = (rw (← (same d p), q, r, go_on), rw (← (same d p), q, r, turns_from))
      go true q true r ih =
          let u = (between (mark d)).1 in
          let lu : u ≤ n = (mark_rows n (mark d) q).second in
          let p₁ = inside u d lu p q in
          let q₁ : is_mark n (mark (a u d)) ≡ true = rw (whole d p q) q in
          let s : a i (a u d) ≡ a' i (a' u d) = agree i (a u d) li p₁ q₁ ∙ ap (a' i) (agree u d lu p q) in
          let w = ih (a i (a u d)) (inside i (a u d) li p₁ q₁) in (
            rw (← (same d p), q, r, go_on, ← (same d p)) (w.0 ∙ ap (go_on a' n mark' times i) s),
            rw (← (same d p), q, r, turns_from, ← (same d p)) (ap suc (w.1 ∙ ap (turns_from a' n mark' times i) s)),
          )

  pub go_on_local : (times i d : ℕ) → i ≤ n → present d → go_on a n mark times i d ≡ go_on a' n mark' times i d
  go_on_local times i d li p = (way_local times i d li p).0

  pub turns_local : (times i d : ℕ) → i ≤ n → present d → turns_from a n mark times i d ≡ turns_from a' n mark' times i d
  turns_local times i d li p = (way_local times i d li p).1

-- in a valid map with a kernel
module _ (a a' : Involutions) (n : ℕ) (present : ℕ → Type 0) (mark mark' : ℕ → ℕ) (v : Valid a n present) (k : Kernel a n present mark)
    (agree : (t d : ℕ) → t ≤ n → present d → is_mark n (mark d) ≡ true → a t d ≡ a' t d) (same : (d : ℕ) → present d → mark d ≡ mark' d) where
  pub passed_whole : (d : ℕ) → present d → is_mark n (mark d) ≡ true → mark (a (between (mark d)).1 d) ≡ mark d
  passed_whole d p q = let r = mark_rows n (mark d) q in k.whole d (between (mark d)).1 p q r.second (λ e. r.two (sym e))

  pub removal_local : (N i b : ℕ) → i ≤ n → present b → a i b ≡ a' i b → removal a n mark N i b ≡ removal a' n mark' N i b
  unfolding removal
  removal_local N i b li p e = go_on_local a a' n present mark mark' (λ t d lt p q. v.inside t d lt p) passed_whole agree same N i (a i b) li (v.inside i b li p) ∙ ap (go_on a' n mark' N i) e

pub valid_same : (a a' : Involutions) (n : ℕ) (present : ℕ → Type 0) → ((t d : ℕ) → t ≤ n → present d → a t d ≡ a' t d) → Valid a n present → Valid a' n present
valid_same a a' n present agree v = record {
  inside = λ i d li p. rw (← (agree i d li p)) (v.inside i d li p);
  twice = λ i d li p. sym (agree i (a i d) li (v.inside i d li p) ∙ ap (a' i) (agree i d li p)) ∙ v.twice i d li p;
  commute = λ i j d f lj p.
      let li : i ≤ n = omega arith in
      sym (agree j (a i d) lj (v.inside i d li p) ∙ ap (a' j) (agree i d li p)) ∙ v.commute i j d f lj p ∙ agree i (a j d) li (v.inside j d lj p) ∙ ap (a' i) (agree j d lj p);
}

-- a kernel of one table is one of another that agrees with it at the darts present
module _ (a a' : Involutions) (n : ℕ) (present present' : ℕ → Type 0) (mark mark' : ℕ → ℕ) (v : Valid a n present) (k : Kernel a n present mark)
    (agree : (t d : ℕ) → t ≤ n → present d → a t d ≡ a' t d) (same : (d : ℕ) → present d → mark d ≡ mark' d) (sub : (d : ℕ) → present' d → present d) where
  commutes_same : (d i j : ℕ) → i ≤ n → j ≤ n → present d → a j (a i d) ≡ a i (a j d) → a' j (a' i d) ≡ a' i (a' j d)
  commutes_same d i j li lj p c =
      rw (← (agree i d li p), ← (agree j d lj p), ← (agree j (a i d) lj (v.inside i d li p)), ← (agree i (a j d) li (v.inside j d lj p))) c

  kernel_there : Kernel a' n present mark'
  kernel_there =
      commutes_kernel a' n present mark' (valid_same a a' n present agree v).inside
      (λ d j p q lj ne.
      let s = same d p in
      let w = k.whole d j p (rw s q) lj (rw s ne) in
      rw (← (agree j d lj p), ← s, ← (same (a j d) (v.inside j d lj p))) w)
      (λ d p q h.
      let s = same d p in
      commutes_same d (between (mark' d)).1 (beyond (mark' d)) (mark_rows n (mark' d) q).second (beyond_row n (mark' d) q h).0 p (rw s at (kernel_commutes a n present mark k d p (rw s q) (rw s h))))

  pub kernel_same : Kernel a' n present' mark'
  kernel_same = let r = kernel_there in record { whole = λ d j p. r.whole d j (sub d p); removable = λ d p. r.removable d (sub d p); contractible = λ d p. r.contractible d (sub d p) }

-- the same kernels give the same levels
module _ (a : Involutions) (n N h : ℕ) (kernels kernels' : ℕ → ℕ → ℕ) (present : ℕ → ℕ → Type 0) (down : (l d : ℕ) → present (suc l) d → present l d)
    (v : (l : ℕ) → l < h → Valid (level a n N kernels l) n (present l)) (k : (l : ℕ) → l < h → Kernel (level a n N kernels l) n (present l) (kernels l))
    (same : (l d : ℕ) → l < h → present l d → kernels l d ≡ kernels' l d) where
  pub level_same : (l : ℕ) → l ≤ h → (i d : ℕ) → i ≤ n → present l d → level a n N kernels l i d ≡ level a n N kernels' l i d
  unfolding level
  level_same zero f i d li p = refl
  level_same (suc l) f i d li p =
      let ih = level_same l (omega arith) in
      removal_local (level a n N kernels l) (level a n N kernels' l) n (present l) (kernels l) (kernels' l) (v l f) (k l f) (λ t e lt q r. ih t e lt q) (λ e q. same l e f q) N i d li (down l d p) (ih i d li (down l d p))
