-- Two namings of one kernel, on tables that agree at the darts present. Assumes nothing.
use mathlib.Core.Path.{◌≡◌, refl, sym, ap, ◌∙◌}
use mathlib.Core.Bool.{Bool, true, false}
use Prim.Native.Nat.{ℕ, zero, suc, ◌≤◌}
use lib.Dec.{eqb}
use Rattle.maps.specs.Map.{Involutions, Valid}
use Rattle.facts.proofs.Removals.{Passing, along, without}

-- Two tables that agree at the darts present, and two namings of one kernel that agree there: a kernel of the one is a kernel of the other, and they leave the same map.
module _ (a a' : Involutions) (n : ℕ) (present : ℕ → Type 0) (m : Valid a n present) (dim via dim' via' : ℕ → ℕ) (removed removed' : ℕ → Bool) (k : Passing a n present dim via removed)
    (agree : (t d : ℕ) → t ≤ n → present d → a t d ≡ a' t d) (same : (d : ℕ) → present d → removed d ≡ removed' d) (rows : (d : ℕ) → present d → removed d ≡ true → (dim d ≡ dim' d) × (via d ≡ via' d)) where
  pub passing_same : Passing a' n present dim' via' removed'
  passing_same = record {
    low = λ d p q. let q' = same d p ∙ q in rw (← (rows d p q').0) (k.low d p q');
    high = λ d p q. let q' = same d p ∙ q in rw (← (rows d p q').1) (k.high d p q');
    two = λ d p q e. let q' = same d p ∙ q in k.two d p q' ((rows d p q').0 ∙ e ∙ sym (rows d p q').1);
    whole = λ d j p q l z.
        let q' = same d p ∙ q in
        let r = rows d p q' in
        let w = k.whole d j p q' l (λ e. z (sym r.0 ∙ e)) in
        let p₁ = m.inside j d l p in
        let r₁ = rows (a j d) p₁ w.0 in
        rw (← (agree j d l p)) (sym (same (a j d) p₁) ∙ w.0, sym r₁.0 ∙ w.1 ∙ r.0, sym r₁.1 ∙ w.2 ∙ r.1);
    pass = λ d j p q l f.
        let q' = same d p ∙ q in
        let r = rows d p q' in
        let lv = k.high d p q' in
        rw (← r.1, ← (agree j d l p), ← (agree (via d) d lv p), ← (agree (via d) (a j d) lv (m.inside j d l p)), ← (agree j (a (via d) d) l (m.inside (via d) d lv p))) (k.pass d j p q' l (rw r.0 f));
  }

  -- going on from a dart ends at the same dart
  along_same : (times i d : ℕ) → i ≤ n → present d → along a dim via removed times i d ≡ along a' dim' via' removed' times i d
  unfolding along
  along_same zero i d li p = refl
  along_same (suc times) i d li p = go (removed d) refl (eqb (dim d) i) refl (λ e h. along_same times i e li h)
    where
      go : (x : Bool) → removed d ≡ x → (y : Bool) → eqb (dim d) i ≡ y → ((e : ℕ) → present e → along a dim via removed times i e ≡ along a' dim' via' removed' times i e)
          → along a dim via removed (suc times) i d ≡ along a' dim' via' removed' (suc times) i d
      go false q y r ih = rw (← (same d p), q, along)
      go true q false r ih = rw (← (same d p), q, ← (rows d p q).0, r, along)
      go true q true r ih =
          let u = via d in
          let lu = k.high d p q in
          let p₁ = m.inside u d lu p in
          let s : a i (a u d) ≡ a' i (a' u d) = agree i (a u d) li p₁ ∙ ap (a' i) (agree u d lu p) in
          rw (← (same d p), q, ← (rows d p q).0, r, along, ← (rows d p q).1) (ih (a i (a u d)) (m.inside i (a u d) li p₁) ∙ ap (along a' dim' via' removed' times i) s)

  -- the two leave the same map
  pub without_same : (N i d : ℕ) → i ≤ n → present d → without a dim via removed N i d ≡ without a' dim' via' removed' N i d
  unfolding without
  without_same N i d li p = along_same N i (a i d) li (m.inside i d li p) ∙ ap (along a' dim' via' removed' N i) (agree i d li p)
