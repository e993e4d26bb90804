-- A renaming of darts: what commutes with the involutions and the marks carries maps, kernels and removals over. Assumes nothing.
use mathlib.Core.Path.{◌≡◌, refl, sym, ap, ◌∙◌}
use mathlib.Core.Bool.{Bool, true, false}
use Prim.Native.Nat.{ℕ, zero, suc, ◌+◌, ◌≤◌, ◌<◌}
use native.Mathlib.Omega.{arith}
use lib.Dec.{eqb}
use Rattle.maps.specs.Map.{Involutions, Valid}
use Rattle.maps.specs.Mark.{is_mark, between, beyond}
use Rattle.maps.specs.Kernel.{Kernel}
use Rattle.maps.specs.Removal.{go_on, removal}
use Rattle.facts.proofs.Runs.{Passable, Run, Ground, turn, turn_le}
use Rattle.facts.proofs.Removals.{along_pairs, without, led}
use Rattle.laws.proofs.Marks.{mark_rows, beyond_row}
use Rattle.facts.proofs.Commuting.{kernel_commutes, commutes_kernel}
use Rattle.facts.proofs.Kernels.{removal_without, passing}

-- Dart d of the map a' is dart `old d` of the map a: one to one, no involution of a' leads out, and the old number of the neighbour is the neighbour of the old number.
pub record Renaming (old : ℕ → ℕ) (a' a : Involutions) (n : ℕ) (present' present : ℕ → Type 0) : Type 0 where
  pub there : (d : ℕ) → present' d → present (old d)
  pub one_to_one : (d e : ℕ) → present' d → present' e → old d ≡ old e → d ≡ e
  pub inside : (i d : ℕ) → i ≤ n → present' d → present' (a' i d)
  pub neighbour : (i d : ℕ) → i ≤ n → present' d → old (a' i d) ≡ a i (old d)

module _ (old : ℕ → ℕ) (a' a : Involutions) (n : ℕ) (present' present : ℕ → Type 0) (r : Renaming old a' a n present' present) where
  -- two steps
  pub two_steps : (i j d : ℕ) → i ≤ n → j ≤ n → present' d → old (a' i (a' j d)) ≡ a i (a j (old d))
  two_steps i j d li lj p = r.neighbour i (a' j d) li (r.inside j d lj p) ∙ ap (a i) (r.neighbour j d lj p)

  -- rows that commute at a dart of the one commute at that dart of the other
  pub commute_renamed : (i j d : ℕ) → i ≤ n → j ≤ n → present' d → a i (a j (old d)) ≡ a j (a i (old d)) → a' i (a' j d) ≡ a' j (a' i d)
  commute_renamed i j d li lj p e =
      r.one_to_one (a' i (a' j d)) (a' j (a' i d)) (r.inside i (a' j d) li (r.inside j d lj p)) (r.inside j (a' i d) lj (r.inside i d li p))
      (two_steps i j d li lj p ∙ e ∙ sym (two_steps j i d lj li p))

  -- a valid map under new numbers is valid
  pub valid_renamed : Valid a n present → Valid a' n present'
  valid_renamed v = record {
    inside = r.inside;
    twice = λ i d li p. r.one_to_one (a' i (a' i d)) d (r.inside i (a' i d) li (r.inside i d li p)) p (two_steps i i d li li p ∙ v.twice i (old d) li (r.there d p));
    commute = λ i j d f lj p. let li : i ≤ n = omega arith in commute_renamed j i d lj li p (v.commute i j (old d) f lj (r.there d p));
  }

  module _ (mark' mark : ℕ → ℕ) (same : (d : ℕ) → present' d → mark' d ≡ mark (old d)) where
    -- a kernel under new numbers is a kernel
    pub kernel_renamed : Kernel a n present mark → Kernel a' n present' mark'
    kernel_renamed k =
        commutes_kernel a' n present' mark' r.inside
        (λ d j p q lj ne.
        let s = same d p in
        same (a' j d) (r.inside j d lj p) ∙ ap mark (r.neighbour j d lj p) ∙ k.whole (old d) j (r.there d p) (rw s at q) lj (rw s at ne) ∙ sym s)
        (λ d p q h.
        let s = same d p in
        commute_renamed (beyond (mark' d)) (between (mark' d)).1 d (beyond_row n (mark' d) q h).0 (mark_rows n (mark' d) q).second p
        (rw (← s) at (kernel_commutes a n present mark k (old d) (r.there d p) (rw s at q) (rw s at h))))

    -- a walk that goes on goes on under the old numbers
    pub go_on_renamed : (times i d : ℕ) → i ≤ n → present' d → old (go_on a' n mark' times i d) ≡ go_on a n mark times i (old d)
    unfolding go_on
    go_on_renamed zero i d li p = refl
    go_on_renamed (suc times) i d li p = go (is_mark n (mark' d)) refl (eqb (between (mark' d)).0 i) refl (λ e z. go_on_renamed times i e li z)
      where
        go : (x : Bool) → is_mark n (mark' d) ≡ x → (y : Bool) → eqb (between (mark' d)).0 i ≡ y → ((e : ℕ) → present' e → old (go_on a' n mark' times i e) ≡ go_on a n mark times i (old e)) → old (go_on a' n mark' (suc times) i d) ≡ go_on a n mark (suc times) i (old d)
        go false q y f ih = rw (← (same d p), q, go_on)
        go true q false f ih = rw (← (same d p), q, f, go_on)
        go true q true f ih =
            let u = (between (mark' d)).1 in
            let lu : u ≤ n = (mark_rows n (mark' d) q).second in
            let e = a' i (a' u d) in
            rw (← (same d p), q, f, go_on, ← (same d p)) (ih e (r.inside i (a' u d) li (r.inside u d lu p)) ∙ ap (go_on a n mark times i) (two_steps i u d li lu p))

    -- with as many turns, the removal under new numbers is the removal
    pub removal_renamed : (times i d : ℕ) → i ≤ n → present' d → old (removal a' n mark' times i d) ≡ removal a n mark times i (old d)
    unfolding removal
    removal_renamed times i d li p = go_on_renamed times i (a' i d) li (r.inside i d li p) ∙ ap (go_on a n mark times i) (r.neighbour i d li p)

-- N turns are enough: a removal that may go on longer ends at the same dart
module _ (a : Involutions) (n : ℕ) (present : ℕ → Type 0) (mark : ℕ → ℕ) (v : Valid a n present) (k : Kernel a n present mark) (N : ℕ) (bound : (d : ℕ) → present d → d < N) where
  -- M turns or N, where M is no less
  pub removal_enough : (M i d : ℕ) → N ≤ M → i ≤ n → present d → is_mark n (mark d) ≡ false → removal a n mark M i d ≡ removal a n mark N i d
  unfolding without
  removal_enough M i d f li p q =
      let dim : ℕ → ℕ = λ e. (between (mark e)).0 in
      let via : ℕ → ℕ = λ e. (between (mark e)).1 in
      let removed : ℕ → Bool = λ e. is_mark n (mark e) in
      let w = led a n present v dim via removed (passing a n mark dim via (λ e z. (refl, refl)) present v k) N bound i d li p q in
      removal_without a n mark dim via (λ e z. (refl, refl)) M i d
      ∙ along_pairs a dim via removed w.half M i d (without a dim via removed N i d) (omega (arith, w.half_le)) w.by_two
      ∙ sym (removal_without a n mark dim via (λ e z. (refl, refl)) N i d)

-- the removals on both sides, each with its own number of darts
module _ (old : ℕ → ℕ) (a' a : Involutions) (n : ℕ) (present' present : ℕ → Type 0) (r : Renaming old a' a n present' present) (mark' mark : ℕ → ℕ) (same : (d : ℕ) → present' d → mark' d ≡ mark (old d))
    (v : Valid a n present) (k : Kernel a n present mark) (N' N : ℕ) (bound' : (d : ℕ) → present' d → d < N') (bound : (d : ℕ) → present d → d < N) where
  -- of a survivor: the new neighbour under the old numbers
  pub removed_renamed : (i d : ℕ) → i ≤ n → present' d → is_mark n (mark' d) ≡ false → old (removal a' n mark' N' i d) ≡ removal a n mark N i (old d)
  removed_renamed i d li p q =
      let v' = valid_renamed old a' a n present' present r v in
      let k' = kernel_renamed old a' a n present' present r mark' mark same k in
      ap old (sym (removal_enough a' n present' mark' v' k' N' bound' (N' + N) i d (omega arith) li p q))
      ∙ removal_renamed old a' a n present' present r mark' mark same (N' + N) i d li p
      ∙ removal_enough a n present mark v k N bound (N' + N) i (old d) (omega arith) li (r.there d p) (rw (same d p) at q)

-- a run under new numbers is a run
module _ (old : ℕ → ℕ) (a' a : Involutions) (n : ℕ) (present' present : ℕ → Type 0) (r : Renaming old a' a n present' present) (dim' via' dim via : ℕ → ℕ) (removed' removed : ℕ → Bool)
    (same-dim : (d : ℕ) → present' d → dim' d ≡ dim (old d)) (same-via : (d : ℕ) → present' d → via' d ≡ via (old d)) (same : (d : ℕ) → present' d → removed' d ≡ removed (old d))
    (g : Ground a' dim' via' removed' n present') where
  -- by as many steps, with the same rows
  pub run_renamed : (p t d u e : ℕ) → t ≤ n → present' d → Run a' dim' via' removed' p t d u e → Run a dim via removed p t (old d) u (old e)
  run_renamed zero t d u e lt p x =
      let e₁ : e ≡ a' t d = x.0.1 in
      let q : present' e = rw e₁ (r.inside t d lt p) in
      ((x.0.0, ap old e₁ ∙ r.neighbour t d lt p), sym (same e q) ∙ x.1)
  run_renamed (suc p) t d u e lt pd x =
      let e₁ = a' t d in
      let q : present' e₁ = r.inside t d lt pd in
      let ih = run_renamed p (turn a' dim' via' removed' e₁ t) e₁ u e (turn_le a' dim' via' removed' n present' g e₁ t q x.0.0 x.0.1) q (x.0.2, x.1) in
      let c : Passable a dim via removed (old e₁) t = rw (same-dim e₁ q, same-via e₁ q) at x.0.1 in
      let ih₁ : Run a dim via removed p (turn a dim via removed (old e₁) t) (old e₁) u (old e) = rw (same-dim e₁ q, same-via e₁ q) at ih in
      rw (← (r.neighbour t d lt pd)) ((sym (same e₁ q) ∙ x.0.0, c, ih₁.0), ih₁.1)
