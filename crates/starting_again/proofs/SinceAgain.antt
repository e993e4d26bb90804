-- The level since which a link stands, under new numbers: the old one less l, or 0 where that falls below. Assumes nothing.
use mathlib.Core.Path.{◌≡◌, refl, sym, ap, ◌∙◌}
use mathlib.Core.Bool.{Bool, true, false}
use Prim.Native.Nat.{ℕ, ◌+◌, ◌-◌, ◌≤◌, ◌<◌}
use native.Mathlib.Omega.{arith}
use lib.Dec.{ltb}
use borrow.Author.Tests.{ltb-true, ltb-false}
use Rattle.maps.specs.Map.{Involutions}
use Rattle.maps.specs.Folded.{On, marks, level}
use Rattle.maps.specs.Trail.{since}
use Rattle.maps.specs.Pyramid.{Pyramid}
use Rattle.maps.specs.NewBase.{rank, old_number, new_darts, new_height, newΛ, newΔ, new_base}
use Rattle.facts.proofs.Links.{Since, stands_since_lem}
use Rattle.starting_again.proofs.Renumbering.{Renumbered, on_old, alike, renumbered_pyramid}
use Rattle.starting_again.proofs.StartingAgain.{old_rank, again_renumbered, started_again}

module _ (a : Involutions) (n N h : ℕ) (Λ Δ : ℕ → ℕ) (y : Pyramid a n N h Λ Δ) (l : ℕ) (a' : Involutions) (N' h' : ℕ) (Λ' Δ' old : ℕ → ℕ) (r : Renumbered a n N h Λ Δ l a' N' h' Λ' Δ' old)
    (k : ℕ) (f : k ≤ h') (i d : ℕ) (li : i ≤ n) (o : On N' Λ' k d) where
  -- the neighbour on new level m, and on old level l + m
  abbrev new_at : ℕ → ℕ
  new_at m = level a' n N' (marks h' Λ' Δ') m i d

  abbrev old_at : ℕ → ℕ
  old_at m = level a n N (marks h Λ Δ) (l + m) i (old d)

  -- the dart is on the lower levels too
  lower : (m : ℕ) → m ≤ k → On N' Λ' m d
  lower m g = (o.0, omega (arith, o.1))

  -- they are one dart
  same_dart : (m : ℕ) → m ≤ k → old (new_at m) ≡ old_at m
  same_dart m g = (alike a n N h Λ Δ y l a' N' h' Λ' Δ' old r m (omega arith)).neighbour i d li (lower m g)

  -- so a link that is the new level k's was the old level l + k's
  was : (m : ℕ) → m ≤ k → new_at m ≡ new_at k → old_at m ≡ old_at k
  was m g e = sym (same_dart m g) ∙ ap old e ∙ same_dart k (omega arith)

  -- and the other way
  is : (m : ℕ) → m ≤ k → old_at m ≡ old_at k → new_at m ≡ new_at k
  is m g e =
      let there : (x : ℕ) → x ≤ k → new_at x < N' = λ x gx. ((alike a n N h Λ Δ y l a' N' h' Λ' Δ' old r x (omega arith)).valid.inside i d li (lower x gx)).0 in
      r.one_to_one (new_at m) (new_at k) (there m g) (there k (omega arith)) (same_dart m g ∙ e ∙ sym (same_dart k (omega arith)))

  abbrev s : ℕ
  s = since a N Λ Δ (l + k) i (old d)

  abbrev s' : ℕ
  s' = since a' N' Λ' Δ' k i d

  -- the lowest level with that link, less l
  pub since_renumbered : since a' N' Λ' Δ' k i d ≡ since a N Λ Δ (l + k) i (old d) - l
  since_renumbered =
      let y' = renumbered_pyramid a n N h Λ Δ y l a' N' h' Λ' Δ' old r in
      go (stands_since_lem a' n N' h' Λ' Δ' y' k f i d li o) (stands_since_lem a n N h Λ Δ y (l + k) (omega (arith, r.height)) i (old d) li (on_old a n N h Λ Δ y l a' N' h' Λ' Δ' old r k d o))
      (ltb (s - l) s') refl (ltb s' (s - l)) refl
    where
      go : Since a' n N' h' Λ' Δ' k i d → Since a n N h Λ Δ (l + k) i (old d) → (u : Bool) → ltb (s - l) s' ≡ u → (v : Bool) → ltb s' (s - l) ≡ v → s' ≡ s - l
      go new was-so true p v q =
          let g = ltb-true (s - l) s' p in
          let m = new.at_most in
          absurd (new.other (s - l) g (is (s - l) (omega arith) (was-so.same (l + (s - l)) (omega arith) (omega (arith, was-so.at_most)))))
      go new was-so false p true q =
          let g = ltb-true s' (s - l) q in
          absurd (was-so.other (l + s') (omega arith) (was s' new.at_most (new.same s' (omega arith) new.at_most)))
      go new was-so false p false q = omega (arith, ltb-false (s - l) s' p, ltb-false s' (s - l) q)

-- of the job's own new base
module _ (a : Involutions) (n N h : ℕ) (Λ Δ : ℕ → ℕ) (y : Pyramid a n N h Λ Δ) (l : ℕ) (low : l ≤ h) where
  pub since_again : (k i d : ℕ) → l + k ≤ h → i ≤ n → On N Λ (l + k) d → since (new_base a n N h Λ Δ l) (new_darts N Λ l) (newΛ N Λ l) (newΔ N Λ Δ l) k i (rank Λ l d) ≡ since a N Λ Δ (l + k) i d - l
  since_again k i d f li o =
      let e = old_rank N Λ l d (o.0, omega (arith, o.1)) in
      since_renumbered a n N h Λ Δ y l (new_base a n N h Λ Δ l) (new_darts N Λ l) (new_height h l) (newΛ N Λ l) (newΔ N Λ Δ l) (old_number N Λ l) (again_renumbered a n N h Λ Δ y l low) k (omega arith) i (rank Λ l d) li ((started_again a n N h Λ Δ y l low).on k d o)
      ∙ ap (λ (x : ℕ). since a N Λ Δ (l + k) i x - l) e
