-- A walk over a renumbered level reads no more entries than the walk over the old base. Assumes nothing.
use mathlib.Core.Path.{◌≡◌, sym, ap, ◌∙◌}
use mathlib.Core.Bool.{true}
use Prim.Native.Nat.{ℕ, suc, ◌+◌, ◌≤◌, ◌<◌}
use native.Mathlib.Omega.{arith}
use borrow.Author.Tests.{ltb-true, lt-ltb}
use Rattle.maps.specs.Map.{Involutions}
use Rattle.maps.specs.Mark.{between}
use Rattle.maps.specs.Folded.{On, gone, marks, level}
use Rattle.maps.specs.Walk.{count_of}
use Rattle.maps.specs.Cost.{reads}
use Rattle.maps.specs.Pyramid.{Pyramid}
use Rattle.facts.proofs.Runs.{Run, Ground, unique}
use Rattle.facts.proofs.Strings.{string}
use Rattle.facts.proofs.Levels.{low, high, level_valid}
use Rattle.facts.proofs.Readings.{base_ground, Walks, walks}
use Rattle.facts.proofs.Facts.{facts}
use Rattle.starting_again.proofs.Renaming.{run_renamed}
use Rattle.starting_again.proofs.Renumbering.{Renumbered, ltb_raised, on_old, base_renaming, renumbered_pyramid}

-- a walk's count is one more than the darts that it passes
pub reads_passes : (a : Involutions) (n N h : ℕ) (Λ Δ : ℕ → ℕ) (y : Pyramid a n N h Λ Δ) (l i b : ℕ) → l ≤ h → i ≤ n → On N Λ l b → (w : Walks a n N h Λ Δ y l i b) → reads a n N h Λ Δ l i b ≡ suc w.passes
reads_passes a n N h Λ Δ y l i b k li o w = ap count_of (sym ((facts a n N h Λ Δ y l k).ends i b li o) ∙ w.reads)

module _ (a : Involutions) (n N h : ℕ) (Λ Δ : ℕ → ℕ) (y : Pyramid a n N h Λ Δ) (l : ℕ) (a' : Involutions) (N' h' : ℕ) (Λ' Δ' old : ℕ → ℕ) (r : Renumbered a n N h Λ Δ l a' N' h' Λ' Δ' old) where
  -- the new pyramid
  abbrev y' : Pyramid a' n N' h' Λ' Δ'
  y' = renumbered_pyramid a n N h Λ Δ y l a' N' h' Λ' Δ' old r

  -- level l, under the old numbers
  abbrev L : Involutions
  L = level a n N (marks h Λ Δ) l

  -- gone of the new level k is gone of the old level l + k
  gone_raised : (k d : ℕ) → d < N' → gone Λ' k d ≡ gone Λ (l + k) (old d)
  gone_raised k d ld = rw (r.lambda d ld) (sym (ltb_raised l (Λ' d) k))

  -- what is gone of level l is gone of the levels above
  gone_more : (k d : ℕ) → gone Λ l d ≡ true → gone Λ (l + k) d ≡ true
  gone_more k d q = lt-ltb (Λ d) (l + k) (omega (arith, ltb-true (Λ d) l q))

  -- the level is ground for walks over it
  level_ground : (k : ℕ) → k ≤ h' → Ground L (low Δ) (high Δ) (gone Λ (l + k)) n (On N Λ l)
  level_ground k f =
      let v = level_valid a n N h Λ Δ y l (omega (arith, r.height)) in
      let g = base_ground a n N h Λ Δ y (l + k) (omega (arith, r.height)) in
      record { inside = v.inside; twice = v.twice; low = λ d o q. g.low d o.0 q; high = λ d o q. g.high d o.0 q }

  -- the same dart on the same level: the walk over the new base takes no more reads than the walk over the old one
  pub fewer_reads : (k : ℕ) → k ≤ h' → (i d : ℕ) → i ≤ n → On N' Λ' k d → reads a' n N' h' Λ' Δ' k i d ≤ reads a n N h Λ Δ (l + k) i (old d)
  fewer_reads k f i d li o =
      let o₁ = on_old a n N h Λ Δ y l a' N' h' Λ' Δ' old r k d o in
      let f₁ : l + k ≤ h = omega (arith, r.height) in
      let fl : l ≤ h = omega arith in
      let w = walks a n N h Λ Δ y (l + k) f₁ i (old d) li o₁ in
      let w' = walks a' n N' h' Λ' Δ' y' k f i d li o in
      let e = level a' n N' (marks h' Λ' Δ') k i d in
      let x : Run L (low Δ) (high Δ) (gone Λ (l + k)) w'.passes i (old d) i (old e) =
      run_renamed old a' L n (λ z. z < N') (On N Λ l) (base_renaming a n N h Λ Δ y l a' N' h' Λ' Δ' old r) (low Δ') (high Δ') (low Δ) (high Δ) (gone Λ' k) (gone Λ (l + k))
      (λ z lz. ap (λ (m : ℕ). (between m).0) (r.delta z lz)) (λ z lz. ap (λ (m : ℕ). (between m).1) (r.delta z lz)) (gone_raised k)
      (base_ground a' n N' h' Λ' Δ' y' k f) w'.passes i d i e li o.0 w'.run in
      let s = string a L (low Δ) (high Δ) (gone Λ l) (gone Λ (l + k)) (gone Λ (l + k)) n (On N Λ l) (level_ground k f) (gone_more k) (λ z q. q) (λ z p q. q) (λ t e lt p. let v = walks a n N h Λ Δ y l fl t e lt p in (v.passes, v.run))
      w'.passes i (old d) i (old e) li (o₁.0, omega (arith, o₁.1)) x in
      let u = unique a (low Δ) (high Δ) (gone Λ (l + k)) s.0 w.passes i (old d) i (old e) i (level a n N (marks h Λ Δ) (l + k) i (old d)) s.2 w.run in
      omega (arith, u.0, s.1, reads_passes a n N h Λ Δ y (l + k) i (old d) f₁ li o₁ w, reads_passes a' n N' h' Λ' Δ' y' k i d f li o w')
