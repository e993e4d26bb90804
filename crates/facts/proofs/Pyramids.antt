-- A tower whose darts are passed between the rows of their marks is an accepted pyramid, where the marks are allowed. Assumes nothing.
use mathlib.Core.Path.{◌≡◌, refl, sym, ap, ◌∙◌}
use mathlib.Core.Bool.{false}
use Prim.Native.Nat.{ℕ, ◌≤◌, ◌<◌}
use native.Mathlib.Omega.{arith}
use Rattle.maps.specs.Map.{Involutions}
use Rattle.maps.specs.Mark.{widest, between}
use Rattle.maps.specs.Kernel.{Kernel, WholeCells}
use Rattle.maps.specs.Folded.{On, refused_marks, marks, level}
use Rattle.maps.specs.Pyramid.{Pyramid}
use Rattle.laws.proofs.Marks.{same_mark}
use Rattle.facts.proofs.Removals.{Passing}
use Rattle.laws.proofs.MarkRows.{taken, taken_is}
use Rattle.facts.proofs.Levels.{low, high, taken_in, floor_level}
use Rattle.facts.proofs.Agreement.{valid_same}
use Rattle.facts.proofs.Namings.{passing_same}
use Rattle.facts.proofs.Towers.{in_kernel, floor, Tower, tower_valid}
use Rattle.facts.proofs.SplitKernels.{passing_kernel}

module _ (a : Involutions) (n N h : ℕ) (Λ Δ : ℕ → ℕ) (ln : n ≤ widest) (allowed : (d : ℕ) → d < N → refused_marks n h (Λ d) (Δ d) ≡ false)
    (t : Tower a n N h Λ (low Δ) (high Δ)) where
  -- its kernels are kernels in the document's words
  level_kernel : (l : ℕ) → l < h → Kernel (level a n N (marks h Λ Δ) l) n (On N Λ l) (marks h Λ Δ l)
  level_kernel l k =
      let F = floor a (low Δ) (high Δ) N Λ l in
      let A = level a n N (marks h Λ Δ) l in
      let w = tower_valid a n N h Λ (low Δ) (high Δ) t l (omega arith) in
      let agree = floor_level a n N h Λ Δ ln allowed h (omega arith) t l (omega arith) in
      let p : Passing A n (On N Λ l) (low Δ) (high Δ) (taken n h Λ Δ l) = passing_same F A n (On N Λ l) w (low Δ) (high Δ) (low Δ) (high Δ) (in_kernel Λ l) (taken n h Λ Δ l) (t.kernel l k) agree (λ x o. sym (taken_in a n N h Λ Δ ln allowed l x k o.0)) (λ x o q. (refl, refl)) in
      let whole : WholeCells A n (On N Λ l) (marks h Λ Δ l) = λ d j o q lj ne.
      let e = (taken_is n h Λ Δ ln l d q).mark in
      let r = p.whole d j o q lj (λ z. ne (sym z ∙ ap (λ (x : ℕ). (between x).0) (sym e))) in
      (taken_is n h Λ Δ ln l (A j d) r.0).mark ∙ same_mark (Δ (A j d)) (Δ d) r.1 r.2 ∙ sym e in
      passing_kernel A n (marks h Λ Δ l) (low Δ) (high Δ) (On N Λ l) (valid_same F A n (On N Λ l) agree w) (λ d o q. rw (taken_is n h Λ Δ ln l d q).mark (refl, refl)) whole p

  -- a tower whose marks are allowed is an accepted pyramid
  pub tower_pyramid : Pyramid a n N h Λ Δ
  tower_pyramid = record { dimension = ln; base = t.base; allowed = allowed; kernel = level_kernel }
