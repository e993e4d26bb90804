-- Laws of mark rows: the row of a level marks the darts of its kernel, with their Δ. Assumes nothing.
use mathlib.Core.Path.{◌≡◌, refl, sym, ◌∙◌}
use mathlib.Core.Bool.{Bool, true, false, true≢false}
use Prim.Native.Nat.{ℕ, ◌≤◌, ◌<◌}
use native.Mathlib.Omega.{arith}
use lib.Dec.{eqb, ltb}
use borrow.Author.Tests.{eqb-true, eq-eqb, ltb-true, lt-ltb, le-ltb, not-false}
use Rattle.maps.specs.Mark.{is_mark, stay, widest}
use Rattle.maps.specs.Folded.{refused_marks, marks}
use Rattle.laws.proofs.Marks.{stay_none}

-- the mark rows of a folded form
module _ (n h : ℕ) (Λ Δ : ℕ → ℕ) where
  -- is d in kernel l
  abbrev pub taken : ℕ → ℕ → Bool
  taken l d = is_mark n (marks h Λ Δ l d)

  pub record Taken (l d : ℕ) : Type 0 where
    pub below : l < h
    pub lambda : Λ d ≡ l
    pub mark : marks h Λ Δ l d ≡ Δ d
    pub is_mark_lem : is_mark n (Δ d) ≡ true

  pub taken_is : n ≤ widest → (l d : ℕ) → taken l d ≡ true → Taken l d
  taken_is ln l d q = go (ltb l h) refl (eqb (Λ d) l) refl
    where
      go : (x : Bool) → ltb l h ≡ x → (y : Bool) → eqb (Λ d) l ≡ y → Taken l d
      go true e true f =
          let m : marks h Λ Δ l d ≡ Δ d = rw (e, f) in
          record { below = ltb-true l h e; lambda = eqb-true (Λ d) l f; mark = m; is_mark_lem = rw m at q }
      go true e false f =
          let m : marks h Λ Δ l d ≡ stay = rw (e, f) in
          absurd (true≢false (sym (rw m at q) ∙ stay_none n ln))
      go false e y f =
          let m : marks h Λ Δ l d ≡ stay = rw e in
          absurd (true≢false (sym (rw m at q) ∙ stay_none n ln))

  pub marks_at_lem : (l d : ℕ) → l < h → Λ d ≡ l → marks h Λ Δ l d ≡ Δ d
  marks_at_lem l d k e = rw (lt-ltb l h k, eq-eqb (Λ d) l e)

  pub allowed_small : (d : ℕ) → refused_marks n h (Λ d) (Δ d) ≡ false → Λ d < h → is_mark n (Δ d) ≡ true
  allowed_small d a k = not-false (is_mark n (Δ d)) (rw (le-ltb h (Λ d) (omega arith), lt-ltb (Λ d) h k) at a)
