-- Marks fold into Λ and Δ and unfold to the same marks and maps. Assumes nothing.
use mathlib.Core.Path.{◌≡◌, refl, sym, ◌∙◌}
use mathlib.Core.Bool.{Bool, true, false, cond}
use Prim.Native.Nat.{ℕ, zero, suc, ◌≤◌, ◌<◌}
use native.Mathlib.Omega.{arith}
use lib.Dec.{eqb, ltb}
use borrow.Author.Tests.{eqb-true, eqb-false, eq-eqb, ne_eqb, ltb-true, ltb-false, lt-ltb, le-ltb}
use Rattle.maps.specs.Map.{Involutions}
use Rattle.maps.specs.Mark.{is_mark, widest}
use Rattle.maps.specs.Kernel.{Kernel}
use Rattle.maps.specs.Folded.{On, refused_marks, marks, addΛ, addΔ, foldΛ, foldΔ, level}
use Rattle.maps.specs.MarkRow.{Row, Kernels}
use Rattle.maps.specs.Pyramid.{Pyramid}
use Rattle.laws.proofs.Marks.{stay_none}
use Rattle.laws.proofs.MarkRows.{marks_at_lem}
use Rattle.facts.proofs.Levels.{level_at, level_valid}
use Rattle.facts.proofs.Agreement.{removal_local, kernel_same, valid_same}
use Rattle.facts.proofs.Adding.{Allowed, removed, never, allowed_cases, cases_allowed, marks_not, marks_kept, marks_new, on_kept, level_kept, level_new, added}

-- folded, they are an accepted pyramid; the mark rows are read back; its levels are those of the removals, kernel by kernel
pub record Folds (a : Involutions) (n N h : ℕ) (kernels : ℕ → ℕ → ℕ) : Type 0 where
  pub pyramid : Pyramid a n N h (foldΛ n kernels h) (foldΔ n kernels h)
  pub rows : (l d : ℕ) → l < h → d < N → marks h (foldΛ n kernels h) (foldΔ n kernels h) l d ≡ kernels l d
  pub maps : (l : ℕ) → l ≤ h → (i d : ℕ) → i ≤ n → On N (foldΛ n kernels h) l d → level a n N (marks h (foldΛ n kernels h) (foldΔ n kernels h)) l i d ≡ level a n N kernels l i d

module _ (a : Involutions) (n N : ℕ) (kernels : ℕ → ℕ → ℕ) where
  fewer : (h : ℕ) → Kernels a n N (suc h) kernels → Kernels a n N h kernels
  fewer h k = record { dimension = k.dimension; base = k.base; row = λ l z. k.row l (omega arith); kernel = λ l z. k.kernel l (omega arith) }

  none : Kernels a n N zero kernels → Folds a n N zero kernels
  unfolding foldΛ foldΔ level
  none k = record {
    pyramid = record { dimension = k.dimension; base = k.base; allowed = λ d ld. cases_allowed n 0 0 n (never refl refl); kernel = λ l z. absurd (omega arith) };
    rows = λ l d z ld. absurd (omega arith);
    maps = λ l z i d li o. go l (omega arith) i d;
  }
    where
      go : (l : ℕ) → l ≤ 0 → (i d : ℕ) → level a n N (marks 0 (foldΛ n kernels 0) (foldΔ n kernels 0)) l i d ≡ level a n N kernels l i d
      go zero z i d = refl
      go (suc l) z i d = absurd (omega arith)

  module _ (h : ℕ) (k : Kernels a n N (suc h) kernels) (f : Folds a n N h kernels) where
    abbrev Λ : ℕ → ℕ
    Λ = foldΛ n kernels h

    abbrev Δ : ℕ → ℕ
    Δ = foldΔ n kernels h

    abbrev mark : ℕ → ℕ
    mark = kernels h

    abbrev y : Pyramid a n N h Λ Δ
    y = f.pyramid

    row : Row n N h Λ mark
    row = k.row h (omega arith)

    top : (i d : ℕ) → i ≤ n → On N Λ h d → level_at a n N h Λ Δ y h i d ≡ level a n N kernels h i d
    top = f.maps h (omega arith)

    kernel : Kernel (level_at a n N h Λ Δ y h) n (On N Λ h) mark
    kernel =
        kernel_same (level a n N kernels h) (level_at a n N h Λ Δ y h) n (On N Λ h) (On N Λ h) mark mark
        (valid_same (level_at a n N h Λ Δ y h) (level a n N kernels h) n (On N Λ h) top (level_valid a n N h Λ Δ y h (omega arith))) (k.kernel h (omega arith))
        (λ t d lt o. sym (top t d lt o)) (λ d o. refl) (λ d o. o)

    abbrev levels : ℕ → Involutions
    levels = level a n N (marks (suc h) (addΛ n h Λ mark) (addΔ n Δ mark))

    rows_next : (l d : ℕ) → l < suc h → d < N → marks (suc h) (addΛ n h Λ mark) (addΔ n Δ mark) l d ≡ kernels l d
    rows_next l d z ld = go (eqb l h) refl
      where
        go : (x : Bool) → eqb l h ≡ x → marks (suc h) (addΛ n h Λ mark) (addΔ n Δ mark) l d ≡ kernels l d
        go true e = rw (eqb-true l h e) (marks_new n N h Λ Δ mark row d ld)
        go false e =
            let ne : l ≡ h → ⊥ = eqb-false l h e in
            let w : l < h = omega arith in
            sym (marks_kept n N h Λ Δ mark row l d w ld) ∙ f.rows l d w ld

    maps_next : (l : ℕ) → l ≤ suc h → (i d : ℕ) → i ≤ n → On N (addΛ n h Λ mark) l d → levels l i d ≡ level a n N kernels l i d
    unfolding level
    maps_next l z i d li o = go (eqb l (suc h)) refl
      where
        go : (x : Bool) → eqb l (suc h) ≡ x → levels l i d ≡ level a n N kernels l i d
        go true e =
            let q : l ≡ suc h = eqb-true l (suc h) e in
            let o' : On N Λ h d = on_kept n N h Λ Δ mark row h d (omega arith) (o.0, omega (arith, o.1)) in
            rw q
            (sym (level_new a n N h Λ Δ y mark row kernel i d li o')
            ∙ removal_local (level_at a n N h Λ Δ y h) (level a n N kernels h) n (On N Λ h) mark mark (level_valid a n N h Λ Δ y h (omega arith)) kernel (λ t e lt p r. top t e lt p) (λ e p. refl) N i d li o' (top i d li o'))
        go false e =
            let ne : l ≡ suc h → ⊥ = eqb-false l (suc h) e in
            let w : l ≤ h = omega arith in
            let o' : On N Λ l d = on_kept n N h Λ Δ mark row l d w o in
            sym (level_kept a n N h Λ Δ y mark row kernel l w i d li o') ∙ f.maps l w i d li o'

    next : Folds a n N (suc h) kernels
    unfolding foldΛ foldΔ
    next = record { pyramid = added a n N h Λ Δ y mark row kernel; rows = rows_next; maps = maps_next }

  pub folds : (h : ℕ) → Kernels a n N h kernels → Folds a n N h kernels
  folds zero k = none k
  folds (suc h) k = next h k (folds h (fewer h k))

-- the rows read back out of allowed marks fold to the same Λ and Δ
module _ (n h : ℕ) (Λ Δ : ℕ → ℕ) (ln : n ≤ widest) (d : ℕ) (allowed : refused_marks n h (Λ d) (Δ d) ≡ false) where
  data RowAt (k : ℕ) : Type 0 where
    earlier : Λ d < k → is_mark n (marks h Λ Δ k d) ≡ false → RowAt k
    here : Λ d ≡ k → is_mark n (marks h Λ Δ k d) ≡ true → marks h Λ Δ k d ≡ Δ d → RowAt k
    later : k < Λ d → is_mark n (marks h Λ Δ k d) ≡ false → RowAt k

  not_mark : (k : ℕ) → (Λ d ≡ k → ⊥) → is_mark n (marks h Λ Δ k d) ≡ false
  not_mark k ne = rw (marks_not h Λ Δ k d ne) (stay_none n ln)

  row_at : (k : ℕ) → k < h → RowAt k
  row_at k z = go (ltb (Λ d) k) refl (eqb (Λ d) k) refl (allowed_cases n h (Λ d) (Δ d) allowed)
    where
      go : (x : Bool) → ltb (Λ d) k ≡ x → (y : Bool) → eqb (Λ d) k ≡ y → Allowed n h (Λ d) (Δ d) → RowAt k
      go true p y q w = let l = ltb-true (Λ d) k p in earlier l (not_mark k (λ e. omega arith))
      go false p true q (removed l m) = let e = eqb-true (Λ d) k q in let f = marks_at_lem n h Λ Δ k d z e in here e (rw f m) f
      go false p true q (never l m) = let e = eqb-true (Λ d) k q in absurd (omega arith)
      go false p false q w = let l = ltb-false (Λ d) k p in let ne = eqb-false (Λ d) k q in later (omega arith) (not_mark k ne)

  abbrev pub Upto : ℕ → Type 0
  Upto k = (foldΛ n (marks h Λ Δ) k d ≡ cond (ltb (Λ d) k) (Λ d) k) × (foldΔ n (marks h Λ Δ) k d ≡ cond (ltb (Λ d) k) (Δ d) n)

  pub upto : (k : ℕ) → k ≤ h → Upto k
  unfolding foldΛ foldΔ
  upto zero z = rw (le-ltb (Λ d) 0 (omega arith)) (refl, refl)
  upto (suc k) z = go (row_at k z) (upto k (omega arith))
    where
      go : RowAt k → Upto k → Upto (suc k)
      go (earlier l m) (u, w) =
          let t : ltb (Λ d) k ≡ true = lt-ltb (Λ d) k l in
          rw (m, u, w, t, lt-ltb (Λ d) (suc k) (omega arith), ne_eqb (Λ d) k (λ e. omega arith)) (refl, refl)
      go (here e m f) (u, w) = rw (m, f, e, lt-ltb k (suc k) (omega arith)) (refl, refl)
      go (later l m) (u, w) =
          let t : ltb (Λ d) k ≡ false = le-ltb (Λ d) k (omega arith) in
          rw (m, u, w, t, le-ltb (Λ d) (suc k) (omega arith), eq-eqb k k refl) (refl, refl)

  pub folded_back : (foldΛ n (marks h Λ Δ) h d ≡ Λ d) × (foldΔ n (marks h Λ Δ) h d ≡ Δ d)
  folded_back = go (allowed_cases n h (Λ d) (Δ d) allowed) (upto h (omega arith))
    where
      go : Allowed n h (Λ d) (Δ d) → Upto h → (foldΛ n (marks h Λ Δ) h d ≡ Λ d) × (foldΔ n (marks h Λ Δ) h d ≡ Δ d)
      go (removed l m) (u, w) = let t = lt-ltb (Λ d) h l in (u ∙ rw t, w ∙ rw t)
      go (never e f) (u, w) = let t : ltb (Λ d) h ≡ false = le-ltb (Λ d) h (omega arith) in (u ∙ rw t (sym e), w ∙ rw t (sym f))
