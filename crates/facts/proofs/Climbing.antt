-- From one explicit level to the next, as the pyramid's check goes up. Assumes nothing.
use mathlib.Core.Path.{◌≡◌, refl, sym, ◌∙◌}
use mathlib.Core.Bool.{Bool, true, false, ◌&&◌, not}
use mathlib.Core.List.{List}
use Prim.Native.Nat.{ℕ, suc, ◌*◌, ◌≤◌, ◌<◌}
use native.Mathlib.Omega.{arith}
use lib.ListN.{length}
use lib.Dec.{eqb}
use borrow.Author.Tests.{ltb-true, ltb-false, le-ltb, lt-ltb, not-true, eqb-true, eqb-false}
use Rattle.maps.specs.Verdict.{accepted, scan}
use Rattle.maps.specs.Map.{Involutions, Valid}
use Rattle.maps.specs.Mark.{is_mark}
use Rattle.maps.specs.Kernel.{Kernel}
use Rattle.maps.specs.Removal.{removal}
use Rattle.maps.specs.Table.{entry, absent, explicit}
use Rattle.maps.specs.Folded.{On, gone, survives, refused_marks, marks, addΛ, addΔ, level, level_table}
use Rattle.maps.specs.MarkRow.{Row}
use Rattle.maps.specs.Pyramid.{Pyramid}
use Rattle.maps.specs.Check.{check_kernel, kernel_at, check_kernels}
use Rattle.maps.specs.Explicit.{present, There, Sound}
use Rattle.laws.proofs.MarkRows.{taken_is}
use Rattle.facts.proofs.Levels.{taken_in}
use Rattle.facts.proofs.Towers.{on_above}
use Rattle.laws.proofs.Tables.{explicit_of, explicit_same}
use Rattle.facts.proofs.Checks.{checked_kernels, checked_valid, kernel_sound}
use Rattle.facts.proofs.Stored.{stored_present, stored_sound, stored_check, stored_removal}
use Rattle.facts.proofs.Adding.{Allowed, removed, never, allowed_cases, level_new}
use Rattle.laws.proofs.Verdicts.{and_both}

-- the base, copied, is the explicit table of level 0
pub base_table : (n N h : ℕ) (rows : List ℕ) (Λ Δ : ℕ → ℕ) → length rows ≡ suc n * N → rows ≡ level_table (entry N rows) n N h Λ Δ 0
unfolding level
base_table n N h rows Λ Δ e = explicit_of (entry N rows) n N (survives Λ 0) rows e (λ i d li ld. rw (le-ltb (Λ d) 0 (omega arith)))

module _ (a : Involutions) (n N h : ℕ) (Λ Δ : ℕ → ℕ) (ln : n ≤ 4) (lN : N ≤ 4096) (base : Valid a n (λ d. d < N)) (allowed : (d : ℕ) → d < N → refused_marks n h (Λ d) (Δ d) ≡ false)
    (l : ℕ) (k : l ≤ h) (checked : scan l (kernel_at a n N h Λ Δ) ≡ accepted) where
  abbrev A : Involutions
  A = level a n N (marks h Λ Δ) l

  abbrev on : ℕ → Bool
  on = survives Λ l

  abbrev T : List ℕ
  T = level_table a n N h Λ Δ l

  there_on : (d : ℕ) → There N on d → On N Λ l d
  there_on d o = (o.0, ltb-false (Λ d) l (not-true (gone Λ l d) o.1))

  on_there : (d : ℕ) → On N Λ l d → There N on d
  on_there d o = (o.0, rw (le-ltb (Λ d) l o.1))

  valid_on : Valid A n (On N Λ l)
  valid_on = checked_valid a n N h Λ Δ (omega arith) base allowed l k checked

  valid_there : Valid A n (There N on)
  valid_there = record {
    inside = λ i d li o. on_there (A i d) (valid_on.inside i d li (there_on d o));
    twice = λ i d li o. valid_on.twice i d li (there_on d o);
    commute = λ i j d f lj o. valid_on.commute i j d f lj (there_on d o);
  }

  few : N ≤ absent
  few = omega arith

  -- the table of level l holds a valid map
  pub table_sound : Sound (entry N T) n N (present N T)
  table_sound = stored_sound A n N on few valid_there

  pub table_present : (d : ℕ) → d < N → present N T d ≡ on d
  table_present = stored_present A n N on few valid_there

  -- a row whose marks are on darts of the level
  module _ (row : ℕ → ℕ) (marked : (d : ℕ) → d < N → is_mark n (row d) ≡ true → l ≤ Λ d) where
    marked_on : (d : ℕ) → d < N → is_mark n (row d) ≡ true → on d ≡ true
    marked_on d ld q = rw (le-ltb (Λ d) l (marked d ld q))

    pub marked_present : (d : ℕ) → d < N → is_mark n (row d) ≡ true → present N T d ≡ true
    marked_present d ld q = table_present d ld ∙ marked_on d ld q

    module _ (mark : ℕ → ℕ) (same : (d : ℕ) → d < N → mark d ≡ row d) where
      marked_mark : (d : ℕ) → d < N → is_mark n (mark d) ≡ true → on d ≡ true
      marked_mark d ld q = marked_on d ld (rw (same d ld) at q)

      -- its check on the table is its check on the level
      pub row_check : check_kernel (entry N T) n N row l ≡ check_kernel A n N mark l
      row_check = stored_check A n N on few valid_there mark row same marked_mark l

      module _ (passed : check_kernel A n N mark l ≡ accepted) where
        kernel_on : Kernel A n (On N Λ l) mark
        kernel_on = kernel_sound A n N mark l (On N Λ l) valid_on (λ d o. o.0) passed

        kernel_there : Kernel A n (There N on) mark
        kernel_there = kernel_sound A n N mark l (There N on) valid_there (λ d o. o.0) passed

        -- accepted, its removal is stored
        pub row_removed : (next : ℕ → Bool) → ((d : ℕ) → d < N → (on d && not (is_mark n (mark d))) ≡ next d)
            → explicit (removal (entry N T) n row N) n N (λ d. present N T d && not (is_mark n (row d))) ≡ explicit (removal A n mark N) n N next
        row_removed = stored_removal A n N on few valid_there mark row same marked_mark kernel_there

  -- kernel l below h: what is left is level l+1
  pub next_survivors : l < h → (d : ℕ) → d < N → (on d && not (is_mark n (marks h Λ Δ l d))) ≡ survives Λ (suc l) d
  next_survivors f d ld = go (gone Λ l d) refl (is_mark n (marks h Λ Δ l d)) refl
    where
      go : (x : Bool) → gone Λ l d ≡ x → (y : Bool) → is_mark n (marks h Λ Δ l d) ≡ y → (not (gone Λ l d) && not (is_mark n (marks h Λ Δ l d))) ≡ not (gone Λ (suc l) d)
      go true p y q = let z = ltb-true (Λ d) l p in rw (p, lt-ltb (Λ d) (suc l) (omega arith))
      go false p true q =
          let t = taken_is n h Λ Δ (omega arith) l d q in
          rw (p, q, lt-ltb (Λ d) (suc l) (omega arith))
      go false p false q =
          let o = on_above N Λ l d ((ld, ltb-false (Λ d) l p), sym (taken_in a n N h Λ Δ (omega arith) allowed l d f ld) ∙ q) in
          rw (p, q, le-ltb (Λ d) (suc l) o.1)

  pub kernel_marked : (d : ℕ) → is_mark n (marks h Λ Δ l d) ≡ true → l ≤ Λ d
  kernel_marked d q = let t = taken_is n h Λ Δ (omega arith) l d q in omega arith

  -- the explicit level l+1
  pub next_table : l < h → (row : ℕ → ℕ) (same : (d : ℕ) → d < N → marks h Λ Δ l d ≡ row d) (passed : kernel_at a n N h Λ Δ l ≡ accepted)
      → explicit (removal (entry N T) n row N) n N (λ d. present N T d && not (is_mark n (row d))) ≡ level_table a n N h Λ Δ (suc l)
  unfolding level kernel_at
  next_table f row same passed =
      row_removed row (λ d ld q. kernel_marked d (rw (same d ld) q)) (marks h Λ Δ l) same passed (survives Λ (suc l)) (next_survivors f)

-- a mark row added on level h: what is left is the new top level
module _ (a : Involutions) (n N h : ℕ) (Λ Δ : ℕ → ℕ) (ln : n ≤ 4) (lN : N ≤ 4096) (base : Valid a n (λ d. d < N)) (allowed : (d : ℕ) → d < N → refused_marks n h (Λ d) (Δ d) ≡ false)
    (checked : check_kernels a n N h Λ Δ ≡ accepted) (mark : ℕ → ℕ) (r : Row n N h Λ mark) (passed : check_kernel (level a n N (marks h Λ Δ) h) n N mark h ≡ accepted) where
  scanned : scan h (kernel_at a n N h Λ Δ) ≡ accepted
  unfolding check_kernels
  scanned = checked

  pub checked_pyramid : Pyramid a n N h Λ Δ
  checked_pyramid = record { dimension = omega arith; base = base; allowed = allowed; kernel = checked_kernels a n N h Λ Δ (omega arith) base allowed h (omega arith) scanned }

  pub checked_kernel : Kernel (level a n N (marks h Λ Δ) h) n (On N Λ h) mark
  checked_kernel = kernel_on a n N h Λ Δ ln lN base allowed h (omega arith) scanned mark (λ d ld q. let t = r.top d ld q in omega arith) mark (λ d ld. refl) passed

  top_survivors : (d : ℕ) → d < N → (survives Λ h d && not (is_mark n (mark d))) ≡ survives (addΛ n h Λ mark) (suc h) d
  top_survivors d ld = go (is_mark n (mark d)) refl (eqb (Λ d) h) refl (allowed_cases n h (Λ d) (Δ d) (allowed d ld))
    where
      go : (x : Bool) → is_mark n (mark d) ≡ x → (y : Bool) → eqb (Λ d) h ≡ y → Allowed n h (Λ d) (Δ d) → (survives Λ h d && not (is_mark n (mark d))) ≡ survives (addΛ n h Λ mark) (suc h) d
      go true q y e w = let t = r.top d ld q in rw (q, le-ltb (Λ d) h (omega arith), lt-ltb h (suc h) (omega arith))
      go false q true e w = let t = eqb-true (Λ d) h e in rw (q, e, le-ltb (Λ d) h (omega arith), le-ltb (suc h) (suc h) (omega arith))
      go false q false e (removed l m) = rw (q, e, lt-ltb (Λ d) h l, lt-ltb (Λ d) (suc h) (omega arith))
      go false q false e (never z m) = absurd (eqb-false (Λ d) h e z)

  pub top_table : (row : ℕ → ℕ) → ((d : ℕ) → d < N → mark d ≡ row d)
      → explicit (removal (entry N (level_table a n N h Λ Δ h)) n row N) n N (λ d. present N (level_table a n N h Λ Δ h) d && not (is_mark n (row d))) ≡ level_table a n N (suc h) (addΛ n h Λ mark) (addΔ n Δ mark) (suc h)
  top_table row same =
      row_removed a n N h Λ Δ ln lN base allowed h (omega arith) scanned row (λ d ld q. let t = r.top d ld (rw (same d ld) q) in omega arith) mark same passed (survives (addΛ n h Λ mark) (suc h)) top_survivors
      ∙ explicit_same (removal (level a n N (marks h Λ Δ) h) n mark N) (level a n N (marks (suc h) (addΛ n h Λ mark) (addΔ n Δ mark)) (suc h)) n N (survives (addΛ n h Λ mark) (suc h)) (survives (addΛ n h Λ mark) (suc h)) (λ d ld. refl)
      (λ i d li ld q. level_new a n N h Λ Δ checked_pyramid mark r checked_kernel i d li (there_on a n N h Λ Δ ln lN base allowed h (omega arith) scanned d (ld, (and_both (survives Λ h d) (not (is_mark n (mark d))) (top_survivors d ld ∙ q)).0)))
