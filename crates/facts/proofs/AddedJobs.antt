-- An added level makes an accepted pyramid, and the rows read back, added one after the other, rebuild it: in the words of the jobs. Assumes nothing.
use mathlib.Core.Path.{◌≡◌, refl, sym, ◌∙◌}
use mathlib.Core.Bool.{Bool, true, false, cond, ◌&&◌, not, true≢false}
use mathlib.Core.List.{List}
use Prim.Native.Nat.{ℕ, suc, ◌*◌, ◌≤◌, ◌<◌}
use native.Mathlib.Omega.{arith}
use lib.ListN.{length}
use lib.Dec.{eqb, ltb}
use borrow.Author.Tests.{ltb-false, le-ltb, eqb-true, eqb-false, eq-eqb, ne_eqb, not-true, not-false}
use Rattle.maps.specs.Verdict.{accepted, ◌then◌, scan}
use Rattle.maps.specs.Map.{Involutions, Valid}
use Rattle.maps.specs.Mark.{is_mark, stay}
use Rattle.maps.specs.Kernel.{Kernel}
use Rattle.maps.specs.Table.{each, listed}
use Rattle.maps.specs.Folded.{On, survives, refused_marks, marks, addΛ, addΔ, foldΛ, foldΔ, level, level_table, Folded, base, lambda_of, delta_of}
use Rattle.maps.specs.MarkRow.{Row}
use Rattle.maps.specs.Pyramid.{Pyramid}
use Rattle.maps.specs.Check.{at8, check8, check_map, check_kernel, check_kernels, check_pyramid}
use Rattle.maps.specs.Sizes.{number1, number2, number3, number4, has_length, sizes}
use Rattle.maps.specs.CheckPyramid.{left_behind, table_at}
use Rattle.maps.specs.AddLevel.{refused_mark, at_row8, number20, add_lent, add_lambda, add_delta, add_leaves}
use Rattle.maps.specs.Readded.{row_back, lowest, Readded}
use Rattle.laws.proofs.Verdicts.{then_accepted, when_accepted, scan_accepted, scan_all}
use Rattle.laws.proofs.Sizes.{Sized, sizes_sized, lengths_exact}
use Rattle.laws.proofs.Tables.{length_listed, get_or_listed, listed_of, listed_same, explicit_same}
use Rattle.laws.proofs.MarkRows.{marks_at_lem, taken_is, allowed_small}
use Rattle.facts.proofs.Levels.{level_at, level_valid}
use Rattle.facts.proofs.Agreement.{kernel_same, level_same}
use Rattle.facts.proofs.Adding.{marks_not, added}
use Rattle.facts.proofs.Folding.{Folds, folds, upto, folded_back}
use Rattle.facts.proofs.Checks.{map_sound, valid_base, sound_kernel, pyramid_check}
use Rattle.facts.proofs.Climbing.{checked_pyramid, checked_kernel}

-- marks that agree at the darts below N make the same pyramid, with the same levels
module _ (a : Involutions) (n N h : ℕ) (Λ Δ Λ' Δ' : ℕ → ℕ) (sameΛ : (d : ℕ) → d < N → Λ d ≡ Λ' d) (sameΔ : (d : ℕ) → d < N → Δ d ≡ Δ' d) (y : Pyramid a n N h Λ Δ) where
  marks_same : (l d : ℕ) → d < N → marks h Λ Δ l d ≡ marks h Λ' Δ' l d
  marks_same l d ld = rw (sameΛ d ld, sameΔ d ld)

  pub levels_same : (l : ℕ) → l ≤ h → (i d : ℕ) → i ≤ n → On N Λ l d → level a n N (marks h Λ Δ) l i d ≡ level a n N (marks h Λ' Δ') l i d
  levels_same = level_same a n N h (marks h Λ Δ) (marks h Λ' Δ') (On N Λ) (λ l d o. (o.0, omega (arith, o.1))) (λ l k. level_valid a n N h Λ Δ y l (omega arith)) y.kernel (λ l d k o. marks_same l d o.0)

  pub on_same : (l d : ℕ) → On N Λ' l d → On N Λ l d
  on_same l d o = (o.0, rw (sameΛ d o.0) o.1)

  pub pyramid_same : Pyramid a n N h Λ' Δ'
  pyramid_same = record {
    dimension = y.dimension;
    base = y.base;
    allowed = λ d ld. rw (← (sameΛ d ld), ← (sameΔ d ld)) (y.allowed d ld);
    kernel = λ l k. kernel_same (level a n N (marks h Λ Δ) l) (level a n N (marks h Λ' Δ') l) n (On N Λ l) (On N Λ' l) (marks h Λ Δ l) (marks h Λ' Δ' l) (level_valid a n N h Λ Δ y l (omega arith)) (y.kernel l k)
        (levels_same l (omega arith)) (λ d o. marks_same l d o.0) (on_same l);
  }

  pub table_same : (l : ℕ) → l ≤ h → level_table a n N h Λ Δ l ≡ level_table a n N h Λ' Δ' l
  table_same l k =
      explicit_same (level a n N (marks h Λ Δ) l) (level a n N (marks h Λ' Δ') l) n N (survives Λ l) (survives Λ' l) (λ d ld. rw (sameΛ d ld))
      (λ i d li ld q. levels_same l k i d li (on_same l d (ld, ltb-false (Λ' d) l (not-true (ltb (Λ' d) l) q))))

-- a height below one that is in range is in range
sizes_lower : (n N h k : ℕ) → k ≤ h → sizes n N h ≡ accepted → sizes n N k ≡ accepted
unfolding sizes number1 number2 number3
sizes_lower n N h k z e =
    let r = then_accepted (number1 n) (number2 N then number3 h) e in
    let s = then_accepted (number2 N) (number3 h) r.1 in
    let t = ltb-false 32 h (when_accepted (ltb 32 h) 3 0 0 0 s.1) in
    rw (r.0, s.0, le-ltb 32 k (omega arith))

check_parts : (a : Involutions) (n N h : ℕ) (Λ Δ : ℕ → ℕ) → check_pyramid a n N h Λ Δ ≡ accepted → (check_map a n N (λ d. true) ≡ accepted) × (check8 n N h Λ Δ ≡ accepted) × (check_kernels a n N h Λ Δ ≡ accepted)
unfolding check_pyramid
check_parts a n N h Λ Δ e =
    let r = then_accepted (check_map a n N (λ d. true)) (check8 n N h Λ Δ then check_kernels a n N h Λ Δ) e in
    let s = then_accepted (check8 n N h Λ Δ) (check_kernels a n N h Λ Δ) r.1 in
    (r.0, s.0, s.1)

-- an add that was accepted
module _ (P : Folded) (row table : List ℕ) (e : add_lent P row table ≡ accepted) where
  open P use {n, N, h, rows, lambda, delta}

  abbrev a : Involutions
  a = base P

  abbrev Λ : ℕ → ℕ
  Λ = lambda_of P

  abbrev Δ : ℕ → ℕ
  Δ = delta_of P

  abbrev mark : ℕ → ℕ
  mark = each row

  pub record Parts : Type 0 where
    pub sized : Sized n N h
    pub fit : has_length rows (suc n * N) && (has_length lambda N && (has_length delta N && (has_length row N && has_length table (suc n * N)))) ≡ true
    pub room : h ≡ 32 → ⊥
    base : Valid a n (λ d. d < N)
    allowed : (d : ℕ) → d < N → refused_marks n h (Λ d) (Δ d) ≡ false
    pub marked : Row n N h Λ mark
    kernels : check_kernels a n N h Λ Δ ≡ accepted
    kernel : check_kernel (level a n N (marks h Λ Δ) h) n N mark h ≡ accepted

  row_of : ((d : ℕ) → d < N → refused_mark n h Λ mark d ≡ false) → Row n N h Λ mark
  row_of f = record {
    top = λ d ld q. eqb-true (Λ d) h (rw q at (not-false (cond (is_mark n (mark d)) (eqb (Λ d) h) (eqb (mark d) stay)) (f d ld)));
    rest = λ d ld q. eqb-true (mark d) stay (rw q at (not-false (cond (is_mark n (mark d)) (eqb (Λ d) h) (eqb (mark d) stay)) (f d ld)));
  }

  pub parts : Parts
  unfolding add_lent number20 at_row8 at8 check8
  parts =
      let last = check_kernel (level a n N (marks h Λ Δ) h) n N mark h in
      let v₇ = check_kernels a n N h Λ Δ then last in
      let v₆ = scan N (at_row8 n h Λ mark) then v₇ in
      let v₅ = check8 n N h Λ Δ then v₆ in
      let v₄ = check_map a n N (λ d. true) then v₅ in
      let v₃ = number20 h then v₄ in
      let exact = has_length rows (suc n * N) && (has_length lambda N && (has_length delta N && (has_length row N && has_length table (suc n * N)))) in
      let e₁ = then_accepted (sizes n N h) (number4 exact then v₃) e in
      let e₂ = then_accepted (number4 exact) v₃ e₁.1 in
      let e₃ = then_accepted (number20 h) v₄ e₂.1 in
      let e₄ = then_accepted (check_map a n N (λ d. true)) v₅ e₃.1 in
      let e₅ = then_accepted (check8 n N h Λ Δ) v₆ e₄.1 in
      let e₆ = then_accepted (scan N (at_row8 n h Λ mark)) v₇ e₅.1 in
      let e₇ = then_accepted (check_kernels a n N h Λ Δ) last e₆.1 in
      let s = sizes_sized n N h e₁.0 in
      record {
        sized = s;
        fit = lengths_exact exact e₂.0;
        room = eqb-false h 32 (when_accepted (eqb h 32) 20 0 0 0 e₃.0);
        base = valid_base a n N h Λ Δ (omega arith) (map_sound a n N (λ d. true) e₄.0);
        allowed = λ d ld. when_accepted (refused_marks n h (Λ d) (Δ d)) 8 0 0 d (scan_accepted N (at8 n h Λ Δ) e₅.0 d ld);
        marked = row_of (λ d ld. when_accepted (refused_mark n h Λ mark d) 8 h 0 d (scan_accepted N (at_row8 n h Λ mark) e₆.0 d ld));
        kernels = e₇.0;
        kernel = e₇.1;
      }

  -- an added level makes an accepted pyramid, of the marks that are left in Λ and Δ
  pub add_pyramid : Pyramid a n N (suc h) (each (add_lambda P row table)) (each (add_delta P row table))
  unfolding add_lambda add_delta
  add_pyramid =
      let p = parts in
      let s = p.sized in
      let y = checked_pyramid a n N h Λ Δ s.dimension s.darts p.base p.allowed p.kernels mark p.marked p.kernel in
      let k = checked_kernel a n N h Λ Δ s.dimension s.darts p.base p.allowed p.kernels mark p.marked p.kernel in
      rw e
      (pyramid_same a n N (suc h) (addΛ n h Λ mark) (addΔ n Δ mark) (each (listed (addΛ n h Λ mark) N)) (each (listed (addΔ n Δ mark) N))
      (λ d ld. sym (get_or_listed (addΛ n h Λ mark) N d 0 ld)) (λ d ld. sym (get_or_listed (addΔ n Δ mark) N d 0 ld)) (added a n N h Λ Δ y mark p.marked k))

-- the rows read back out of an accepted pyramid are its kernels
module _ (a : Involutions) (n N h : ℕ) (Λ Δ : ℕ → ℕ) (y : Pyramid a n N h Λ Δ) where
  fold_at : (k d : ℕ) → k ≤ h → d < N → foldΛ n (marks h Λ Δ) k d ≡ cond (ltb (Λ d) k) (Λ d) k
  fold_at k d z ld = (upto n h Λ Δ y.dimension d (y.allowed d ld) k z).0

  on_fold : (k d : ℕ) → k ≤ h → On N (foldΛ n (marks h Λ Δ) k) k d → On N Λ k d
  on_fold k d z o = (o.0, go (ltb (Λ d) k) refl)
    where
      go : (x : Bool) → ltb (Λ d) k ≡ x → k ≤ Λ d
      go true q = let f : foldΛ n (marks h Λ Δ) k d ≡ Λ d = fold_at k d z o.0 ∙ rw q in omega (arith, o.1)
      go false q = ltb-false (Λ d) k q

  fold_row : (k : ℕ) → k < h → Row n N k (foldΛ n (marks h Λ Δ) k) (marks h Λ Δ k)
  fold_row k z = record {
    top = λ d ld q. let t = taken_is n h Λ Δ y.dimension k d q in fold_at k d (omega arith) ld ∙ rw (le-ltb (Λ d) k (omega arith));
    rest = λ d ld q. marks_not h Λ Δ k d (λ e. not_mark k d ld z e q);
  }
    where
      not_mark : (k d : ℕ) → d < N → k < h → Λ d ≡ k → is_mark n (marks h Λ Δ k d) ≡ false → ⊥
      not_mark k d ld z e q =
          let m : is_mark n (marks h Λ Δ k d) ≡ true = rw (marks_at_lem n h Λ Δ k d z e) (allowed_small n h Λ Δ d (y.allowed d ld) (omega arith)) in
          true≢false (sym m ∙ q)

  -- folded up to k, they are an accepted pyramid with the same levels
  pub folded : (k : ℕ) → k ≤ h → Folds a n N k (marks h Λ Δ)
  folded k z = folds a n N (marks h Λ Δ) k (record {
    dimension = y.dimension;
    base = y.base;
    row = λ l f. fold_row l (omega arith);
    kernel = λ l f. kernel_same (level_at a n N h Λ Δ y l) (level_at a n N h Λ Δ y l) n (On N Λ l) (On N (foldΛ n (marks h Λ Δ) l) l) (marks h Λ Δ l) (marks h Λ Δ l) (level_valid a n N h Λ Δ y l (omega arith)) (y.kernel l (omega arith))
        (λ t d lt o. refl) (λ d o. refl) (λ d o. on_fold l d (omega arith) o);
  })

-- Adding the rows that were read back, one after the other, to the base: each is accepted, and gives the Λ, Δ and table of that height.
module _ (P : Folded) (y : Pyramid (base P) P.n P.N P.h (lambda_of P) (delta_of P)) where
  open P use {n, N, h, rows, lambda, delta}

  pub whole_height : length lambda ≡ N → length delta ≡ N → ((lowest P h).lambda ≡ lambda) × ((lowest P h).delta ≡ delta)
  whole_height e f = (
    sym (listed_of (foldΛ n (marks h (lambda_of P) (delta_of P)) h) N lambda e (λ d ld. sym (folded_back n h (lambda_of P) (delta_of P) y.dimension d (y.allowed d ld)).0)),
    sym (listed_of (foldΔ n (marks h (lambda_of P) (delta_of P)) h) N delta f (λ d ld. sym (folded_back n h (lambda_of P) (delta_of P) y.dimension d (y.allowed d ld)).1)),
  )

  module _ (sized : sizes n N h ≡ accepted) (long : length rows ≡ suc n * N) (k : ℕ) (z : k < h) (table : List ℕ) (table-long : length table ≡ suc n * N) where
    abbrev ks : ℕ → ℕ → ℕ
    ks = marks h (lambda_of P) (delta_of P)

    abbrev L : ℕ → ℕ
    L = lambda_of (lowest P k)

    abbrev D : ℕ → ℕ
    D = delta_of (lowest P k)

    abbrev R : ℕ → ℕ
    R = each (row_back P k)

    same_l : (d : ℕ) → d < N → foldΛ n ks k d ≡ L d
    same_l d ld = sym (get_or_listed (foldΛ n ks k) N d 0 ld)

    same_d : (d : ℕ) → d < N → foldΔ n ks k d ≡ D d
    same_d d ld = sym (get_or_listed (foldΔ n ks k) N d 0 ld)

    same_r : (d : ℕ) → d < N → ks k d ≡ R d
    same_r d ld = sym (get_or_listed (ks k) N d 0 ld)

    F : Folds (base P) n N k ks
    F = folded (base P) n N h (lambda_of P) (delta_of P) y k (omega arith)

    below : Pyramid (base P) n N k L D
    below = pyramid_same (base P) n N k (foldΛ n ks k) (foldΔ n ks k) L D same_l same_d F.pyramid

    row_lists : Row n N k L R
    row_lists =
        let r = fold_row (base P) n N h (lambda_of P) (delta_of P) y k z in
        record {
          top = λ d ld q. sym (same_l d ld) ∙ r.top d ld (rw (same_r d ld) q);
          rest = λ d ld q. sym (same_r d ld) ∙ r.rest d ld (rw (same_r d ld) q);
        }

    -- the level of the folded rows is the pyramid's own
    level_is : (i d : ℕ) → i ≤ n → On N (lambda_of P) k d → level (base P) n N ks k i d ≡ level (base P) n N (marks k L D) k i d
    level_is i d li o =
        let o' : On N (foldΛ n ks k) k d = (o.0, rw (fold_at (base P) n N h (lambda_of P) (delta_of P) y k d (omega arith) o.0, le-ltb (lambda_of P d) k o.1) (omega arith)) in
        sym (F.maps k (omega arith) i d li o') ∙ levels_same (base P) n N k (foldΛ n ks k) (foldΔ n ks k) L D same_l same_d F.pyramid k (omega arith) i d li o'

    on_lists : (d : ℕ) → On N L k d → On N (lambda_of P) k d
    on_lists d o = on_fold (base P) n N h (lambda_of P) (delta_of P) y k d (omega arith) (on_same (base P) n N k (foldΛ n ks k) (foldΔ n ks k) L D same_l same_d F.pyramid k d o)

    kernel_lists : Kernel (level (base P) n N (marks k L D) k) n (On N L k) R
    kernel_lists =
        kernel_same (level (base P) n N ks k) (level (base P) n N (marks k L D) k) n (On N (lambda_of P) k) (On N L k) (ks k) R (level_valid (base P) n N h (lambda_of P) (delta_of P) y k (omega arith)) (y.kernel k z) level_is (λ d o. same_r d o.0) on_lists

    refused_none : (d : ℕ) → d < N → refused_mark n k L R d ≡ false
    refused_none d ld = go (is_mark n (R d)) refl
      where
        go : (x : Bool) → is_mark n (R d) ≡ x → refused_mark n k L R d ≡ false
        go true q = rw (q, eq-eqb (L d) k (row_lists.top d ld q))
        go false q = rw (q, eq-eqb (R d) stay (row_lists.rest d ld q))

    verdict : add_lent (lowest P k) (row_back P k) table ≡ accepted
    unfolding add_lent number4 number20 at_row8
    verdict =
        let s = sizes_sized n N h sized in
        let c = check_parts (base P) n N k L D (pyramid_check (base P) n N k L D y.dimension below) in
        rw (
          sizes_lower n N h k (omega arith) sized,
          eq-eqb (length rows) (suc n * N) long,
          eq-eqb (length (lowest P k).lambda) N (length_listed (foldΛ n ks k) N),
          eq-eqb (length (lowest P k).delta) N (length_listed (foldΔ n ks k) N),
          eq-eqb (length (row_back P k)) N (length_listed (ks k) N),
          eq-eqb (length table) (suc n * N) table-long,
          ne_eqb k 32 (λ e. omega arith),
          c.0,
          c.1,
          scan_all N (at_row8 n k L R) (λ d ld. rw (refused_none d ld)),
          c.2,
          sound_kernel (level (base P) n N (marks k L D) k) n N R k (On N L k) (level_valid (base P) n N k L D below k (omega arith)) (λ d o. o.0) (λ d ld q. (ld, omega (arith, row_lists.top d ld q))) kernel_lists,
        )

    F' : Folds (base P) n N (suc k) ks
    F' = folded (base P) n N h (lambda_of P) (delta_of P) y (suc k) z

    survives_fold : (d : ℕ) → d < N → survives (foldΛ n ks (suc k)) (suc k) d ≡ survives (lambda_of P) (suc k) d
    survives_fold d ld = rw (fold_at (base P) n N h (lambda_of P) (delta_of P) y (suc k) d z ld) (go (ltb (lambda_of P d) (suc k)) refl)
      where
        go : (x : Bool) → ltb (lambda_of P d) (suc k) ≡ x → not (ltb (cond (ltb (lambda_of P d) (suc k)) (lambda_of P d) (suc k)) (suc k)) ≡ not (ltb (lambda_of P d) (suc k))
        go true q = rw (q, q)
        go false q = rw (q, le-ltb (suc k) (suc k) (omega arith))

    tables_next : level_table (base P) n N (suc k) (addΛ n k L R) (addΔ n D R) (suc k) ≡ table_at P (suc k)
    unfolding foldΛ foldΔ
    tables_next =
        sym (table_same (base P) n N (suc k) (foldΛ n ks (suc k)) (foldΔ n ks (suc k)) (addΛ n k L R) (addΔ n D R) (λ d ld. rw (same_l d ld, same_r d ld)) (λ d ld. rw (same_d d ld, same_r d ld)) F'.pyramid (suc k) (omega arith))
        ∙ explicit_same (level (base P) n N (marks (suc k) (foldΛ n ks (suc k)) (foldΔ n ks (suc k))) (suc k)) (level (base P) n N ks (suc k)) n N (survives (foldΛ n ks (suc k)) (suc k)) (survives (lambda_of P) (suc k)) survives_fold
        (λ i d li ld q. F'.maps (suc k) (omega arith) i d li (ld, ltb-false (foldΛ n ks (suc k) d) (suc k) (not-true (ltb (foldΛ n ks (suc k) d) (suc k)) (survives_fold d ld ∙ q))))

    pub readded : Readded P k table
    unfolding add_lambda add_delta add_leaves left_behind foldΛ foldΔ
    readded = record {
      verdict = verdict;
      lambda_next = rw verdict (listed_same (addΛ n k L R) (addΛ n k (foldΛ n ks k) (ks k)) N (λ d ld. rw (same_l d ld, same_r d ld)));
      delta_next = rw verdict (listed_same (addΔ n D R) (addΔ n (foldΔ n ks k) (ks k)) N (λ d ld. rw (same_d d ld, same_r d ld)));
      table_next = rw verdict tables_next;
    }
