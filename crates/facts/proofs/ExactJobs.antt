-- Check accepts exactly the accepted pyramids, and an add is accepted exactly where its row is a mark row and a kernel of level h: in the words of the jobs. Assumes nothing.
use mathlib.Core.Path.{◌≡◌, refl, sym, ◌∙◌}
use mathlib.Core.Bool.{Bool, true, false, cond, ◌&&◌}
use mathlib.Core.List.{List}
use Prim.Native.Nat.{ℕ, suc, ◌*◌, ◌≤◌, ◌<◌}
use native.Mathlib.Omega.{arith}
use lib.ListN.{length}
use lib.Dec.{eqb, ltb}
use borrow.Author.Tests.{le-leb, le-ltb, ltb-false, eqb-true, eqb-false, eq-eqb, ne_eqb, not-true, not-false}
use Rattle.maps.specs.Verdict.{accepted, ◌then◌, scan}
use Rattle.maps.specs.Map.{Involutions}
use Rattle.maps.specs.Mark.{is_mark, stay}
use Rattle.maps.specs.Table.{entry, each}
use Rattle.maps.specs.Folded.{On, refused_marks, marks, level, level_table, of_parts, Folded}
use Rattle.maps.specs.Check.{check8, check_map, check_kernel, check_kernels, check_pyramid}
use Rattle.maps.specs.Sizes.{number1, number2, number3, number4, has_length, sizes}
use Rattle.maps.specs.Explicit.{present}
use Rattle.maps.specs.CheckPyramid.{check_lent}
use Rattle.maps.specs.AddLevel.{refused_mark, at_row8, number20, add_lent}
use Rattle.maps.specs.Accepted.{Accepted, Addable}
use Rattle.laws.proofs.Verdicts.{then_accepted, when_accepted, scan_accepted, scan_all}
use Rattle.laws.proofs.Sizes.{sizes_sized, lengths_exact, both_equal}
use Rattle.facts.proofs.Levels.{level_valid}
use Rattle.facts.proofs.Adding.{allowed_cases, removed, never}
use Rattle.facts.proofs.Checks.{check_pyramid_lem, pyramid_check, sound_kernel, kernel_sound}
use Rattle.facts.proofs.Climbing.{table_present, row_check}

sized_sizes : (n N h : ℕ) → (1 ≤ n) × (n ≤ 4) → (1 ≤ N) × (N ≤ 4096) → h ≤ 32 → sizes n N h ≡ accepted
unfolding sizes number1 number2 number3
sized_sizes n N h d e f = rw (le-leb 1 n d.0, le-leb n 4 d.1, le-leb 1 N e.0, le-leb N 4096 e.1, le-ltb 32 h f)

module _ (P : Folded) (table : List ℕ) where
  open P use {n, N, h, rows, lambda, delta}

  abbrev a : Involutions
  a = entry N rows

  abbrev Λ : ℕ → ℕ
  Λ = each lambda

  abbrev Δ : ℕ → ℕ
  Δ = each delta

  pub check_accepts : check_lent P table ≡ accepted → Accepted P table
  unfolding check_lent
  check_accepts e =
      let fit = has_length rows (suc n * N) && (has_length lambda N && (has_length delta N && has_length table (suc n * N))) in
      let r = then_accepted (sizes n N h) (number4 fit then check_pyramid a n N h Λ Δ) e in
      let s = then_accepted (number4 fit) (check_pyramid a n N h Λ Δ) r.1 in
      let z = sizes_sized n N h r.0 in
      let t = both_equal (length rows) (suc n * N) (has_length lambda N && (has_length delta N && has_length table (suc n * N))) (lengths_exact fit s.0) in
      let u = both_equal (length lambda) N (has_length delta N && has_length table (suc n * N)) t.1 in
      let w = both_equal (length delta) N (has_length table (suc n * N)) u.1 in
      record {
        dimension = (z.one_dimension, z.dimension);
        darts = (z.one_dart, z.darts);
        height = z.height;
        rows_length = t.0;
        lambda_length = u.0;
        delta_length = w.0;
        table_length = eqb-true (length table) (suc n * N) w.1;
        pyramid = check_pyramid_lem a n N h Λ Δ (omega (arith, z.dimension)) s.1;
      }

  pub accepted_check : Accepted P table → check_lent P table ≡ accepted
  unfolding check_lent number4
  accepted_check p =
      rw (
        sized_sizes n N h p.dimension p.darts p.height,
        eq-eqb (length rows) (suc n * N) p.rows_length,
        eq-eqb (length lambda) N p.lambda_length,
        eq-eqb (length delta) N p.delta_length,
        eq-eqb (length table) (suc n * N) p.table_length,
        pyramid_check a n N h Λ Δ p.pyramid.dimension p.pyramid,
      )

  module _ (row : List ℕ) where
    abbrev mark : ℕ → ℕ
    mark = each row

    -- 8 of the mark row, at one dart
    row_allows : (d : ℕ) → (is_mark n (mark d) ≡ true → Λ d ≡ h) → (is_mark n (mark d) ≡ false → mark d ≡ stay) → refused_mark n h Λ mark d ≡ false
    row_allows d top rest = go (is_mark n (mark d)) refl
      where
        go : (x : Bool) → is_mark n (mark d) ≡ x → refused_mark n h Λ mark d ≡ false
        go true q = rw (q, eq-eqb (Λ d) h (top q))
        go false q = rw (q, eq-eqb (mark d) stay (rest q))

    pub add_accepts : add_lent P row table ≡ accepted → Addable P row table
    unfolding add_lent at_row8 number20 check_pyramid
    add_accepts e =
        let last = check_kernel (level a n N (marks h Λ Δ) h) n N mark h in
        let v₇ = check_kernels a n N h Λ Δ then last in
        let v₆ = scan N (at_row8 n h Λ mark) then v₇ in
        let v₅ = check8 n N h Λ Δ then v₆ in
        let v₄ = check_map a n N (λ d. true) then v₅ in
        let v₃ = number20 h then v₄ in
        let fit₃ = has_length row N && has_length table (suc n * N) in
        let fit = has_length rows (suc n * N) && (has_length lambda N && (has_length delta N && fit₃)) in
        let e₁ = then_accepted (sizes n N h) (number4 fit then v₃) e in
        let e₂ = then_accepted (number4 fit) v₃ e₁.1 in
        let e₃ = then_accepted (number20 h) v₄ e₂.1 in
        let e₄ = then_accepted (check_map a n N (λ d. true)) v₅ e₃.1 in
        let e₅ = then_accepted (check8 n N h Λ Δ) v₆ e₄.1 in
        let e₆ = then_accepted (scan N (at_row8 n h Λ mark)) v₇ e₅.1 in
        let e₇ = then_accepted (check_kernels a n N h Λ Δ) last e₆.1 in
        let z = sizes_sized n N h e₁.0 in
        let t = both_equal (length rows) (suc n * N) (has_length lambda N && (has_length delta N && fit₃)) (lengths_exact fit e₂.0) in
        let u = both_equal (length lambda) N (has_length delta N && fit₃) t.1 in
        let w = both_equal (length delta) N fit₃ u.1 in
        let x = both_equal (length row) N (has_length table (suc n * N)) w.1 in
        let checked : check_pyramid a n N h Λ Δ ≡ accepted = rw (e₄.0, e₅.0, e₇.0) in
        let y = check_pyramid_lem a n N h Λ Δ (omega (arith, z.dimension)) checked in
        let not_full : h ≡ 32 → ⊥ = eqb-false h 32 (when_accepted (eqb h 32) 20 0 0 0 e₃.0) in
        let allows : (d : ℕ) → d < N → refused_mark n h Λ mark d ≡ false = λ d ld. when_accepted (refused_mark n h Λ mark d) 8 h 0 d (scan_accepted N (at_row8 n h Λ mark) e₆.0 d ld) in
        record {
          before = record { dimension = (z.one_dimension, z.dimension); darts = (z.one_dart, z.darts); height = z.height; rows_length = t.0; lambda_length = u.0; delta_length = w.0; table_length = eqb-true (length table) (suc n * N) x.1; pyramid = y };
          room = omega (arith, z.height);
          row_length = x.0;
          mark_row = record {
            top = λ d ld q. eqb-true (Λ d) h (rw q at (not-false (cond (is_mark n (mark d)) (eqb (Λ d) h) (eqb (mark d) stay)) (allows d ld)));
            rest = λ d ld q. eqb-true (mark d) stay (rw q at (not-false (cond (is_mark n (mark d)) (eqb (Λ d) h) (eqb (mark d) stay)) (allows d ld)));
          };
          kernel = kernel_sound (level a n N (marks h Λ Δ) h) n N mark h (On N Λ h) (level_valid a n N h Λ Δ y h (omega arith)) (λ d o. o.0) e₇.1;
        }

    pub addable_accepted : Addable P row table → add_lent P row table ≡ accepted
    unfolding add_lent at_row8 number4 number20 check_pyramid
    addable_accepted p =
        let b = p.before in
        let y = b.pyramid in
        let r = p.mark_row in
        let c = pyramid_check a n N h Λ Δ y.dimension y in
        let c₁ = then_accepted (check_map a n N (λ d. true)) (check8 n N h Λ Δ then check_kernels a n N h Λ Δ) c in
        let c₂ = then_accepted (check8 n N h Λ Δ) (check_kernels a n N h Λ Δ) c₁.1 in
        let room = p.room in
        rw (
          sized_sizes n N h b.dimension b.darts b.height,
          eq-eqb (length rows) (suc n * N) b.rows_length,
          eq-eqb (length lambda) N b.lambda_length,
          eq-eqb (length delta) N b.delta_length,
          eq-eqb (length row) N p.row_length,
          eq-eqb (length table) (suc n * N) b.table_length,
          ne_eqb h 32 (λ z. omega arith),
          c₁.0,
          c₂.0,
          scan_all N (at_row8 n h Λ mark) (λ d ld. rw (row_allows d (r.top d ld) (r.rest d ld))),
          c₂.1,
        )
        (sound_kernel (level a n N (marks h Λ Δ) h) n N mark h (On N Λ h) (level_valid a n N h Λ Δ y h (omega arith)) (λ d o. o.0) (λ d ld q. let t = r.top d ld q in (ld, omega arith)) p.kernel)

-- allowed marks have Λ at most h
allowed_low : (n h x y : ℕ) → refused_marks n h x y ≡ false → x ≤ h
allowed_low n h x y e = elim (allowed_cases n h x y e) [ removed l m ↦ omega arith | never f m ↦ omega arith ]

-- A row whose marks stand on darts of the top table and that the table's own check accepts as a kernel is added: what a job finds on the table that check left can be added.
module _ (P : Folded) (table : List ℕ) (e : check_lent P table ≡ accepted) (row : List ℕ) where
  open P use {n, N, h, rows, lambda, delta}

  abbrev T : List ℕ
  T = level_table (entry N rows) n N h (each lambda) (each delta) h

  pub top_row_added : (table' : List ℕ) → length table' ≡ suc n * N → h < 32 → length row ≡ N → ((d : ℕ) → d < N → is_mark n (each row d) ≡ true → present N T d ≡ true) → ((d : ℕ) → d < N → is_mark n (each row d) ≡ false → each row d ≡ stay)
      → check_kernel (entry N T) n N (each row) h ≡ accepted → add_lent P row table' ≡ accepted
  unfolding check_pyramid check_kernels
  top_row_added table' as_long room long here rest passed =
      let p = check_accepts P table e in
      let y = p.pyramid in
      let c = pyramid_check (entry N rows) n N h (each lambda) (each delta) y.dimension y in
      let c₁ = then_accepted (check_map (entry N rows) n N (λ d. true)) (check8 n N h (each lambda) (each delta) then check_kernels (entry N rows) n N h (each lambda) (each delta)) c in
      let scanned = (then_accepted (check8 n N h (each lambda) (each delta)) (check_kernels (entry N rows) n N h (each lambda) (each delta)) c₁.1).1 in
      let on : (d : ℕ) → d < N → is_mark n (each row d) ≡ true → h ≤ each lambda d = λ d ld q.
      ltb-false (each lambda d) h (not-true (ltb (each lambda d) h) (sym (table_present (entry N rows) n N h (each lambda) (each delta) p.dimension.1 p.darts.1 y.base y.allowed h (omega arith) scanned d ld) ∙ here d ld q)) in
      let low : (d : ℕ) → d < N → each lambda d ≤ h = λ d ld. allowed_low n h (each lambda d) (each delta d) (y.allowed d ld) in
      let kernel = row_check (entry N rows) n N h (each lambda) (each delta) p.dimension.1 p.darts.1 y.base y.allowed h (omega arith) scanned (each row) on (each row) (λ d ld. refl) in
      addable_accepted P table' row (record {
        before = record { dimension = p.dimension; darts = p.darts; height = p.height; rows_length = p.rows_length; lambda_length = p.lambda_length; delta_length = p.delta_length; table_length = as_long; pyramid = y };
        room = room;
        row_length = long;
        mark_row = record { top = λ d ld q. omega (arith, on d ld q, low d ld); rest = rest };
        kernel = kernel_sound (level (entry N rows) n N (marks h (each lambda) (each delta)) h) n N (each row) h (On N (each lambda) h) (level_valid (entry N rows) n N h (each lambda) (each delta) y h (omega arith)) (λ d o. o.0) (sym kernel ∙ passed);
      })
