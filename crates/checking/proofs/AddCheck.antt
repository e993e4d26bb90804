-- The verdict of an add and what it leaves, taken apart as the code tests it. Assumes nothing.
use mathlib.Core.Path.{◌≡◌, refl, sym, ap, ◌∙◌}
use mathlib.Core.Bool.{Bool, true, false, cond, ◌&&◌, ◌||◌, not}
use mathlib.Core.List.{List}
use Prim.Native.Nat.{ℕ, zero, suc, ◌+◌, ◌*◌, ◌≤◌, ◌<◌}
use native.Mathlib.Numerals.{add-one}
use native.Mathlib.Omega.{arith}
use lib.ListN.{length, get_or, take}
use lib.Seq.{take_all}
use Rattle.std.proofs.lemmas.List.Sums.{fold_more}
use Rattle.answers.proofs.Bools.{neither}
use Rattle.std.specs.Prelude.{Some, None, position}
use Rattle.std.specs.List.{zip, fold}
use Rattle.std.proofs.lemmas.Slice.Zip.{length-zip, get_or-zip}
use Rattle.std.proofs.lemmas.List.Quantifiers.{position-Some}
use Rattle.answers.proofs.Firsts.{scan_found, scan_none}
use lib.Dec.{eqb}
use borrow.Author.Tests.{eqb-true, eqb-false, not-false}
use Rattle.maps.specs.Verdict.{Verdict, accepted, refused, ◌then◌, scan}
use Rattle.maps.specs.Sizes.{has_length}
use Rattle.maps.specs.Mark.{is_mark, stay}
use Rattle.maps.specs.Table.{entry, each, listed}
use Rattle.maps.specs.Folded.{addΛ, addΔ, level_table, Folded}
use Rattle.maps.specs.MarkRow.{Row}
use Rattle.maps.specs.AddLevel.{refused_mark, at_row8, number20, add_lent, add_height, add_lambda, add_delta, add_leaves}
use Rattle.laws.proofs.Verdicts.{then_accepted, when_accepted, scan_accepted, scan_all, then_two}
use Rattle.laws.proofs.Sizes.{both_equal}
use Rattle.answers.specs.Numbers.{refusal_of}
use Rattle.answers.specs.Lent.{lent_of}
use Rattle.answers.specs.declared.Refusal.{Refusal}
use Rattle.answers.proofs.Refusals.{refusal_keeps}
use Rattle.checking.specs.Checked.{base_and_marks}
use Rattle.checking.specs.Added.{add_sizes, row_marks, add_marks, new_top, ascends, ascend_leaves}
use Rattle.checking.proofs.AddKernels.{ascends_late}
use Rattle.climbing.proofs.Verdicts.{Says, says_when, says_then, says_scan}
use Rattle.checking.proofs.Parts.{Early, lengths_early, at_sizes, at_marks, at_kernels}
use Rattle.checking.proofs.PyramidCheck.{Lent, lent_facts, marks_early_all}

module _ (P : Folded) (row table : List ℕ) where
  open P use {n, N, h, rows, lambda, delta}

  abbrev others : Bool
  others = has_length row N && has_length table (suc n * N)

  abbrev exact : Bool
  exact = has_length rows (suc n * N) && (has_length lambda N && (has_length delta N && others))

  -- what 1 to 4 tell when they are not refused
  pub add_facts : add_sizes P row table ≡ accepted → Lent P table × (length row ≡ N)
  add_facts e =
      let two : others ≡ true → (length row ≡ N) × (length table ≡ suc n * N) = λ o. let r = both_equal (length row) N (has_length table (suc n * N)) o in (r.0, eqb-true (length table) (suc n * N) r.1) in
      let f = lent_facts P table others (then_accepted (lent_of n N h exact) (number20 h) e).0 (λ o. (two o).1) in
      (f.0, (two f.1).0)

  -- 8 of the mark row is not refused: it marks darts of level h alone
  pub row_marks_lem : row_marks n N h lambda row ≡ accepted → Row n N h (each lambda) (each row)
  unfolding at_row8
  row_marks_lem e =
      let test = refused_mark n h (each lambda) (each row) in
      let both : (d : ℕ) → d < N → cond (is_mark n (each row d)) (eqb (each lambda d) h) (eqb (each row d) stay) ≡ true = λ d ld.
      not-false (cond (is_mark n (each row d)) (eqb (each lambda d) h) (eqb (each row d) stay)) (when_accepted (test d) 8 h 0 d (scan_accepted N (at_row8 n h (each lambda) (each row)) e d ld)) in
      record { top = λ d ld q. eqb-true (each lambda d) h (rw q at (both d ld)); rest = λ d ld q. eqb-true (each row d) stay (rw q at (both d ld)) }

  abbrev job : Verdict
  job = add_lent P row table

  abbrev S : Verdict
  S = add_sizes P row table

  abbrev M : Verdict
  M = add_marks P row

  abbrev K : Verdict
  K = ascends P row

  parts : job ≡ (S then (M then K))
  unfolding add_lent at_row8
  parts = simp then_two

  sizes_early : Says Early S
  unfolding number20
  sizes_early = says_then (lent_of n N h exact) (number20 h) (lengths_early n N h exact) (says_when (eqb h 32) 20 0 0 0 refl)

  marks_early : Says Early M
  unfolding at_row8
  marks_early =
      says_then (base_and_marks P) (row_marks n N h lambda row) (marks_early_all P table)
      (says_scan N (at_row8 n h (each lambda) (each row)) (λ d ld. says_when (refused_mark n h (each lambda) (each row) d) 8 h 0 d refl))

  -- a verdict, and the height, Λ, Δ and table that go with it
  abbrev pub Leaves : Verdict → ℕ → List ℕ → List ℕ → List ℕ → Type 0
  Leaves v height lambda' delta' table' =
      (v ≡ job)
      × ((height ≡ add_height P row table)
      × ((lambda' ≡ add_lambda P row table) × ((delta' ≡ add_delta P row table) × (table' ≡ add_leaves P row table))))

  -- refused: height, Λ and Δ are as found
  refused_kept : (r : Refusal) {after : List ℕ} → (refusal_of r ≡ job) × (after ≡ add_leaves P row table) → Leaves (refusal_of r) h lambda delta after
  unfolding add_height add_lambda add_delta
  refused_kept r e =
      let f = e.0 in
      (f, (refusal_keeps r job (suc h) h f, (refusal_keeps r job (listed (addΛ n h (each lambda) (each row)) N) lambda f, (refusal_keeps r job (listed (addΔ n (each delta) (each row)) N) delta f, e.1))))

  abbrev top : List ℕ
  top = new_top P row

  abbrev tables : ℕ → List ℕ
  tables = level_table (entry N rows) n N h (each lambda) (each delta)

  -- refused by 1 to 4 or 20, by 5 to 8, or as the kernels say
  pub sizes_refused : (r : Refusal) → refusal_of r ≡ S → Leaves (refusal_of r) h lambda delta table
  unfolding add_leaves
  sizes_refused r e = refused_kept r (at_sizes top tables table job S M K parts sizes_early marks_early (ascends_late P row) r e)

  module _ (sized : accepted ≡ S) where
    pub marks_refused : (r : Refusal) → refusal_of r ≡ M → Leaves (refusal_of r) h lambda delta table
    unfolding add_leaves
    marks_refused r e = refused_kept r (at_marks top tables table job S M K parts sizes_early marks_early (ascends_late P row) sized r e)

    module _ (marked : accepted ≡ M) {after : List ℕ} (leaves : after ≡ ascend_leaves P row) where
      at_end : {v : Verdict} → v ≡ K → (v ≡ job) × (after ≡ add_leaves P row table)
      unfolding add_leaves
      at_end e = at_kernels top tables table job S M K parts sizes_early marks_early (ascends_late P row) sized marked rows e leaves

      pub ascend_refused : (r : Refusal) → refusal_of r ≡ K → Leaves (refusal_of r) h lambda delta after
      ascend_refused r e = refused_kept r (at_end e)

      pub grown : accepted ≡ K → {lambda' delta' : List ℕ} → lambda' ≡ listed (addΛ n h (each lambda) (each row)) N → delta' ≡ listed (addΔ n (each delta) (each row)) N → Leaves accepted (h + 1) lambda' delta' after
      unfolding add_height add_lambda add_delta
      grown e l d = let a = at_end e in (a.0, (rw (← a.0) (add-one h), (rw (← a.0) l, (rw (← a.0) d, a.1))))

-- a fold that finds none: no element passes
module _ {X : Type 0} (f : X → Bool) (xs : List X) (d : X) where
  none_to : (m : ℕ) → m ≤ length xs → fold (λ any x. any || f x) false (take m xs) ≡ false → (k : ℕ) → k < m → f (get_or xs k d) ≡ false
  none_to zero lm none k l = absurd (omega arith)
  none_to (suc m) lm none k l = go (eqb k m) refl (none_to m (omega arith) both.0 k)
    where
      both : (fold (λ any x. any || f x) false (take m xs) ≡ false) × (f (get_or xs m d) ≡ false)
      both = neither _ _ (sym (ap (λ (i : ℕ). fold (λ any x. any || f x) false (take i xs)) (sym (add-one m)) ∙ fold_more (λ any x. any || f x) false xs m d (omega arith)) ∙ none)

      go : (t : Bool) → eqb k m ≡ t → (k < m → f (get_or xs k d) ≡ false) → f (get_or xs k d) ≡ false
      go true q before = ap (λ (i : ℕ). f (get_or xs i d)) (eqb-true k m q) ∙ both.1
      go false q before = let ne = eqb-false k m q in before (omega arith)

  none_found : fold (λ any x. any || f x) false xs ≡ false → (k : ℕ) → k < length xs → f (get_or xs k d) ≡ false
  none_found none = none_to (length xs) (omega arith) (ap (fold (λ any x. any || f x) false) (take_all (length xs) xs (omega arith)) ∙ none)

-- the pairs of Λ and mark row, and those that are refused
module _ (n N h : ℕ) (lambda row : List ℕ) (long : length lambda ≡ N) (row_long : length row ≡ N) where
  abbrev pairs : List (ℕ × ℕ)
  pairs = zip lambda row

  abbrev refused_pair : ℕ × ℕ → Bool
  refused_pair p = not (cond (is_mark n p.1) (eqb p.0 h) (eqb p.1 stay))

  abbrev at_pair : ℕ → Verdict
  at_pair = at_row8 n h (each lambda) (each row)

  pairs_long : length pairs ≡ N
  pairs_long = length-zip lambda row ∙ omega (arith, long, row_long)

  pair_at : (x : ℕ) → x < length pairs → get_or pairs x (0, 0) ≡ (each lambda x, each row x)
  pair_at x l = get_or-zip lambda row x (0, 0) (omega (arith, pairs_long, long)) (omega (arith, pairs_long, row_long))

  fine : (x : ℕ) → x < length pairs → refused_pair (get_or pairs x (0, 0)) ≡ false → at_pair x ≡ accepted
  unfolding at_row8
  fine x l q = rw (sym (ap refused_pair (pair_at x l)) ∙ q)

  due : (x : ℕ) → x < length pairs → refused_pair (get_or pairs x (0, 0)) ≡ true → at_pair x ≡ refused 8 h 0 x
  unfolding at_row8
  due x l q = rw (sym (ap refused_pair (pair_at x l)) ∙ q)

  -- the first pair that is refused is the dart reported
  pub pair_found : (d : ℕ) → position refused_pair pairs ≡ Some d → (d < N) × (refused 8 h 0 d ≡ row_marks n N h lambda row)
  pair_found d found =
      let l = (position-Some refused_pair pairs d (0, 0) found).0 in
      (omega (arith, l, pairs_long), sym (ap (λ (m : ℕ). scan m at_pair) (sym pairs_long) ∙ scan_found refused_pair pairs (0, 0) at_pair fine d 8 h 0 d found (due d l)))

  pub none_refused : fold (λ any p. any || refused_pair p) false pairs ≡ false → accepted ≡ row_marks n N h lambda row
  none_refused none = sym (scan_all N at_pair (λ x l. fine x (omega (arith, pairs_long, l)) (none_found refused_pair pairs (0, 0) none x (omega (arith, pairs_long, l)))))

  pub pair_none : position refused_pair pairs ≡ None → accepted ≡ row_marks n N h lambda row
  pair_none none = sym (ap (λ (m : ℕ). scan m at_pair) (sym pairs_long) ∙ scan_none refused_pair pairs (0, 0) at_pair fine none)
