-- Laws of unpacking and then checking: what is handed on to the check, and what the two answer and leave behind. Assumes nothing.
use mathlib.Core.Path.{◌≡◌, refl, sym, ap, ◌∙◌}
use mathlib.Core.Bool.{◌&&◌}
use mathlib.Core.List.{List, ◌++◌}
use Prim.Native.Nat.{ℕ, suc, ◌+◌, ◌*◌, ◌≤◌}
use native.Mathlib.Omega.{arith}
use lib.ListN.{length, take, drop, length-append}
use lib.Seq.{take_at}
use lib.Dec.{leb, ltb}
use borrow.Author.Tests.{leb-true}
use Rattle.maps.specs.Verdict.{Verdict, accepted, refused, when, if_accepted, ◌then◌, scan}
use Rattle.maps.specs.Sizes.{sizes, number4}
use Rattle.maps.specs.CheckPyramid.{check_lent, check_leaves}
use Rattle.maps.specs.Record.{Allowed, field, record_dimension, record_height, record_darts, row_at, row_tag, row_size, lambda_at, delta_at, end_at, formed, record_rows, record_lambda, record_delta, record_lent, take_lent, take_rows, take_lambda, take_delta, take_table}
use Rattle.laws.proofs.Verdicts.{then_accepted, and_both}
use Rattle.laws.proofs.Tables.{length_listed, table_size}
use Rattle.laws.proofs.Sizes.{Sized, sizes_sized, lengths_exact}
use Rattle.maps.specs.Folded.{of_parts}
use Rattle.answers.specs.Numbers.{refusal_of}
use Rattle.answers.specs.declared.Refusal.{Refusal}
use Rattle.answers.proofs.Refusals.{refusal_keeps, refusal_refuses, refused_first, refused_second, accepted_both}
use Rattle.taking.specs.Answers.{Outcome, saying, unpacked, taken}

-- the front of a list lies in it
in_front : (front rest : List ℕ) {all : List ℕ} {m : ℕ} → all ≡ front ++ rest → length front ≡ m → m ≤ length all
in_front front rest {all} {m} e long = let z : length all ≡ length front + length rest = ap length e ∙ length-append front rest in omega arith

-- the lengths of what a record holds
pub rows_long : (b : List ℕ) (allowed : Allowed) → length (record_rows b allowed) ≡ suc (record_dimension b) * record_darts b
unfolding record_rows
rows_long b allowed = length_listed _ (suc (record_dimension b) * record_darts b)

pub lambda_long : (b : List ℕ) (allowed : Allowed) → length (record_lambda b allowed) ≡ record_darts b
unfolding record_lambda
lambda_long b allowed = length_listed _ (record_darts b)

pub delta_long : (b : List ℕ) (allowed : Allowed) → length (record_delta b allowed) ≡ record_darts b
unfolding record_delta
delta_long b allowed = length_listed _ (record_darts b)

-- the sizes of a record that is formed
formed_sized : (b : List ℕ) (allowed : Allowed) → formed b allowed ≡ accepted → Sized (record_dimension b) (record_darts b) (record_height b)
unfolding formed
formed_sized b allowed e =
    let s = sizes (record_dimension b) (record_darts b) (record_height b) in
    let last = field b (delta_at b allowed) 0x31 (record_darts b) then when (ltb (end_at b allowed) (length b)) (refused 19 0 0 (end_at b allowed)) in
    let rest = scan (suc (record_dimension b)) (λ i. field b (row_at b allowed i) (row_tag b allowed i) (row_size b allowed)) then (field b (lambda_at b allowed) 0x30 (record_darts b) then last) in
    sizes_sized (record_dimension b) (record_darts b) (record_height b) (then_accepted s rest (then_accepted (field b 0 0x01 4) (s then rest) e).1).0

module _ (b : List ℕ) (allowed : Allowed) (rows lambda delta table : List ℕ) where
  abbrev lent : Verdict
  lent = record_lent b allowed rows lambda delta table

  abbrev m : ℕ
  m = suc (record_dimension b) * record_darts b

  -- sizes in range, and a table that is long enough
  pub record Fits : Type 0 where
    pub sized : Sized (record_dimension b) (record_darts b) (record_height b)
    pub table_long : suc (record_dimension b) * record_darts b ≤ length table

  pub fits : record_lent b allowed rows lambda delta table ≡ accepted → Fits
  unfolding record_lent
  fits e =
      let whole = leb m (length table) in
      let few = leb (record_darts b) (length delta) && whole in
      let fewer = leb (record_darts b) (length lambda) && few in
      let all = leb m (length rows) && fewer in
      let p = then_accepted (formed b allowed) (number4 all) e in
      let x = and_both (leb m (length rows)) fewer (lengths_exact all p.1) in
      let y = and_both (leb (record_darts b) (length lambda)) few x.1 in
      record { sized = formed_sized b allowed p.0; table_long = leb-true m (length table) (and_both (leb (record_darts b) (length delta)) whole y.1).1 }

  -- what is unpacked stands at the front of the lent slices
  module _ (fine : record_lent b allowed rows lambda delta table ≡ accepted) where
    rows_are : take_rows b allowed rows lambda delta table ≡ record_rows b allowed ++ drop m rows
    unfolding take_rows
    rows_are = rw fine

    lambda_are : take_lambda b allowed rows lambda delta table ≡ record_lambda b allowed ++ drop (record_darts b) lambda
    unfolding take_lambda
    lambda_are = rw fine

    delta_are : take_delta b allowed rows lambda delta table ≡ record_delta b allowed ++ drop (record_darts b) delta
    unfolding take_delta
    delta_are = rw fine

    pub rows_front : take (suc (record_dimension b) * record_darts b) (take_rows b allowed rows lambda delta table) ≡ record_rows b allowed
    rows_front = ap (take m) rows_are ∙ take_at (record_rows b allowed) (drop m rows) m (rows_long b allowed)

    pub lambda_front : take (record_darts b) (take_lambda b allowed rows lambda delta table) ≡ record_lambda b allowed
    lambda_front = ap (take (record_darts b)) lambda_are ∙ take_at (record_lambda b allowed) (drop (record_darts b) lambda) (record_darts b) (lambda_long b allowed)

    pub delta_front : take (record_darts b) (take_delta b allowed rows lambda delta table) ≡ record_delta b allowed
    delta_front = ap (take (record_darts b)) delta_are ∙ take_at (record_delta b allowed) (drop (record_darts b) delta) (record_darts b) (delta_long b allowed)

    -- what is handed on to the check lies in the slices
    in_slices : (record_dimension b ≤ 4) × (record_darts b ≤ 4096) × (m ≤ length (take_rows b allowed rows lambda delta table)) × (record_darts b ≤ length (take_lambda b allowed rows lambda delta table)) × (record_darts b ≤ length (take_delta b allowed rows lambda delta table)) × (m ≤ length table)
    in_slices =
        let f = fits fine in (
          f.sized.dimension,
          f.sized.darts,
          in_front (record_rows b allowed) (drop m rows) rows_are (rows_long b allowed),
          in_front (record_lambda b allowed) (drop (record_darts b) lambda) lambda_are (lambda_long b allowed),
          in_front (record_delta b allowed) (drop (record_darts b) delta) delta_are (delta_long b allowed),
          f.table_long,
        )

  -- the check of what the record holds
  abbrev checks : Verdict
  checks = check_lent (of_parts (record_dimension b) (record_darts b) (record_height b) (record_rows b allowed) (record_lambda b allowed) (record_delta b allowed)) (take m table)

  tests : take_lent b allowed rows lambda delta table ≡ lent then checks
  unfolding take_lent
  tests = refl

  -- a record that is taken: it is unpacked, and the check accepts it
  pub taken_both : take_lent b allowed rows lambda delta table ≡ accepted → (record_lent b allowed rows lambda delta table ≡ accepted)
      × (check_lent (of_parts (record_dimension b) (record_darts b) (record_height b) (record_rows b allowed) (record_lambda b allowed) (record_delta b allowed)) (take (suc (record_dimension b) * record_darts b) table) ≡ accepted)
  taken_both e = then_accepted lent checks (sym tests ∙ e)

  -- the answer, and what is left in the table
  abbrev Answers : Outcome → List ℕ → Type 0
  Answers o after = (o ≡ taken b allowed rows lambda delta table) × (after ≡ take_table b allowed rows lambda delta table)

  says_refused : (r : Refusal) → refusal_of r ≡ take_lent b allowed rows lambda delta table → saying (refusal_of r) 0 0 0 ≡ taken b allowed rows lambda delta table
  says_refused r e =
      let x = refusal_refuses r in
      let f : take_lent b allowed rows lambda delta table ≡ refused x.number x.level x.involution x.dart = sym e ∙ x.is in
      rw (x.is, f)

  -- a record that is not unpacked
  pub not_unpacked : (r : Refusal) → saying (refusal_of r) 0 0 0 ≡ unpacked b allowed rows lambda delta table → Answers (saying (refusal_of r) 0 0 0) table
  unfolding take_table
  not_unpacked r e =
      let v : refusal_of r ≡ lent = ap (λ (o : Outcome). o.verdict) e in
      (says_refused r (refused_first _ lent checks tests r v), refusal_keeps r lent _ table v)

  -- a record that is unpacked, into these rows, Λ and Δ
  module _ {n h N : ℕ} (e : saying accepted n h N ≡ unpacked b allowed rows lambda delta table) where
    pub fine : record_lent b allowed rows lambda delta table ≡ accepted
    fine = sym (ap (λ (o : Outcome). o.verdict) e)

    pub dimension_is : n ≡ record_dimension b
    dimension_is = let x : n ≡ if_accepted lent (record_dimension b) 0 = ap (λ (o : Outcome). o.dimension) e in rw fine at x

    pub height_is : h ≡ record_height b
    height_is = let x : h ≡ if_accepted lent (record_height b) 0 = ap (λ (o : Outcome). o.height) e in rw fine at x

    pub darts_is : N ≡ record_darts b
    darts_is = let x : N ≡ if_accepted lent (record_darts b) 0 = ap (λ (o : Outcome). o.darts) e in rw fine at x

    module _ {rows' lambda' delta' : List ℕ} (r : rows' ≡ take_rows b allowed rows lambda delta table) (l : lambda' ≡ take_lambda b allowed rows lambda delta table) (d : delta' ≡ take_delta b allowed rows lambda delta table) where
      pub handed_on : (n ≤ 4) × (N ≤ 4096) × (suc n * N ≤ length rows') × (N ≤ length lambda') × (N ≤ length delta') × (suc n * N ≤ length table)
      handed_on = rw (r, l, d, dimension_is, darts_is) (in_slices fine)

      -- the check of what is handed on is the check of what the record holds
      check_is : check_lent (of_parts n N h (take (suc n * N) rows') (take N lambda') (take N delta')) (take (suc n * N) table) ≡ checks
      check_is = rw (r, l, d, dimension_is, darts_is, height_is, rows_front fine, lambda_front fine, delta_front fine)

      module _ {after : List ℕ} (t : after ≡ check_leaves (of_parts n N h (take (suc n * N) rows') (take N lambda') (take N delta')) (take (suc n * N) table) ++ drop (suc n * N) table) where
        table_left : after ≡ take_table b allowed rows lambda delta table
        unfolding take_table
        table_left = t ∙ rw (r, l, d, dimension_is, darts_is, height_is, rows_front fine, lambda_front fine, delta_front fine, fine)

        -- a pyramid that is refused, and one that is accepted
        pub check_refused : (why : Refusal) → refusal_of why ≡ check_lent (of_parts n N h (take (suc n * N) rows') (take N lambda') (take N delta')) (take (suc n * N) table) → Answers (saying (refusal_of why) 0 0 0) after
        check_refused why v = (says_refused why (refused_second _ lent checks tests why (sym fine) (v ∙ check_is)), table_left)

        pub check_accepted : accepted ≡ check_lent (of_parts n N h (take (suc n * N) rows') (take N lambda') (take N delta')) (take (suc n * N) table) → Answers (saying accepted n h N) after
        check_accepted v =
            let f : take_lent b allowed rows lambda delta table ≡ accepted = sym (accepted_both _ lent checks tests (sym fine) (v ∙ check_is)) in
            (rw (f, dimension_is, height_is, darts_is), table_left)

-- N of a record that is taken, and its entries, are in range
pub taken_sized : {n h N : ℕ} (b : List ℕ) (allowed : Allowed) (rows lambda delta table : List ℕ) → saying accepted n h N ≡ taken b allowed rows lambda delta table → (N ≤ 4096) × (suc n * N ≤ 20480)
taken_sized {n} {h} {N} b allowed rows lambda delta table e =
    let v : take_lent b allowed rows lambda delta table ≡ accepted = sym (ap (λ (o : Outcome). o.verdict) e) in
    let s = (fits b allowed rows lambda delta table (taken_both b allowed rows lambda delta table v).0).sized in
    let x : n ≡ if_accepted (take_lent b allowed rows lambda delta table) (record_dimension b) 0 = ap (λ (o : Outcome). o.dimension) e in
    let y : N ≡ if_accepted (take_lent b allowed rows lambda delta table) (record_darts b) 0 = ap (λ (o : Outcome). o.darts) e in
    let dimension_is : n ≡ record_dimension b = rw v at x in
    let darts-are : N ≡ record_darts b = rw v at y in
    (rw darts-are s.darts, rw (dimension_is, darts-are) (table_size _ _ 0 s.dimension s.darts (omega arith)).1)
