-- Laws of taking and then writing: what the two answer and leave behind. Assumes nothing.
use mathlib.Core.Path.{◌≡◌, refl, sym, ap, ap₂, ◌∙◌}
use mathlib.Core.List.{List}
use Prim.Native.Nat.{ℕ, suc, ◌*◌, ◌≤◌}
use native.Mathlib.Omega.{arith}
use lib.ListN.{length, take, length-take}
use lib.Dec.{leb}
use borrow.Author.Tests.{leb-true}
use Rattle.maps.specs.Verdict.{Verdict, accepted, if_accepted, ◌then◌}
use Rattle.maps.specs.Sizes.{number4}
use Rattle.maps.specs.Folded.{Folded, of_parts}
use Rattle.maps.specs.CheckPyramid.{check_lent}
use Rattle.maps.specs.Record.{either, record_dimension, record_height, record_darts, record_rows, record_lambda, record_delta, record_lent, take_lent, take_rows, take_lambda, take_delta}
use Rattle.maps.specs.Write.{write_lent}
use Rattle.maps.specs.Convert.{new_record, convert_lent, convert_length, convert_leaves}
use Rattle.laws.proofs.Verdicts.{then_accepted}
use Rattle.laws.proofs.Sizes.{lengths_exact}
use Rattle.answers.specs.Numbers.{refusal_of}
use Rattle.answers.specs.declared.Refusal.{Refusal}
use Rattle.answers.proofs.Refusals.{refusal_keeps, refused_first}
use Rattle.taking.specs.Answers.{Outcome as Taking, saying, taken}
use Rattle.taking.proofs.Joined.{rows_front, lambda_front, delta_front, taken_both}
use Rattle.writing.specs.Answers.{Outcome, Checked, buffer_lent, putting, put_leaves}
use Rattle.writing.proofs.Whole.{accepts}
use Rattle.converting.specs.Answers.{converted}

module _ (b rows lambda delta table new : List ℕ) where
  abbrev verdict : Verdict
  verdict = convert_lent b rows lambda delta table new

  -- what the old record holds
  abbrev held : Folded
  held = of_parts (record_dimension b) (record_darts b) (record_height b) (record_rows b either) (record_lambda b either) (record_delta b either)

  -- of a record that is unpacked, the tests that are left are those of a writing
  pub lent_is : record_lent b either rows lambda delta table ≡ accepted → convert_lent b rows lambda delta table new
      ≡ write_lent (of_parts (record_dimension b) (record_darts b) (record_height b) (record_rows b either) (record_lambda b either) (record_delta b either)) (take (suc (record_dimension b) * record_darts b) table) new
  unfolding convert_lent take_lent write_lent
  lent_is e = rw e

  -- the answer, and what is left in the buffer
  abbrev Answers : Outcome → List ℕ → Type 0
  Answers o new' = (o ≡ converted b rows lambda delta table new) × (new' ≡ convert_leaves b rows lambda delta table new)

  tests : verdict ≡ (take_lent b either rows lambda delta table then buffer_lent held new)
  unfolding convert_lent
  tests = refl

  -- a record that is not taken
  pub refused : (r : Refusal) → saying (refusal_of r) 0 0 0 ≡ taken b either rows lambda delta table → Answers (record { verdict = refusal_of r; bytes = 0 }) new
  unfolding convert_length convert_leaves
  refused r e =
      let v : refusal_of r ≡ verdict = refused_first verdict _ _ tests r (ap (λ (o : Taking). o.verdict) e) in
      (ap₂ (λ (w : Verdict) (m : ℕ). record { verdict = w; bytes = m }) v (refusal_keeps r verdict _ 0 v), refusal_keeps r verdict _ new v)

  -- a record that is taken, into these rows, Λ and Δ, of which the front is written
  module _ {n h N : ℕ} (e : saying accepted n h N ≡ taken b either rows lambda delta table) {rows' lambda' delta' : List ℕ}
      (r : rows' ≡ take_rows b either rows lambda delta table) (l : lambda' ≡ take_lambda b either rows lambda delta table) (d : delta' ≡ take_delta b either rows lambda delta table) where
    takes : take_lent b either rows lambda delta table ≡ accepted
    takes = sym (ap (λ (o : Taking). o.verdict) e)

    unpacks : record_lent b either rows lambda delta table ≡ accepted
    unpacks = (taken_both b either rows lambda delta table takes).0

    -- what is written is what the record holds
    front_is : of_parts n N h (take (suc n * N) rows') (take N lambda') (take N delta') ≡ held
    front_is =
        let x : n ≡ if_accepted (take_lent b either rows lambda delta table) (record_dimension b) 0 = ap (λ (o : Taking). o.dimension) e in
        let y : h ≡ if_accepted (take_lent b either rows lambda delta table) (record_height b) 0 = ap (λ (o : Taking). o.height) e in
        let z : N ≡ if_accepted (take_lent b either rows lambda delta table) (record_darts b) 0 = ap (λ (o : Taking). o.darts) e in
        let n-is : n ≡ record_dimension b = rw takes at x in
        let h-is : h ≡ record_height b = rw takes at y in
        let N-is : N ≡ record_darts b = rw takes at z in
        let R = rows_front b either rows lambda delta table unpacks in
        let L = lambda_front b either rows lambda delta table unpacks in
        let D = delta_front b either rows lambda delta table unpacks in
        rw (r, l, d, n-is, N-is, h-is, R, L, D)

    pub checked : Checked (of_parts n N h (take (suc n * N) rows') (take N lambda') (take N delta'))
    checked = (_, ap (λ (f : Folded). check_lent f (take (suc (record_dimension b) * record_darts b) table)) front_is ∙ (taken_both b either rows lambda delta table takes).1)

    -- it lies in the slices
    pub fits : (n ≤ 4) × (N ≤ 4096) × (suc n * N ≤ length rows') × (N ≤ length lambda') × (N ≤ length delta')
    fits =
        let p = accepts _ checked in
        (p.dimension.1, p.darts.1, omega (arith, p.rows_length, length-take (suc n * N) rows'), omega (arith, p.lambda_length, length-take N lambda'), omega (arith, p.delta_length, length-take N delta'))

    pub all_written : {o : Outcome} {new' : List ℕ}
        → o ≡ putting (of_parts n N h (take (suc n * N) rows') (take N lambda') (take N delta')) new
        → new' ≡ put_leaves (of_parts n N h (take (suc n * N) rows') (take N lambda') (take N delta')) new
        → Answers o new'
    unfolding convert_length convert_leaves
    all_written o w =
        let v : verdict ≡ buffer_lent held new = tests ∙ rw takes in
        (o ∙ ap (λ (f : Folded). putting f new) front_is ∙ rw v, w ∙ ap (λ (f : Folded). put_leaves f new) front_is ∙ rw v)

-- the new record lies in the buffer
pub converted_fits : {m : ℕ} (b rows lambda delta table new : List ℕ) → record { verdict = accepted; bytes = m } ≡ converted b rows lambda delta table new → m ≤ length new
unfolding convert_length convert_lent
converted_fits {m} b rows lambda delta table new e =
    let W = new_record b rows lambda delta table new in
    let v : convert_lent b rows lambda delta table new ≡ accepted = sym (ap (λ (o : Outcome). o.verdict) e) in
    let x : m ≡ if_accepted (convert_lent b rows lambda delta table new) (length W) 0 = ap (λ (o : Outcome). o.bytes) e in
    let long : m ≡ length W = rw v at x in
    let room = (then_accepted (take_lent b either rows lambda delta table) (number4 (leb (length W) (length new))) v).1 in
    rw long (leb-true (length W) (length new) (lengths_exact (leb (length W) (length new)) room))
