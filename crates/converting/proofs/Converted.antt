-- A new record holds what the old one held, and a record that needs no converting comes out as it went in: in the words of the contracts. Assumes nothing.
use mathlib.Core.Path.{◌≡◌, refl, sym, ap, ◌∙◌}
use mathlib.Core.Bool.{true, false, ◌&&◌}
use mathlib.Core.List.{List, ◌++◌}
use Prim.Native.Nat.{ℕ, suc, ◌*◌, ◌≤◌}
use lib.ListN.{length, take, drop}
use lib.Dec.{eqb, leb}
use borrow.Author.Tests.{le-leb}
use Rattle.maps.specs.Verdict.{accepted}
use Rattle.maps.specs.Sizes.{number4}
use Rattle.maps.specs.Record.{wide, either, one_byte, record_dimension, record_height, record_darts, formed, record_rows, record_lambda, record_delta, record_lent, take_lent, take_rows, take_lambda, take_delta}
use Rattle.maps.specs.Folded.{of_parts}
use Rattle.maps.specs.Write.{write_length, write_leaves}
use Rattle.maps.specs.Convert.{new_record, convert_lent, convert_length, convert_leaves}
use Rattle.laws.proofs.Verdicts.{then_accepted}
use Rattle.taking.specs.Parts.{Below}
use Rattle.taking.proofs.Again.{again, first_tag}
use Rattle.taking.specs.Answers.{saying, taken}
use Rattle.taking.proofs.Joined.{taken_both}
use Rattle.writing.proofs.TakenBack.{written_taken}
use Rattle.converting.specs.Answers.{converted}
use Rattle.converting.proofs.Joined.{lent_is}

-- an old record that is converted
module _ (old rows lambda delta table new : List ℕ) (e : convert_lent old rows lambda delta table new ≡ accepted) where
  -- the first bytes of the buffer, as many as the job answers
  abbrev pub new_left : List ℕ
  new_left = take (convert_length old rows lambda delta table new) (convert_leaves old rows lambda delta table new)

  -- the new record taken into slices that are long enough
  module _ (lentRows lentLambda lentDelta lentTable : List ℕ) (rows-lent : suc (record_dimension old) * record_darts old ≤ length lentRows) (lambda-lent : record_darts old ≤ length lentLambda) (delta-lent : record_darts old ≤ length lentDelta) (table-lent : suc (record_dimension old) * record_darts old ≤ length lentTable) where
    pub record Same : Type 0 where
      pub answer : taken new_left wide lentRows lentLambda lentDelta lentTable ≡ saying accepted (record_dimension old) (record_height old) (record_darts old)
      pub rows_same : take_rows new_left wide lentRows lentLambda lentDelta lentTable ≡ record_rows old either ++ drop (suc (record_dimension old) * record_darts old) lentRows
      pub lambda_same : take_lambda new_left wide lentRows lentLambda lentDelta lentTable ≡ record_lambda old either ++ drop (record_darts old) lentLambda
      pub delta_same : take_delta new_left wide lentRows lentLambda lentDelta lentTable ≡ record_delta old either ++ drop (record_darts old) lentDelta

    -- taking the new record gives the n, h, N, rows and marks of the old one
    pub converted_taken : Same
    unfolding convert_lent convert_length convert_leaves write_length write_leaves
    converted_taken =
        let t = (then_accepted (take_lent old either rows lambda delta table) (number4 (leb (length (new_record old rows lambda delta table new)) (length new))) e).0 in
        let same = lent_is old rows lambda delta table new (taken_both old either rows lambda delta table t).0 in
        let back = written_taken (of_parts (record_dimension old) (record_darts old) (record_height old) (record_rows old either) (record_lambda old either) (record_delta old either)) _ new (sym same ∙ e) lentRows lentLambda lentDelta lentTable rows-lent lambda-lent delta-lent table-lent in
        record { answer = rw (← same) at back.answer; rows_same = rw (← same) at back.rows_back; lambda_same = rw (← same) at back.lambda_back; delta_same = rw (← same) at back.delta_back }

-- a record that taking takes, with rows of two bytes an entry
module _ (old rows lambda delta table : List ℕ) (small : Below 256 old) (e : take_lent old wide rows lambda delta table ≡ accepted) where
  unpacks : record_lent old wide rows lambda delta table ≡ accepted
  unpacks = (taken_both old wide rows lambda delta table e).0

  two : one_byte old either ≡ false
  two = ap (λ (x : ℕ). eqb x 0x20 && leb (record_darts old) 256) (first_tag old wide rows lambda delta table small refl unpacks)

  -- a reader that allows either kind reads it as taking does
  takes : take_lent old either rows lambda delta table ≡ accepted
  unfolding take_lent record_lent formed record_rows record_lambda record_delta
  takes = rw two e

  -- it comes out as it went in, with a buffer that is long enough
  pub kept : (new : List ℕ) → length old ≤ length new → (converted old rows lambda delta table new ≡ record { verdict = accepted; bytes = length old }) × (convert_leaves old rows lambda delta table new ≡ old ++ drop (length old) new)
  unfolding convert_lent convert_length convert_leaves number4
  kept new room =
      let same = again old either rows lambda delta table small two (taken_both old either rows lambda delta table takes).0 in
      let enough : leb (length old) (length new) ≡ true = le-leb (length old) (length new) room in
      (rw (takes, same, enough), rw (takes, same, enough))
