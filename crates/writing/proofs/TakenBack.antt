-- What is written is taken back and accepted, and a record that is taken is written as it was: in the words of the two contracts. Assumes nothing.
use mathlib.Core.Path.{◌≡◌, refl, sym}
use mathlib.Core.Bool.{true}
use mathlib.Core.List.{List, ◌++◌}
use Prim.Native.Nat.{ℕ, suc, ◌*◌, ◌≤◌}
use lib.ListN.{length, take, drop}
use lib.Seq.{take_at, length-take-le}
use lib.Dec.{leb}
use borrow.Author.Tests.{le-leb}
use Rattle.maps.specs.Verdict.{accepted}
use Rattle.maps.specs.Sizes.{number4}
use Rattle.maps.specs.Folded.{Folded, of_parts}
use Rattle.maps.specs.CheckPyramid.{left_behind, table_at, check_lent, check_leaves}
use Rattle.maps.specs.Record.{record_dimension, record_height, record_darts, wide, take_lent, take_rows, take_lambda, take_delta, take_table}
use Rattle.maps.specs.Write.{record_of, write_lent, write_length, write_leaves}
use Rattle.laws.proofs.Verdicts.{then_accepted}
use Rattle.laws.proofs.Sizes.{Sized}
use Rattle.facts.proofs.ExactJobs.{check_accepts, accepted_check}
use Rattle.taking.specs.Parts.{Below}
use Rattle.taking.proofs.RoundTrip.{round_trip}
use Rattle.taking.proofs.Again.{again}
use Rattle.taking.specs.Answers.{saying, taken}
use Rattle.taking.proofs.Joined.{rows_front, lambda_front, delta_front, taken_both}
use Rattle.writing.specs.Answers.{writing}

-- a pyramid is accepted with any table of its length
check_elsewhere : (f : Folded) (table other : List ℕ) → check_lent f table ≡ accepted → length other ≡ suc f.n * f.N → check_lent f other ≡ accepted
check_elsewhere f table other e long =
    let p = check_accepts f table e in
    accepted_check f other (record { dimension = p.dimension; darts = p.darts; height = p.height; rows_length = p.rows_length; lambda_length = p.lambda_length; delta_length = p.delta_length; table_length = long; pyramid = p.pyramid })

-- a pyramid that is written
module _ (f : Folded) (table bytes : List ℕ) (e : write_lent f table bytes ≡ accepted) where
  open f use {n, N, h, rows, lambda, delta}

  -- the first bytes of the buffer, as many as the job answers
  abbrev pub record_left : List ℕ
  record_left = take (write_length f table bytes) (write_leaves f table bytes)

  record_is : record_of f ≡ record_left
  unfolding write_length write_leaves
  record_is = let W = record_of f in rw e (sym (take_at W (drop (length W) bytes) (length W) refl))

  -- taken into slices that are long enough
  module _ (lentRows lentLambda lentDelta lentTable : List ℕ) (rows-lent : suc n * N ≤ length lentRows) (lambda-lent : N ≤ length lentLambda) (delta-lent : N ≤ length lentDelta) (table-lent : suc n * N ≤ length lentTable) where
    pub record Back : Type 0 where
      pub answer : taken record_left wide lentRows lentLambda lentDelta lentTable ≡ saying accepted n h N
      pub rows_back : take_rows record_left wide lentRows lentLambda lentDelta lentTable ≡ rows ++ drop (suc n * N) lentRows
      pub lambda_back : take_lambda record_left wide lentRows lentLambda lentDelta lentTable ≡ lambda ++ drop N lentLambda
      pub delta_back : take_delta record_left wide lentRows lentLambda lentDelta lentTable ≡ delta ++ drop N lentDelta
      pub top_back : take_table record_left wide lentRows lentLambda lentDelta lentTable ≡ table_at f h ++ drop (suc n * N) lentTable

    -- what is written is taken back to the same n, h, N, rows and marks, and accepted
    pub written_taken : Back
    unfolding write_lent take_lent take_rows take_lambda take_delta take_table check_leaves left_behind
    written_taken =
        let W = record_of f in
        let check : check_lent f table ≡ accepted = (then_accepted (check_lent f table) (number4 (leb (length W) (length bytes))) e).0 in
        let p = check_accepts f table check in
        let s : Sized n N h = record { one_dimension = p.dimension.0; dimension = p.dimension.1; one_dart = p.darts.0; darts = p.darts.1; height = p.height } in
        let b = round_trip n h N rows lambda delta s p.rows_length p.lambda_length p.delta_length wide lentRows lentLambda lentDelta lentTable rows-lent lambda-lent delta-lent table-lent in
        let front = take (suc n * N) lentTable in
        let again : check_lent f front ≡ accepted = check_elsewhere f table front check (length-take-le (suc n * N) lentTable table-lent) in
        let answered : taken W wide lentRows lentLambda lentDelta lentTable ≡ saying accepted n h N = rw (b.verdict, b.rows_held, b.lambda_held, b.delta_held, b.dimension, b.height, b.darts, again) in
        let rows_are : take_rows W wide lentRows lentLambda lentDelta lentTable ≡ rows ++ drop (suc n * N) lentRows = rw (b.verdict, b.rows_held, b.dimension, b.darts) in
        let lambda-are : take_lambda W wide lentRows lentLambda lentDelta lentTable ≡ lambda ++ drop N lentLambda = rw (b.verdict, b.lambda_held, b.darts) in
        let delta-are : take_delta W wide lentRows lentLambda lentDelta lentTable ≡ delta ++ drop N lentDelta = rw (b.verdict, b.delta_held, b.darts) in
        let table_is : take_table W wide lentRows lentLambda lentDelta lentTable ≡ table_at f h ++ drop (suc n * N) lentTable = rw (b.verdict, b.rows_held, b.lambda_held, b.delta_held, b.dimension, b.height, b.darts, again) in
        record { answer = rw record_is at answered; rows_back = rw record_is at rows_are; lambda_back = rw record_is at lambda-are; delta_back = rw record_is at delta-are; top_back = rw record_is at table_is }

-- a record that is taken
module _ (bytes rows lambda delta table : List ℕ) (small : Below 256 bytes) (e : take_lent bytes wide rows lambda delta table ≡ accepted) where
  -- what is taken of it: the first entries and marks of the lent slices
  abbrev pub taken_rows : List ℕ
  taken_rows = take (suc (record_dimension bytes) * record_darts bytes) (take_rows bytes wide rows lambda delta table)

  abbrev pub taken_lambda : List ℕ
  taken_lambda = take (record_darts bytes) (take_lambda bytes wide rows lambda delta table)

  abbrev pub taken_delta : List ℕ
  taken_delta = take (record_darts bytes) (take_delta bytes wide rows lambda delta table)

  -- written with a table of its length into a buffer that is long enough: the same bytes
  pub taken_written : (other buffer : List ℕ) → length other ≡ suc (record_dimension bytes) * record_darts bytes → length bytes ≤ length buffer
      → (writing (of_parts (record_dimension bytes) (record_darts bytes) (record_height bytes) taken_rows taken_lambda taken_delta) other buffer ≡ record { verdict = accepted; bytes = length bytes })
      × (write_leaves (of_parts (record_dimension bytes) (record_darts bytes) (record_height bytes) taken_rows taken_lambda taken_delta) other buffer ≡ bytes ++ drop (length bytes) buffer)
  unfolding write_lent write_length write_leaves number4
  taken_written other buffer long room =
      let p = taken_both bytes wide rows lambda delta table e in
      let same = again bytes wide rows lambda delta table small refl p.0 in
      let check = check_elsewhere _ _ other p.1 long in
      let enough : leb (length bytes) (length buffer) ≡ true = le-leb (length bytes) (length buffer) room in
      let rows_are = rows_front bytes wide rows lambda delta table p.0 in
      let lambda-are = lambda_front bytes wide rows lambda delta table p.0 in
      let delta-are = delta_front bytes wide rows lambda delta table p.0 in
      (rw (rows_are, lambda-are, delta-are, check, same, enough), rw (rows_are, lambda-are, delta-are, check, same, enough))
