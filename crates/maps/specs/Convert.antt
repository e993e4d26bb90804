-- Convert an old record: a new one of the same pyramid. Assumes nothing: these are definitions.
use Rattle.std.specs.Prelude.{List, ◌++◌, ℕ, length, drop, leb}
use Rattle.maps.specs.Verdict.{Verdict, if_accepted, ◌then◌}
use Rattle.maps.specs.Sizes.{number4}
use Rattle.maps.specs.Record.{either, record_dimension, record_height, record_darts, record_rows, record_lambda, record_delta, take_lent}
use Rattle.maps.specs.Write.{written}

module _ (old rows lambda delta table new : List ℕ) where
  -- Scope: 'Convert a record'. What the old record holds, with rows of two bytes an entry.
  abbrev pub new_record : List ℕ
  new_record = written (record_dimension old) (record_height old) (record_darts old) (record_rows old either) (record_lambda old either) (record_delta old either)

  -- Scope: 'Convert a record'. The tests of a record that is taken, with rows of either kind; then 4: the buffer is too short for the new record.
  unfoldable pub convert_lent : Verdict
  convert_lent = take_lent old either rows lambda delta table then number4 (leb (length new_record) (length new))

  -- Scope: 'Convert a record'. How many bytes the new record has; refused, 0.
  unfoldable pub convert_length : ℕ
  convert_length = if_accepted convert_lent (length new_record) 0

  -- Scope: 'Convert a record'. What is left in the buffer: the new record, the bytes behind its end as found; refused, all as found.
  unfoldable pub convert_leaves : List ℕ
  convert_leaves = if_accepted convert_lent (new_record ++ drop (length new_record) new) new
