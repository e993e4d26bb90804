-- Take a record: tagged fields, in their order, into lent tables, and the check of its pyramid. Assumes nothing: these are definitions.
use Rattle.std.specs.Prelude.{Bool, false, cond, ◌&&◌, not, List, ◌++◌, ℕ, suc, ◌+◌, ◌*◌, ◌/◌, ◌%◌, length, get_or, take, drop, eqb, leb, ltb}
use Rattle.maps.specs.Verdict.{Verdict, refused, when, if_accepted, ◌then◌, scan}
use Rattle.maps.specs.Sizes.{sizes, number4}
use Rattle.maps.specs.Table.{listed}
use Rattle.maps.specs.CheckPyramid.{check_lent, check_leaves}
use Rattle.maps.specs.Folded.{of_parts}

-- Scope: 'Record'. The rows that a reader allows: of two bytes an entry alone, or of either kind, as old records may have them.
pub data Allowed : Type 0 where
  wide : Allowed
  either : Allowed

-- Scope: 'Record'. The first row's tag settles the kind, where N entries follow: one byte an entry only in an old record, and only where N ≤ 256.
abbrev pub one_byte_by : Allowed → ℕ → ℕ → Bool
one_byte_by wide tag N = false
one_byte_by either tag N = eqb tag 0x20 && leb N 256

module _ (bytes : List ℕ) where
  -- Scope: 'Record'. The byte at an offset.
  abbrev pub byte : ℕ → ℕ
  byte at = get_or bytes at 0

  -- Scope: 'Record'. Two bytes, low byte first.
  abbrev pub two_bytes : ℕ → ℕ
  two_bytes at = byte at + 256 * byte (at + 1)

  -- Scope: 'Tests of a record'. A field with the tag and size due: its tag, its length bytes, its length, its body, each refused with the
  -- field's offset in place of the dart.
  unfoldable pub field : ℕ → ℕ → ℕ → Verdict
  field at tag size =
      when (leb (length bytes) at) (refused 16 0 0 at)
      then (when (not (eqb (byte at) tag)) (refused 17 0 0 at)
      then (when (ltb (length bytes) (at + 3)) (refused 16 0 0 at)
      then (when (not (eqb (two_bytes (at + 1)) size)) (refused 18 0 0 at)
      then when (ltb (length bytes) (at + 3 + size)) (refused 16 0 0 at))))

  -- Scope: 'Record'. The header's n.
  abbrev pub record_dimension : ℕ
  record_dimension = byte 3

  -- Scope: 'Record'. The header's h.
  abbrev pub record_height : ℕ
  record_height = byte 4

  -- Scope: 'Record'. The header's N.
  abbrev pub record_darts : ℕ
  record_darts = two_bytes 5

  module _ (allowed : Allowed) where
    -- Scope: 'Record'. Have the rows one byte an entry?
    abbrev pub one_byte : Bool
    one_byte = one_byte_by allowed (byte 7) record_darts

    -- Scope: 'Record'. The tag due for row i.
    abbrev pub row_tag : ℕ → ℕ
    row_tag i = cond one_byte 0x20 0x10 + i

    -- Scope: 'Record'. The bytes of a row.
    abbrev pub row_size : ℕ
    row_size = cond one_byte record_darts (2 * record_darts)

    -- Scope: 'Record'. Where the field of row i starts.
    abbrev pub row_at : ℕ → ℕ
    row_at i = 7 + i * (3 + row_size)

    -- Scope: 'Record'. Λ follows the last row.
    abbrev pub lambda_at : ℕ
    lambda_at = row_at (suc record_dimension)

    -- Scope: 'Record'. Δ follows Λ.
    abbrev pub delta_at : ℕ
    delta_at = lambda_at + (3 + record_darts)

    -- Scope: 'Record'. Nothing follows Δ.
    abbrev pub end_at : ℕ
    end_at = delta_at + (3 + record_darts)

    -- Scope: 'Tests of a record'. The header, then 1, 2, 3 of its values, the rows, Λ and Δ; 19 at the first byte too many.
    unfoldable pub formed : Verdict
    formed =
        field 0 0x01 4
        then (sizes record_dimension record_darts record_height
        then (scan (suc record_dimension) (λ i. field (row_at i) (row_tag i) row_size)
        then (field lambda_at 0x30 record_darts
        then (field delta_at 0x31 record_darts
        then when (ltb end_at (length bytes)) (refused 19 0 0 end_at)))))

    -- Scope: 'Record'. Entry d of row i.
    abbrev pub record_entry : ℕ → ℕ → ℕ
    record_entry i d = cond one_byte (byte (row_at i + 3 + d)) (two_bytes (row_at i + 3 + 2 * d))

    -- Scope: 'Record'. Rows 0 to n, one after the other.
    unfoldable pub record_rows : List ℕ
    record_rows = listed (λ x. record_entry (x / record_darts) (x % record_darts)) (suc record_dimension * record_darts)

    -- Scope: 'Record'. Λ.
    unfoldable pub record_lambda : List ℕ
    record_lambda = listed (λ d. byte (lambda_at + 3 + d)) record_darts

    -- Scope: 'Record'. Δ.
    unfoldable pub record_delta : List ℕ
    record_delta = listed (λ d. byte (delta_at + 3 + d)) record_darts

    module _ (rows lambda delta table : List ℕ) where
      -- Scope: 'Take a record'. A record that is formed, then 4: each slice is long enough.
      unfoldable pub record_lent : Verdict
      record_lent =
          formed
          then number4 (leb (suc record_dimension * record_darts) (length rows) && (leb record_darts (length lambda) && (leb record_darts (length delta) && leb (suc record_dimension * record_darts) (length table))))

      -- Scope: 'Take a record'. The part of the table that the check is lent.
      abbrev pub record_table : List ℕ
      record_table = take (suc record_dimension * record_darts) table

      -- Scope: 'Take a record'. Then the check of what the record holds, of which 1 to 4 have passed: 5 to 10.
      unfoldable pub take_lent : Verdict
      take_lent = record_lent then check_lent (of_parts record_dimension record_darts record_height record_rows record_lambda record_delta) record_table

      -- Scope: 'Take a record'. What is left in the rows: what the record said, also after 5 to 10, the rest of a longer slice untouched; after another number all as found.
      unfoldable pub take_rows : List ℕ
      take_rows = if_accepted record_lent (record_rows ++ drop (suc record_dimension * record_darts) rows) rows

      -- Scope: 'Take a record'. The same of Λ.
      unfoldable pub take_lambda : List ℕ
      take_lambda = if_accepted record_lent (record_lambda ++ drop record_darts lambda) lambda

      -- Scope: 'Take a record'. The same of Δ.
      unfoldable pub take_delta : List ℕ
      take_delta = if_accepted record_lent (record_delta ++ drop record_darts delta) delta

      -- Scope: 'Take a record'. What is left in the table: what the check leaves in its part, the rest untouched.
      unfoldable pub take_table : List ℕ
      take_table = if_accepted record_lent (check_leaves (of_parts record_dimension record_darts record_height record_rows record_lambda record_delta) record_table ++ drop (suc record_dimension * record_darts) table) table
