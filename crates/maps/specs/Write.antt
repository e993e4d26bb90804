-- Write a record: what it holds, and what a writing leaves behind. Assumes nothing: these are definitions.
use Rattle.std.specs.Prelude.{List, [], ◌∷◌, ◌++◌, ℕ, zero, suc, ◌+◌, ◌*◌, ◌/◌, ◌%◌, length, take, drop, leb}
use Rattle.maps.specs.Verdict.{Verdict, if_accepted, ◌then◌}
use Rattle.maps.specs.Sizes.{number4}
use Rattle.maps.specs.Folded.{Folded}
use Rattle.maps.specs.CheckPyramid.{check_lent, check_leaves}

-- Scope: 'Record'. One-byte tag, two-byte length low byte first, body.
unfoldable pub field_written : ℕ → List ℕ → List ℕ
field_written tag body = tag ∷ length body % 256 ∷ length body / 256 ∷ body

-- Scope: 'Record'. Each number in two bytes, low byte first.
unfoldable pub in_two_bytes : List ℕ → List ℕ
in_two_bytes [] = []
in_two_bytes (x ∷ xs) = x % 256 ∷ x / 256 ∷ in_two_bytes xs

-- Scope: 'What is lent and asked'. Row i of a table of rows of N.
unfoldable pub row_of : ℕ → List ℕ → ℕ → List ℕ
row_of N rows i = take N (drop (i * N) rows)

-- Scope: 'Record'. Rows 0 to m − 1 as tags 0x10 to 0x14 with 2N bytes.
unfoldable pub rows_written : ℕ → List ℕ → ℕ → List ℕ
rows_written N rows zero = []
rows_written N rows (suc m) = rows_written N rows m ++ field_written (0x10 + m) (in_two_bytes (row_of N rows m))

-- Scope: 'Record'. Tag 0x01: n, h, N in two bytes low first; rows 0 to n; 0x30, Λ; 0x31, Δ; end.
unfoldable pub written : ℕ → ℕ → ℕ → List ℕ → List ℕ → List ℕ → List ℕ
written n h N rows lambda delta =
    field_written 0x01 (n ∷ h ∷ in_two_bytes (N ∷ []))
    ++ (rows_written N rows (suc n) ++ (field_written 0x30 lambda ++ field_written 0x31 delta))

-- Scope: 'Write a record'. The record of what is lent.
abbrev pub record_of : Folded → List ℕ
record_of f = written f.n f.h f.N f.rows f.lambda f.delta

module _ (f : Folded) (table bytes : List ℕ) where
  -- Scope: 'Write a record'. The check's tests, then 4: the buffer is too short for the record.
  unfoldable pub write_lent : Verdict
  write_lent = check_lent f table then number4 (leb (length (record_of f)) (length bytes))

  -- Scope: 'Write a record'. How many bytes are written; refused, 0.
  unfoldable pub write_length : ℕ
  write_length = if_accepted write_lent (length (record_of f)) 0

  -- Scope: 'Write a record'. What is left in the lent table: what the check leaves, also after 4 of the buffer.
  unfoldable pub write_table : List ℕ
  write_table = check_leaves f table

  -- Scope: 'Write a record'. What is left in the buffer: the record, the bytes behind its end as found; refused, all as found.
  unfoldable pub write_leaves : List ℕ
  write_leaves = if_accepted write_lent (record_of f ++ drop (length (record_of f)) bytes) bytes
