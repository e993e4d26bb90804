-- The parts of a record as the functions read and write them. Assumes nothing: these are definitions.
use Rattle.std.specs.Prelude.{◌⊎◌, ◌≡◌, Bool, cond, List, ℕ, suc, ◌+◌, ◌*◌, ◌/◌, ◌%◌, ◌≤◌, ◌<◌, length, get_or, ltb}
use Rattle.maps.specs.Verdict.{Verdict, refused, when, ◌then◌, scan}
use Rattle.maps.specs.Sizes.{number4}
use Rattle.maps.specs.Record.{byte, two_bytes, field}

-- a row's size, and where row i and Λ stand, with one byte an entry or two
abbrev pub size_of : ℕ → Bool → ℕ
size_of N one = cond one N (2 * N)

abbrev pub row_from : ℕ → Bool → ℕ → ℕ
row_from N one i = 7 + i * (3 + size_of N one)

abbrev pub marks_at : ℕ → ℕ → Bool → ℕ
marks_at n N one = row_from N one (suc n)

-- row i, where rows have this size
abbrev pub row_field : List ℕ → Bool → ℕ → ℕ → Verdict
row_field bytes one size i = field bytes (7 + i * (3 + size)) (cond one 0x20 0x10 + i) size

-- 19, then 4
unfoldable pub room_of : ℕ → ℕ → Bool → Verdict
room_of bytes end enough = when (ltb end bytes) (refused 19 0 0 end) then number4 enough

-- all that is tested after the header
unfoldable pub rest_of : List ℕ → ℕ → ℕ → Bool → Bool → Verdict
rest_of bytes n N one enough =
    scan (suc n) (row_field bytes one (size_of N one))
    then (field bytes (marks_at n N one) 0x30 N
    then (field bytes (marks_at n N one + (3 + N)) 0x31 N
    then room_of (length bytes) (marks_at n N one + (3 + N) + (3 + N)) enough))

-- value d of a body
abbrev pub byte_from : List ℕ → ℕ → ℕ → ℕ
byte_from bytes from d = byte bytes (from + d)

abbrev pub two_from : List ℕ → ℕ → ℕ → ℕ
two_from bytes from d = two_bytes bytes (from + 2 * d)

abbrev pub entry_from : List ℕ → Bool → ℕ → ℕ → ℕ
entry_from bytes one from d = cond one (byte_from bytes from d) (two_from bytes from d)

-- place x of the rows
abbrev pub table_entry : List ℕ → ℕ → Bool → ℕ → ℕ
table_entry bytes N one x = entry_from bytes one (row_from N one (x / N) + 3) (x % N)

-- m values written from place `at` on, the rest untouched
pub record Laid (value : ℕ → ℕ) (at m : ℕ) (old new : List ℕ) : Type 0 where
  pub long : length new ≡ length old
  pub written : (d : ℕ) → d < m → get_or new (at + d) 0 ≡ value d
  pub kept : (x : ℕ) → (x < at) ⊎ (at + m ≤ x) → get_or new x 0 ≡ get_or old x 0

-- each number of a list is below k; past its end `get_or` gives 0
abbrev pub Below : ℕ → List ℕ → Type 0
Below k list = (x : ℕ) → get_or list x 0 < k
