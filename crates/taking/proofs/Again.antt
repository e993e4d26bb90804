-- A record of two bytes an entry, unpacked and written, is the same bytes. Assumes nothing.
use mathlib.Core.Path.{◌≡◌, refl, sym, ap, ap₂, ◌∙◌}
use mathlib.Core.Bool.{Bool, true, false, ◌&&◌, not}
use mathlib.Core.List.{List, [], ◌∷◌, ◌++◌}
use Prim.Native.Nat.{ℕ, zero, suc, ◌+◌, ◌*◌, ◌/◌, ◌%◌, ◌≤◌, ◌<◌}
use native.Mathlib.Nat.{mul-le-mul_right, suc-mul, zero-mul}
use native.Mathlib.Omega.{arith}
use lib.ListN.{length, get_or, take, drop, length-take, length-drop}
use lib.Seq.{take-add, take_all, drop-drop, drop-cons, get_or-take, get_or-drop, ext_get_or}
use lib.Arith.{digits_div, digits_mod}
use lib.Dec.{eqb, leb, ltb}
use borrow.Author.Tests.{eqb-true, eqb-false, ltb-false, not-false}
use Rattle.maps.specs.Verdict.{accepted, refused, when, ◌then◌, scan}
use Rattle.maps.specs.Sizes.{sizes, number4}
use Rattle.maps.specs.Table.{listed}
use Rattle.maps.specs.Record.{Allowed, byte, two_bytes, field, record_dimension, record_height, record_darts, one_byte, lambda_at, delta_at, record_entry, record_rows, record_lambda, record_delta, record_lent}
use Rattle.maps.specs.Write.{field_written, in_two_bytes, row_of, rows_written, written}
use Rattle.laws.proofs.Verdicts.{then_accepted, when_accepted, scan_accepted}
use Rattle.laws.proofs.Tables.{length_listed, get_or_listed, listed_of, in_table}
use Rattle.laws.proofs.Sizes.{Sized, sizes_sized}
use Rattle.taking.specs.Parts.{row_from, marks_at, row_field, room_of, rest_of, entry_from, Below}
use Rattle.taking.proofs.Fields.{length_two, low_two, high_two}
use Rattle.taking.proofs.Whole.{field_room, Told, lent_is}

-- m bytes from an offset on
abbrev part : List ℕ → ℕ → ℕ → List ℕ
part bytes at m = take m (drop at bytes)

part_long : (bytes : List ℕ) (at m : ℕ) → at + m ≤ length bytes → length (part bytes at m) ≡ m
part_long bytes at m l = simp (length-take, length-drop) (omega arith)

part_at : (bytes : List ℕ) (at m k : ℕ) → k < m → get_or (part bytes at m) k 0 ≡ get_or bytes (at + k) 0
part_at bytes at m k l = get_or-take m (drop at bytes) k 0 l ∙ get_or-drop at bytes k 0

-- in two parts
part_split : (bytes : List ℕ) (at m k : ℕ) → part bytes at (m + k) ≡ part bytes at m ++ part bytes (at + m) k
part_split bytes at m k = take-add m k (drop at bytes) ∙ ap (λ (x : List ℕ). part bytes at m ++ take k x) (drop-drop m at bytes)

-- one byte before the others
part_cons : (bytes : List ℕ) (at m : ℕ) → at < length bytes → part bytes at (suc m) ≡ byte bytes at ∷ part bytes (at + 1) m
part_cons bytes at m l =
    let z : suc at ≡ at + 1 = omega arith in
    ap (take (suc m)) (drop-cons bytes at 0 l) ∙ ap (λ (x : ℕ). byte bytes at ∷ part bytes x m) z

-- a list of which each two bytes are those of an entry
two_bytes_of : (xs list : List ℕ) → length list ≡ 2 * length xs → ((d : ℕ) → d < length xs → (get_or list (2 * d) 0 ≡ get_or xs d 0 % 256) × (get_or list (2 * d + 1) 0 ≡ get_or xs d 0 / 256)) → list ≡ in_two_bytes xs
two_bytes_of xs list e h = ext_get_or 0 list (in_two_bytes xs) (e ∙ sym (length_two xs)) (λ k l. at_byte k (omega arith) (eqb (k % 2) 0) refl)
  where
    at_byte : (k : ℕ) → k < 2 * length xs → (b : Bool) → eqb (k % 2) 0 ≡ b → get_or list k 0 ≡ get_or (in_two_bytes xs) k 0
    at_byte k l true q =
        let even : k % 2 ≡ 0 = eqb-true (k % 2) 0 q in
        let z : k ≡ 2 * (k / 2) = omega arith in
        ap (λ (x : ℕ). get_or list x 0) z ∙ (h (k / 2) (omega arith)).0 ∙ sym (low_two xs (k / 2)) ∙ ap (λ (x : ℕ). get_or (in_two_bytes xs) x 0) (sym z)
    at_byte k l false q =
        let odd : k % 2 ≡ 0 → ⊥ = eqb-false (k % 2) 0 q in
        let z : k ≡ 2 * (k / 2) + 1 = omega arith in
        ap (λ (x : ℕ). get_or list x 0) z ∙ (h (k / 2) (omega arith)).1 ∙ sym (high_two xs (k / 2)) ∙ ap (λ (x : ℕ). get_or (in_two_bytes xs) x 0) (sym z)

-- an accepted field has the tag due
field_tag : (bytes : List ℕ) (at tag size : ℕ) → field bytes at tag size ≡ accepted → byte bytes at ≡ tag
unfolding field
field_tag bytes at tag size e =
    let v₁ = when (leb (length bytes) at) (refused 16 0 0 at) in
    let v₂ = when (not (eqb (byte bytes at) tag)) (refused 17 0 0 at) in
    let rest = when (ltb (length bytes) (at + 3)) (refused 16 0 0 at) then (when (not (eqb (two_bytes bytes (at + 1)) size)) (refused 18 0 0 at) then when (ltb (length bytes) (at + 3 + size)) (refused 16 0 0 at)) in
    let tagged = (then_accepted v₂ rest (then_accepted v₁ (v₂ then rest) e).1).0 in
    eqb-true (byte bytes at) tag (not-false (eqb (byte bytes at) tag) (when_accepted (not (eqb (byte bytes at) tag)) 17 0 0 at tagged))

module _ (bytes : List ℕ) (small : Below 256 bytes) where
  -- an accepted field is what is written of its body
  field_again : (at tag size : ℕ) → field bytes at tag size ≡ accepted → part bytes at (3 + size) ≡ field_written tag (part bytes (at + 3) size)
  unfolding field field_written
  field_again at tag size e =
      let v₅ = when (ltb (length bytes) (at + 3 + size)) (refused 16 0 0 at) in
      let v₄ = when (not (eqb (two_bytes bytes (at + 1)) size)) (refused 18 0 0 at) in
      let v₃ = when (ltb (length bytes) (at + 3)) (refused 16 0 0 at) in
      let v₂ = when (not (eqb (byte bytes at) tag)) (refused 17 0 0 at) in
      let v₁ = when (leb (length bytes) at) (refused 16 0 0 at) in
      let f = (then_accepted v₁ (v₂ then (v₃ then (v₄ then v₅))) e).1 in
      let g = (then_accepted v₂ (v₃ then (v₄ then v₅)) f).1 in
      let h = (then_accepted v₃ (v₄ then v₅) g).1 in
      let tagged = field_tag bytes at tag size e in
      let sized = eqb-true (two_bytes bytes (at + 1)) size (not-false (eqb (two_bytes bytes (at + 1)) size) (when_accepted (not (eqb (two_bytes bytes (at + 1)) size)) 18 0 0 at (then_accepted v₄ v₅ h).0)) in
      let room = field_room bytes at tag size e in
      let long = part_long bytes (at + 3) size room in
      let low = small (at + 1) in
      let high = small (at + 1 + 1) in
      let z : at + 1 + 1 + 1 ≡ at + 3 = omega arith in
      let y : 3 + size ≡ suc (suc (suc size)) = omega arith in
      ap (part bytes at) y
      ∙ part_cons bytes at (suc (suc size)) (omega arith)
      ∙ ap₂ (λ (t : ℕ) (x : List ℕ). t ∷ x) tagged (part_cons bytes (at + 1) (suc size) (omega arith) ∙ ap (λ (x : List ℕ). byte bytes (at + 1) ∷ x) (part_cons bytes (at + 1 + 1) size (omega arith)))
      ∙ ap (λ (x : ℕ). tag ∷ byte bytes (at + 1) ∷ byte bytes (at + 1 + 1) ∷ part bytes x size) z
      ∙ ap₂ (λ (x y : ℕ). tag ∷ x ∷ y ∷ part bytes (at + 3) size) (omega arith) (omega arith)

  -- a row's body is what is written of its entries
  entries_again : (at N : ℕ) → at + 2 * N ≤ length bytes → part bytes at (2 * N) ≡ in_two_bytes (listed (λ d. two_bytes bytes (at + 2 * d)) N)
  entries_again at N l =
      let f : ℕ → ℕ = λ d. two_bytes bytes (at + 2 * d) in
      let e = length_listed f N in
      two_bytes_of (listed f N) (part bytes at (2 * N)) (part_long bytes at (2 * N) l ∙ ap (λ (x : ℕ). 2 * x) (sym e)) (λ d k.
      let v = get_or_listed f N d 0 (omega arith) in
      let z : at + (2 * d + 1) ≡ at + 2 * d + 1 = omega arith in
      let low = part_at bytes at (2 * N) (2 * d) (omega arith) in
      let high : get_or (part bytes at (2 * N)) (2 * d + 1) 0 ≡ get_or bytes (at + 2 * d + 1) 0 = rw z at (part_at bytes at (2 * N) (2 * d + 1) (omega arith)) in
      let s = small (at + 2 * d) in
      let t = small (at + 2 * d + 1) in
      (omega arith, omega arith))

-- a record of two bytes an entry that is unpacked into lent slices
module _ (bytes : List ℕ) (allowed : Allowed) (rows lambda delta table : List ℕ) (small : Below 256 bytes) (two : one_byte bytes allowed ≡ false) (e : record_lent bytes allowed rows lambda delta table ≡ accepted) where
  abbrev n : ℕ
  n = record_dimension bytes

  abbrev h : ℕ
  h = record_height bytes

  abbrev N : ℕ
  N = record_darts bytes

  abbrev enough : Bool
  enough = leb (suc n * N) (length rows) && (leb N (length lambda) && (leb N (length delta) && leb (suc n * N) (length table)))

  told : Told bytes allowed rows lambda delta table n h N false enough
  told = record { dimension = refl; height = refl; darts = refl; kind = sym two; fit = refl }

  parts : (field bytes 0 0x01 4 then sizes n N h ≡ accepted) × (rest_of bytes n N false enough ≡ accepted)
  parts = then_accepted (field bytes 0 0x01 4 then sizes n N h) (rest_of bytes n N false enough) (sym (lent_is told) ∙ e)

  abbrev lambda_from : ℕ
  lambda_from = marks_at n N false

  -- the fields are accepted, and the record ends where Δ does
  record Tested : Type 0 where
    header : field bytes 0 0x01 4 ≡ accepted
    sized : Sized n N h
    row : (i : ℕ) → i ≤ n → field bytes (7 + i * (3 + 2 * N)) (0x10 + i) (2 * N) ≡ accepted
    marks : field bytes lambda_from 0x30 N ≡ accepted
    others : field bytes (lambda_from + (3 + N)) 0x31 N ≡ accepted
    ends : length bytes ≡ lambda_from + (3 + N) + (3 + N)

  tested : Tested
  unfolding rest_of room_of
  tested =
      let last = field bytes (lambda_from + (3 + N)) 0x31 N in
      let end = lambda_from + (3 + N) + (3 + N) in
      let w = when (ltb end (length bytes)) (refused 19 0 0 end) in
      let first = then_accepted (field bytes 0 0x01 4) (sizes n N h) parts.0 in
      let p = then_accepted (scan (suc n) (row_field bytes false (2 * N))) (field bytes lambda_from 0x30 N then (last then (w then number4 enough))) parts.1 in
      let q = then_accepted (field bytes lambda_from 0x30 N) (last then (w then number4 enough)) p.1 in
      let r = then_accepted last (w then number4 enough) q.1 in
      let x = ltb-false end (length bytes) (when_accepted (ltb end (length bytes)) 19 0 0 end (then_accepted w (number4 enough) r.1).0) in
      record {
        header = first.0;
        sized = sizes_sized n N h first.1;
        row = λ i l. scan_accepted (suc n) (row_field bytes false (2 * N)) p.0 i (omega arith);
        marks = q.0;
        others = r.0;
        ends = omega (arith, field_room bytes (lambda_from + (3 + N)) 0x31 N r.0);
      }

  -- the first row's tag
  pub first_tag : byte bytes 7 ≡ 0x10
  first_tag =
      let seven : 7 ≡ 7 + 0 * (3 + 2 * N) = omega (arith, zero-mul (3 + 2 * N)) in
      ap (byte bytes) seven ∙ field_tag bytes (7 + 0 * (3 + 2 * N)) (0x10 + 0) (2 * N) (tested.row 0 (omega arith))

  abbrev R : List ℕ
  R = record_rows bytes allowed

  abbrev L : List ℕ
  L = record_lambda bytes allowed

  abbrev D : List ℕ
  D = record_delta bytes allowed

  rows_are : R ≡ listed (λ x. record_entry bytes allowed (x / N) (x % N)) (suc n * N)
  unfolding record_rows
  rows_are = refl

  -- marks from an offset on
  marks_are : (at from : ℕ) → at ≡ from → from + N ≤ length bytes → listed (λ x. byte bytes (at + x)) N ≡ part bytes from N
  marks_are at from same room = sym (listed_of (λ x. byte bytes (at + x)) N (part bytes from N) (part_long bytes from N room) (λ x k. part_at bytes from N x k ∙ ap (λ (y : ℕ). byte bytes (y + x)) (sym same)))

  starts : lambda_at bytes allowed ≡ lambda_from
  starts = ap (λ (one : Bool). marks_at n N one) two

  lambda_is : L ≡ part bytes (lambda_from + 3) N
  unfolding record_lambda
  lambda_is = marks_are (lambda_at bytes allowed + 3) (lambda_from + 3) (ap (λ (x : ℕ). x + 3) starts) (omega (arith, tested.ends))

  delta_is : D ≡ part bytes (lambda_from + (3 + N) + 3) N
  unfolding record_delta
  delta_is = marks_are (delta_at bytes allowed + 3) (lambda_from + (3 + N) + 3) (ap (λ (x : ℕ). x + (3 + N) + 3) starts) (omega (arith, tested.ends))

  -- row i
  row_is : (i : ℕ) → i ≤ n → row_of N R i ≡ listed (λ d. two_bytes bytes (7 + i * (3 + 2 * N) + 3 + 2 * d)) N
  unfolding row_of
  row_is i l =
      let v : ℕ → ℕ = λ x. record_entry bytes allowed (x / N) (x % N) in
      let k : suc i * N ≤ suc n * N = mul-le-mul_right N (omega arith) in
      let long : length R ≡ suc n * N = ap length rows_are ∙ length_listed v (suc n * N) in
      listed_of (λ d. two_bytes bytes (7 + i * (3 + 2 * N) + 3 + 2 * d)) N (take N (drop (i * N) R)) (omega (arith, length-take N (drop (i * N) R), length-drop (i * N) R, suc-mul i N)) (λ d f.
      get_or-take N (drop (i * N) R) d 0 f
      ∙ get_or-drop (i * N) R d 0
      ∙ ap (λ (x : List ℕ). get_or x (i * N + d) 0) rows_are
      ∙ get_or_listed v (suc n * N) (i * N + d) 0 (in_table n N i d l f)
      ∙ ap₂ (record_entry bytes allowed) (digits_div i f) (digits_mod i f)
      ∙ ap (λ (one : Bool). entry_from bytes one (row_from N one i + 3) d) two)

  row_again : (i : ℕ) → i ≤ n → part bytes (7 + i * (3 + 2 * N)) (3 + 2 * N) ≡ field_written (0x10 + i) (in_two_bytes (row_of N R i))
  row_again i l =
      let at = 7 + i * (3 + 2 * N) in
      let f = tested.row i l in
      field_again bytes small at (0x10 + i) (2 * N) f ∙ ap (field_written (0x10 + i)) (entries_again bytes small (at + 3) N (field_room bytes at (0x10 + i) (2 * N) f) ∙ ap in_two_bytes (sym (row_is i l)))

  rows_again : (m : ℕ) → m ≤ suc n → part bytes 7 (m * (3 + 2 * N)) ≡ rows_written N R m
  unfolding rows_written
  rows_again zero l = rw (zero-mul (3 + 2 * N))
  rows_again (suc m) l =
      ap (part bytes 7) (suc-mul m (3 + 2 * N)) ∙ part_split bytes 7 (m * (3 + 2 * N)) (3 + 2 * N) ∙ ap₂ (λ (x y : List ℕ). x ++ y) (rows_again m (omega arith)) (row_again m (omega arith))

  header_again : part bytes 0 7 ≡ field_written 0x01 (n ∷ h ∷ in_two_bytes (N ∷ []))
  unfolding in_two_bytes
  header_again =
      let room = field_room bytes 0 0x01 4 tested.header in
      let low = small 5 in
      let high = small 6 in
      let body : part bytes 3 4 ≡ n ∷ h ∷ byte bytes 5 ∷ byte bytes 6 ∷ [] =
      part_cons bytes 3 3 (omega arith)
      ∙ ap (λ (x : List ℕ). n ∷ x) (part_cons bytes 4 2 (omega arith) ∙ ap (λ (x : List ℕ). h ∷ x) (part_cons bytes 5 1 (omega arith) ∙ ap (λ (x : List ℕ). byte bytes 5 ∷ x) (part_cons bytes 6 0 (omega arith)))) in
      field_again bytes small 0 0x01 4 tested.header ∙ ap (field_written 0x01) (body ∙ ap₂ (λ (x y : ℕ). n ∷ h ∷ x ∷ y ∷ []) (omega arith) (omega arith))

  -- written again, it is the same bytes
  pub again : written (record_dimension bytes) (record_height bytes) (record_darts bytes) (record_rows bytes allowed) (record_lambda bytes allowed) (record_delta bytes allowed) ≡ bytes
  unfolding written
  again =
      let rowsSize = suc n * (3 + 2 * N) in
      let marks : part bytes lambda_from ((3 + N) + (3 + N)) ≡ field_written 0x30 L ++ field_written 0x31 D =
      part_split bytes lambda_from (3 + N) (3 + N)
      ∙ ap₂ (λ (x y : List ℕ). x ++ y) (field_again bytes small lambda_from 0x30 N tested.marks ∙ ap (field_written 0x30) (sym lambda_is)) (field_again bytes small (lambda_from + (3 + N)) 0x31 N tested.others ∙ ap (field_written 0x31) (sym delta_is)) in
      let rest : part bytes 7 (rowsSize + ((3 + N) + (3 + N))) ≡ rows_written N R (suc n) ++ (field_written 0x30 L ++ field_written 0x31 D) =
      part_split bytes 7 rowsSize ((3 + N) + (3 + N)) ∙ ap₂ (λ (x y : List ℕ). x ++ y) (rows_again (suc n) (omega arith)) marks in
      let all : part bytes 0 (7 + (rowsSize + ((3 + N) + (3 + N)))) ≡ written n h N R L D =
      part_split bytes 0 7 (rowsSize + ((3 + N) + (3 + N))) ∙ ap₂ (λ (x y : List ℕ). x ++ y) header_again rest in
      sym all ∙ take_all (7 + (rowsSize + ((3 + N) + (3 + N)))) bytes (omega (arith, tested.ends))
