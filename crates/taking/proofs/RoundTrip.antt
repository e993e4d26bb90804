-- What a record that is written holds. Assumes nothing.
use mathlib.Core.Path.{◌≡◌, refl, sym, ap, ◌∙◌}
use mathlib.Core.Bool.{Bool, true, false}
use mathlib.Core.List.{List, [], ◌∷◌, ◌++◌, append-nil, append_assoc}
use Prim.Native.Nat.{ℕ, zero, suc, ◌+◌, ◌-◌, ◌*◌, ◌/◌, ◌%◌, ◌≤◌, ◌<◌}
use native.Mathlib.Nat.{zero-mul}
use native.Mathlib.Omega.{arith}
use lib.ListN.{length, get_or, take, drop, length-append, length-take, get_or-append, get_or-eq_default}
use lib.Seq.{get_or-append-add, get_or-take, get_or-drop}
use lib.Arith.{digits_div, digits_mod}
use lib.Dec.{eqb, ltb}
use borrow.Author.Tests.{eqb-true, eqb-false, ltb-true, ltb-false, le-leb, lt-leb, le-ltb, eq-eqb}
use Rattle.maps.specs.Verdict.{accepted, ◌then◌}
use Rattle.maps.specs.Sizes.{sizes, number1, number2, number3, number4}
use Rattle.maps.specs.Write.{field_written, in_two_bytes, row_of, rows_written, written}
use Rattle.maps.specs.Record.{Allowed, wide, either, one_byte_by, field, record_dimension, record_height, record_darts, record_rows, record_lambda, record_delta, record_lent}
use Rattle.laws.proofs.Verdicts.{scan_all}
use Rattle.laws.proofs.Tables.{place}
use Rattle.laws.proofs.Sizes.{Sized}
use Rattle.taking.specs.Parts.{row_field, room_of, rest_of, table_entry, Below}
use Rattle.taking.proofs.Fields.{length_field, low_two, high_two, row_length, rows_written_lem}
use Rattle.taking.proofs.Whole.{Told, lent_is, holds_rows, holds_lambda, holds_delta}

below_append : (k : ℕ) (xs ys : List ℕ) → Below k xs → Below k ys → Below k (xs ++ ys)
below_append k xs ys f g x = go (ltb x (length xs)) refl
  where
    go : (b : Bool) → ltb x (length xs) ≡ b → get_or (xs ++ ys) x 0 < k
    go true q = rw (get_or-append xs ys 0 x (ltb-true x (length xs) q)) (f x)
    go false q =
        let l = ltb-false x (length xs) q in
        let e : x ≡ length xs + (x - length xs) = omega arith in
        rw (ap (λ (y : ℕ). get_or (xs ++ ys) y 0) e ∙ get_or-append-add xs ys (x - length xs) 0) (g (x - length xs))

below_cons : (k a : ℕ) (xs : List ℕ) → a < k → Below k xs → Below k (a ∷ xs)
below_cons k a xs l f zero = l
below_cons k a xs l f (suc x) = f x

below_take : (k m : ℕ) (xs : List ℕ) → 0 < k → Below k xs → Below k (take m xs)
below_take k m xs p f x = go (ltb x m) refl
  where
    go : (b : Bool) → ltb x m ≡ b → get_or (take m xs) x 0 < k
    go true q = rw (get_or-take m xs x 0 (ltb-true x m q)) (f x)
    go false q = let l = ltb-false x m q in let e : length (take m xs) ≤ x = simp length-take (omega arith) in rw (get_or-eq_default (take m xs) 0 e) p

below_two : (xs : List ℕ) → Below 65536 xs → Below 256 (in_two_bytes xs)
unfolding in_two_bytes
below_two [] f = λ x. omega arith
below_two (a ∷ xs) f = let l = f 0 in below_cons 256 (a % 256) (a / 256 ∷ in_two_bytes xs) (omega arith) (below_cons 256 (a / 256) (in_two_bytes xs) (omega arith) (below_two xs (λ x. f (suc x))))

below_field : (tag : ℕ) (body : List ℕ) → tag < 256 → length body < 65536 → Below 256 body → Below 256 (field_written tag body)
unfolding field_written
below_field tag body lt lb f =
    below_cons 256 tag (length body % 256 ∷ length body / 256 ∷ body) lt
    (below_cons 256 (length body % 256) (length body / 256 ∷ body) (omega arith) (below_cons 256 (length body / 256) body (omega arith) f))

-- a list that has a field after what comes before it
record Stands (list : List ℕ) (at tag : ℕ) (body : List ℕ) : Type 0 where
  before : List ℕ
  after : List ℕ
  is : list ≡ before ++ (field_written tag body ++ after)
  starts : length before ≡ at

module _ {list : List ℕ} {at tag : ℕ} {body : List ℕ} (s : Stands list at tag body) where
  in_list : (k : ℕ) → get_or list (at + k) 0 ≡ get_or (field_written tag body ++ s.after) k 0
  in_list k = rw (s.is, ← s.starts) (get_or-append-add s.before (field_written tag body ++ s.after) k 0)

  list_length : length list ≡ at + (3 + length body) + length s.after
  list_length = omega (arith, ap length s.is, s.starts, length-append s.before (field_written tag body ++ s.after), length-append (field_written tag body) s.after, length_field tag body)

  field_tag : get_or list at 0 ≡ tag
  unfolding field_written
  field_tag = let z : at + 0 ≡ at = omega arith in rw (sym z) (in_list 0)

  field_body : (k : ℕ) → k < length body → get_or list (at + 3 + k) 0 ≡ get_or body k 0
  unfolding field_written
  field_body k f = let z : at + 3 + k ≡ at + suc (suc (suc k)) = omega arith in rw z (in_list (suc (suc (suc k))) ∙ get_or-append body s.after 0 k f)

  field_accepted : field list at tag (length body) ≡ accepted
  unfolding field field_written
  field_accepted =
      let low : get_or list (at + 1) 0 ≡ length body % 256 = in_list 1 in
      let z : at + 1 + 1 ≡ at + 2 = omega arith in
      let high : get_or list (at + 1 + 1) 0 ≡ length body / 256 = rw z (in_list 2) in
      simp (
        lt-leb (length list) at (omega (arith, list_length)),
        eq-eqb (get_or list at 0) tag field_tag,
        le-ltb (length list) (at + 3) (omega (arith, list_length)),
        eq-eqb (get_or list (at + 1) 0 + 256 * get_or list (at + 1 + 1) 0) (length body) (omega arith),
        le-ltb (length list) (at + 3 + length body) (omega (arith, list_length)),
      )

-- a row apart from the rows before it and what comes after it
record Apart (N : ℕ) (rows : List ℕ) (m i : ℕ) : Type 0 where
  after : List ℕ
  is : rows_written N rows m ≡ rows_written N rows i ++ (field_written (0x10 + i) (in_two_bytes (row_of N rows i)) ++ after)

row_apart : (N : ℕ) (rows : List ℕ) (m i : ℕ) → i < m → Apart N rows m i
unfolding rows_written
row_apart N rows zero i l = absurd (omega arith)
row_apart N rows (suc m) i l = go (eqb i m) refl (λ k. row_apart N rows m i k)
  where
    one : ℕ → List ℕ
    one k = field_written (0x10 + k) (in_two_bytes (row_of N rows k))

    go : (b : Bool) → eqb i m ≡ b → (i < m → Apart N rows m i) → Apart N rows (suc m) i
    go true q ih =
        let e : i ≡ m = eqb-true i m q in
        record { after = []; is = rw e (ap (λ (x : List ℕ). rows_written N rows m ++ x) (sym (append-nil (one m)))) }
    go false q ih =
        let ne : i ≡ m → ⊥ = eqb-false i m q in
        let s = ih (omega arith) in
        record {
          after = s.after ++ one m;
          is =
              ap (λ (x : List ℕ). x ++ one m) s.is
              ∙ append_assoc (rows_written N rows i) (one i ++ s.after) (one m)
              ∙ ap (λ (x : List ℕ). rows_written N rows i ++ x) (append_assoc (one i) s.after (one m));
        }

module _ (n h N : ℕ) (rows lambda delta : List ℕ) (s : Sized n N h) (rows-length : length rows ≡ suc n * N) (lambda-length : length lambda ≡ N) (delta-length : length delta ≡ N) where
  abbrev list : List ℕ
  list = written n h N rows lambda delta

  abbrev header : List ℕ
  header = field_written 0x01 (n ∷ h ∷ in_two_bytes (N ∷ []))

  length_header : length header ≡ 7
  unfolding field_written in_two_bytes
  length_header = refl

  before_row : (i : ℕ) → i ≤ suc n → length (header ++ rows_written N rows i) ≡ 7 + i * (3 + 2 * N)
  before_row i l = omega (arith, length-append header (rows_written N rows i), length_header, rows_written_lem n N rows rows-length i l)

  abbrev marks : List ℕ
  marks = field_written 0x30 lambda ++ field_written 0x31 delta

  -- where each field stands
  row_stands : (i : ℕ) → i ≤ n → Stands list (7 + i * (3 + 2 * N)) (0x10 + i) (in_two_bytes (row_of N rows i))
  unfolding written
  row_stands i l =
      let a = row_apart N rows (suc n) i (omega arith) in
      let one = field_written (0x10 + i) (in_two_bytes (row_of N rows i)) in
      record {
        before = header ++ rows_written N rows i;
        after = a.after ++ marks;
        is =
            ap (λ (x : List ℕ). header ++ (x ++ marks)) a.is
            ∙ ap (λ (x : List ℕ). header ++ x) (append_assoc (rows_written N rows i) (one ++ a.after) marks ∙ ap (λ (x : List ℕ). rows_written N rows i ++ x) (append_assoc one a.after marks))
            ∙ sym (append_assoc header (rows_written N rows i) (one ++ (a.after ++ marks)));
        starts = before_row i (omega arith);
      }

  abbrev lambda_from : ℕ
  lambda_from = 7 + suc n * (3 + 2 * N)

  abbrev front : List ℕ
  front = header ++ rows_written N rows (suc n)

  lambda_stands : Stands list lambda_from 0x30 lambda
  unfolding written
  lambda_stands = record { before = front; after = field_written 0x31 delta; is = sym (append_assoc header (rows_written N rows (suc n)) marks); starts = before_row (suc n) (omega arith) }

  unfoldable delta_stands : Stands list (lambda_from + (3 + N)) 0x31 delta
  unfolding written
  delta_stands = record {
    before = front ++ field_written 0x30 lambda;
    after = [];
    is =
        sym (append_assoc header (rows_written N rows (suc n)) marks)
        ∙ sym (append_assoc front (field_written 0x30 lambda) (field_written 0x31 delta))
        ∙ ap (λ (x : List ℕ). (front ++ field_written 0x30 lambda) ++ x) (sym (append-nil (field_written 0x31 delta)));
    starts = omega (arith, length-append front (field_written 0x30 lambda), before_row (suc n) (omega arith), length_field 0x30 lambda);
  }

  header_bytes : Below 256 header
  unfolding in_two_bytes
  header_bytes =
      below_field 0x01 (n ∷ h ∷ N % 256 ∷ N / 256 ∷ []) (omega arith) (omega arith)
      (below_cons 256 n (h ∷ N % 256 ∷ N / 256 ∷ []) (omega arith) (below_cons 256 h (N % 256 ∷ N / 256 ∷ []) (omega arith) (below_two (N ∷ []) (below_cons 65536 N [] (omega arith) (λ x. omega arith)))))

  rows_bytes : Below 65536 rows → (m : ℕ) → m ≤ suc n → Below 256 (rows_written N rows m)
  unfolding rows_written row_of
  rows_bytes f zero l = λ x. omega arith
  rows_bytes f (suc m) l =
      let row = take N (drop (m * N) rows) in
      let dropped : Below 65536 (drop (m * N) rows) = λ x. rw (get_or-drop (m * N) rows x 0) (f (m * N + x)) in
      below_append 256 (rows_written N rows m) (field_written (0x10 + m) (in_two_bytes row)) (rows_bytes f m (omega arith))
      (below_field (0x10 + m) (in_two_bytes row) (omega arith) (omega (arith, row_length n N rows rows-length m (omega arith))) (below_two row (below_take 65536 N (drop (m * N) rows) (omega arith) dropped)))

  -- the size of a record
  pub written_length : length (written n h N rows lambda delta) ≡ 7 + suc n * (3 + 2 * N) + 2 * (3 + N)
  unfolding delta_stands
  written_length = omega (arith, list_length delta_stands)

  -- each of its numbers is a byte
  pub written_bytes : Below 65536 rows → Below 256 lambda → Below 256 delta → Below 256 (written n h N rows lambda delta)
  unfolding written
  written_bytes fr fl fd =
      below_append 256 header (rows_written N rows (suc n) ++ marks) header_bytes
      (below_append 256 (rows_written N rows (suc n)) marks (rows_bytes fr (suc n) (omega arith))
      (below_append 256 (field_written 0x30 lambda) (field_written 0x31 delta) (below_field 0x30 lambda (omega arith) (omega arith) fl) (below_field 0x31 delta (omega arith) (omega arith) fd)))

  header_fine : field list 0 0x01 4 then sizes n N h ≡ accepted
  unfolding written in_two_bytes sizes number1 number2 number3
  header_fine =
      let f : Stands list 0 0x01 (n ∷ h ∷ in_two_bytes (N ∷ [])) = record { before = []; after = rows_written N rows (suc n) ++ marks; is = refl; starts = refl } in
      rw (field_accepted f, le-leb 1 n s.one_dimension, le-leb n 4 s.dimension, le-leb 1 N s.one_dart, le-leb N 4096 s.darts, le-ltb 32 h s.height)

  row_fine : (i : ℕ) → i ≤ n → field list (7 + i * (3 + 2 * N)) (0x10 + i) (2 * N) ≡ accepted
  row_fine i l = rw (row_length n N rows rows-length i l) at (field_accepted (row_stands i l))

  -- what stands in the rows
  row_value : (i d : ℕ) → i ≤ n → d < N → get_or rows (i * N + d) 0 ≡ table_entry list N false (i * N + d)
  unfolding row_of
  row_value i d li ld =
      let row = take N (drop (i * N) rows) in
      let at = 7 + i * (3 + 2 * N) in
      let read = field_body (row_stands i li) in
      let e = row_length n N rows rows-length i li in
      let x : get_or row d 0 ≡ get_or rows (i * N + d) 0 = get_or-take N (drop (i * N) rows) d 0 ld ∙ get_or-drop (i * N) rows d 0 in
      let low : get_or list (at + 3 + 2 * d) 0 ≡ get_or rows (i * N + d) 0 % 256 = read (2 * d) (omega arith) ∙ low_two row d ∙ ap (λ (y : ℕ). y % 256) x in
      let z : at + 3 + 2 * d + 1 ≡ at + 3 + (2 * d + 1) = omega arith in
      let high : get_or list (at + 3 + 2 * d + 1) 0 ≡ get_or rows (i * N + d) 0 / 256 = rw z (read (2 * d + 1) (omega arith) ∙ high_two row d ∙ ap (λ (y : ℕ). y / 256) x) in
      rw (digits_mod i ld, digits_div i ld, low, high) (omega arith)

  first_tag : get_or list 7 0 ≡ 0x10
  first_tag =
      let seven : 7 ≡ 7 + 0 * (3 + 2 * N) = omega (arith, zero-mul (3 + 2 * N)) in
      ap (λ (x : ℕ). get_or list x 0) seven ∙ field_tag (row_stands 0 (omega arith))

  two_bytes_lem : (allowed : Allowed) → one_byte_by allowed 0x10 N ≡ false
  two_bytes_lem wide = refl
  two_bytes_lem either = refl

  -- what unpacking it gives, with lent slices of these lengths or longer ones
  module _ (allowed : Allowed) (lentRows lentLambda lentDelta lentTable : List ℕ) (rows-lent : suc n * N ≤ length lentRows) (lambda-lent : N ≤ length lentLambda) (delta-lent : N ≤ length lentDelta) (table-lent : suc n * N ≤ length lentTable) where
    told : Told list allowed lentRows lentLambda lentDelta lentTable n h N false true
    unfolding written field_written in_two_bytes
    told = record {
      dimension = refl;
      height = refl;
      darts = omega arith;
      kind = sym (ap (λ (x : ℕ). one_byte_by allowed x N) first_tag ∙ two_bytes_lem allowed);
      fit = rw (le-leb (suc n * N) (length lentRows) rows-lent, le-leb N (length lentLambda) lambda-lent, le-leb N (length lentDelta) delta-lent, le-leb (suc n * N) (length lentTable) table-lent);
    }

    rest_fine : rest_of list n N false true ≡ accepted
    unfolding rest_of room_of number4
    rest_fine =
        rw (
          scan_all (suc n) (row_field list false (2 * N)) (λ i l. row_fine i (omega arith)),
          rw lambda-length at (field_accepted lambda_stands),
          rw delta-length at (field_accepted delta_stands),
          le-ltb (lambda_from + (3 + N) + (3 + N)) (length list) (omega (arith, written_length)),
        )

    pub record Held : Type 0 where
      pub verdict : record_lent (written n h N rows lambda delta) allowed lentRows lentLambda lentDelta lentTable ≡ accepted
      pub dimension : record_dimension (written n h N rows lambda delta) ≡ n
      pub height : record_height (written n h N rows lambda delta) ≡ h
      pub darts : record_darts (written n h N rows lambda delta) ≡ N
      pub rows_held : record_rows (written n h N rows lambda delta) allowed ≡ rows
      pub lambda_held : record_lambda (written n h N rows lambda delta) allowed ≡ lambda
      pub delta_held : record_delta (written n h N rows lambda delta) allowed ≡ delta

    pub round_trip : Held
    round_trip =
        let at_row : (x : ℕ) → x < suc n * N → get_or rows x 0 ≡ table_entry list N false x = λ x l. let p = place n N x l in rw p.2 at (row_value (x / N) (x % N) p.0 p.1) in
        record {
          verdict = lent_is told ∙ rw (header_fine, rest_fine);
          dimension = sym told.dimension;
          height = sym told.height;
          darts = sym told.darts;
          rows_held = sym (holds_rows told rows rows-length at_row);
          lambda_held = sym (holds_lambda told lambda lambda-length (λ x l. sym (field_body lambda_stands x (omega arith))));
          delta_held = sym (holds_delta told delta delta-length (λ x l. sym (field_body delta_stands x (omega arith))));
        }

-- largest record: 49,180 bytes
pub largest : (h : ℕ) (rows lambda delta : List ℕ) → h ≤ 32 → length rows ≡ 20480 → length lambda ≡ 4096 → length delta ≡ 4096 → length (written 4 h 4096 rows lambda delta) ≡ 49180
largest h rows lambda delta l = written_length 4 h 4096 rows lambda delta (record { one_dimension = omega arith; dimension = omega arith; one_dart = omega arith; darts = omega arith; height = l })
