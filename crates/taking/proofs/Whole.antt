-- Laws of a whole record: its tests in two parts, what accepted tests tell, and what is left behind. Assumes nothing.
use mathlib.Core.Path.{◌≡◌, refl, sym, ◌∙◌}
use mathlib.Core.Bool.{Bool, ◌&&◌, not}
use mathlib.Core.List.{List}
use Prim.Native.Nat.{ℕ, suc, ◌+◌, ◌*◌, ◌≤◌, ◌<◌}
use native.Mathlib.Omega.{arith}
use lib.ListN.{length, get_or}
use lib.Dec.{eqb, leb, ltb}
use borrow.Author.Tests.{leb-true, ltb-false}
use Rattle.maps.specs.Verdict.{Verdict, accepted, refused, when, ◌then◌, scan}
use Rattle.maps.specs.Sizes.{sizes, number4}
use Rattle.maps.specs.Record.{Allowed, one_byte_by, byte, two_bytes, field, record_dimension, record_height, record_darts, one_byte, row_size, lambda_at, delta_at, end_at, formed, record_rows, record_lambda, record_delta, record_lent, take_rows, take_lambda, take_delta}
use Rattle.laws.proofs.Verdicts.{then_accepted, when_accepted, and_both}
use Rattle.laws.proofs.Tables.{listed_of}
use Rattle.laws.proofs.Sizes.{Sized, sizes_sized, lengths_exact}
use Rattle.answers.specs.Numbers.{refusal_of}
use Rattle.answers.specs.declared.Refusal.{Refusal}
use Rattle.answers.proofs.Refusals.{refusal_refuses}
use Rattle.taking.specs.Answers.{saying, unpacked}
use Rattle.taking.specs.Parts.{size_of, marks_at, row_field, room_of, rest_of, byte_from, table_entry, Laid}
use Rattle.taking.proofs.Laid.{laid_listed}

regroup : (a b c d e f g : Verdict) → (a then (b then (c then (d then (e then f))))) then g ≡ (a then b) then (c then (d then (e then (f then g))))
regroup (refused k l i x) b c d e f g = refl
regroup accepted (refused k l i x) c d e f g = refl
regroup accepted accepted (refused k l i x) d e f g = refl
regroup accepted accepted accepted (refused k l i x) e f g = refl
regroup accepted accepted accepted accepted (refused k l i x) f g = refl
regroup accepted accepted accepted accepted accepted f g = refl

-- the body of an accepted field lies in the record
pub field_room : (bytes : List ℕ) (at tag size : ℕ) → field bytes at tag size ≡ accepted → at + 3 + size ≤ length bytes
unfolding field
field_room bytes at tag size e =
    let v₅ = when (ltb (length bytes) (at + 3 + size)) (refused 16 0 0 at) in
    let v₄ = when (not (eqb (two_bytes bytes (at + 1)) size)) (refused 18 0 0 at) in
    let v₃ = when (ltb (length bytes) (at + 3)) (refused 16 0 0 at) in
    let v₂ = when (not (eqb (byte bytes at) tag)) (refused 17 0 0 at) in
    let v₁ = when (leb (length bytes) at) (refused 16 0 0 at) in
    let f = (then_accepted v₁ (v₂ then (v₃ then (v₄ then v₅))) e).1 in
    let g = (then_accepted v₂ (v₃ then (v₄ then v₅)) f).1 in
    let h = (then_accepted v₃ (v₄ then v₅) g).1 in
    ltb-false (length bytes) (at + 3 + size) (when_accepted (ltb (length bytes) (at + 3 + size)) 16 0 0 at (then_accepted v₄ v₅ h).1)

-- after a refusal nothing lent has changed
pub left_alone : (b : List ℕ) (allowed : Allowed) (rows lambda delta table : List ℕ) (r : Refusal) → refusal_of r ≡ record_lent b allowed rows lambda delta table
    → (saying (refusal_of r) 0 0 0 ≡ unpacked b allowed rows lambda delta table) × ((rows ≡ take_rows b allowed rows lambda delta table) × ((lambda ≡ take_lambda b allowed rows lambda delta table) × (delta ≡ take_delta b allowed rows lambda delta table)))
unfolding take_rows take_lambda take_delta
left_alone b allowed rows lambda delta table r e =
    let x = refusal_refuses r in
    let f : record_lent b allowed rows lambda delta table ≡ refused x.number x.level x.involution x.dart = sym e ∙ x.is in
    (rw (x.is, f), (rw f, (rw f, rw f)))

-- what is read of a record before its rows: n, h, N, the kind of its rows, and whether there is room for it
pub record Told (b : List ℕ) (allowed : Allowed) (rows lambda delta table : List ℕ) (n h N : ℕ) (one enough : Bool) : Type 0 where
  pub dimension : n ≡ record_dimension b
  pub height : h ≡ record_height b
  pub darts : N ≡ record_darts b
  pub kind : one ≡ one_byte_by allowed (byte b 7) N
  pub fit : enough ≡ (leb (suc n * N) (length rows) && (leb N (length lambda) && (leb N (length delta) && leb (suc n * N) (length table))))

module _ {b : List ℕ} {allowed : Allowed} {rows lambda delta table : List ℕ} {n h N : ℕ} {one enough : Bool} (t : Told b allowed rows lambda delta table n h N one enough) where
  -- the tests of the header, and of the rest
  pub lent_is : record_lent b allowed rows lambda delta table ≡ (field b 0 0x01 4 then sizes n N h) then rest_of b n N one enough
  unfolding record_lent formed rest_of room_of
  lent_is =
      rw (t.fit, t.kind, t.dimension, t.height, t.darts)
      (regroup (field b 0 0x01 4) (sizes (record_dimension b) (record_darts b) (record_height b)) (scan (suc (record_dimension b)) (row_field b (one_byte b allowed) (row_size b allowed))) (field b (lambda_at b allowed) 0x30 (record_darts b)) (field b (delta_at b allowed) 0x31 (record_darts b)) (when (ltb (end_at b allowed) (length b)) (refused 19 0 0 (end_at b allowed)))
      (number4 (leb (suc (record_dimension b) * record_darts b) (length rows) && (leb (record_darts b) (length lambda) && (leb (record_darts b) (length delta) && leb (suc (record_dimension b) * record_darts b) (length table))))))

  -- lists that hold the values of a record are its rows, Λ and Δ
  pub holds_rows : (list : List ℕ) → length list ≡ suc n * N → ((x : ℕ) → x < suc n * N → get_or list x 0 ≡ table_entry b N one x) → list ≡ record_rows b allowed
  unfolding record_rows
  holds_rows list long same = rw (t.kind, t.dimension, t.darts) at (listed_of (table_entry b N one) (suc n * N) list long same)

  pub holds_lambda : (list : List ℕ) → length list ≡ N → ((x : ℕ) → x < N → get_or list x 0 ≡ byte_from b (marks_at n N one + 3) x) → list ≡ record_lambda b allowed
  unfolding record_lambda
  holds_lambda list long same = rw (t.kind, t.dimension, t.darts) at (listed_of (byte_from b (marks_at n N one + 3)) N list long same)

  pub holds_delta : (list : List ℕ) → length list ≡ N → ((x : ℕ) → x < N → get_or list x 0 ≡ byte_from b (marks_at n N one + (3 + N) + 3) x) → list ≡ record_delta b allowed
  unfolding record_delta
  holds_delta list long same = rw (t.kind, t.dimension, t.darts) at (listed_of (byte_from b (marks_at n N one + (3 + N) + 3)) N list long same)

  module _ (e : field b 0 0x01 4 then sizes n N h ≡ accepted) where
    pub small : Sized n N h
    small = sizes_sized n N h (then_accepted (field b 0 0x01 4) (sizes n N h) e).1

    module _ (f : rest_of b n N one enough ≡ accepted) where
      -- there is room for all that is copied
      pub room_for : (n ≤ 4) × (1 ≤ N) × (N ≤ 4096) × (marks_at n N one + (3 + N) + (3 + N) ≤ length b) × (suc n * N ≤ length rows) × (N ≤ length lambda) × (N ≤ length delta)
      unfolding rest_of room_of
      room_for =
          let at = marks_at n N one in
          let last = field b (at + (3 + N)) 0x31 N in
          let w = when (ltb (at + (3 + N) + (3 + N)) (length b)) (refused 19 0 0 (at + (3 + N) + (3 + N))) in
          let p = then_accepted (scan (suc n) (row_field b one (size_of N one))) (field b at 0x30 N then (last then (w then number4 enough))) f in
          let q = then_accepted (field b at 0x30 N) (last then (w then number4 enough)) p.1 in
          let r = then_accepted last (w then number4 enough) q.1 in
          let whole = leb (suc n * N) (length table) in
          let x = and_both (leb (suc n * N) (length rows)) (leb N (length lambda) && (leb N (length delta) && whole)) (sym t.fit ∙ lengths_exact enough (then_accepted w (number4 enough) r.1).1) in
          let y = and_both (leb N (length lambda)) (leb N (length delta) && whole) x.1 in
          let z = and_both (leb N (length delta)) whole y.1 in
          let s = small in
          (s.dimension, s.one_dart, s.darts, omega (arith, field_room b (at + (3 + N)) 0x31 N r.0), leb-true (suc n * N) (length rows) x.0, leb-true N (length lambda) y.0, leb-true N (length delta) z.0)

      -- the record is unpacked
      pub all_unpacked : {rows' lambda' delta' : List ℕ} → Laid (table_entry b N one) 0 (suc n * N) rows rows' → Laid (byte_from b (marks_at n N one + 3)) 0 N lambda lambda' → Laid (byte_from b (marks_at n N one + (3 + N) + 3)) 0 N delta delta'
          → (saying accepted n h N ≡ unpacked b allowed rows lambda delta table) × ((rows' ≡ take_rows b allowed rows lambda delta table) × ((lambda' ≡ take_lambda b allowed rows lambda delta table) × (delta' ≡ take_delta b allowed rows lambda delta table)))
      unfolding take_rows take_lambda take_delta record_rows record_lambda record_delta
      all_unpacked s u w =
          let v : record_lent b allowed rows lambda delta table ≡ accepted = lent_is ∙ rw (e, f) in
          let room = room_for in
          (rw (v, t.dimension, t.height, t.darts), (rw v (rw (t.kind, t.dimension, t.darts) at (laid_listed s room.4)), (rw v (rw (t.kind, t.dimension, t.darts) at (laid_listed u room.5)), rw v (rw (t.kind, t.dimension, t.darts) at (laid_listed w room.6)))))
