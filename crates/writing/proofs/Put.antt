-- Laws of what is put into a slice: two bytes of an entry, a list after a list, a field, and all of it at the front. Assumes nothing.
use mathlib.Core.Path.{◌≡◌, refl, sym, ◌∙◌}
use mathlib.Core.List.{List, ◌++◌}
use Prim.Native.Nat.{ℕ, ◌+◌, ◌*◌, ◌/◌, ◌%◌, ◌≤◌, ◌<◌}
use native.Mathlib.Omega.{arith}
use lib.ListN.{length, get_or, set, take, drop, length-append, length-set, get_or-append}
use lib.Seq.{get_or-append-add}
use borrow.Rule.Slice.PartMut.{put_mid}
use Rattle.maps.specs.Write.{field_written, in_two_bytes}
use Rattle.taking.specs.Parts.{Laid}
use Rattle.taking.proofs.Laid.{laid_more, laid_on, laid_same, laid_front, laid_part, laid_within}
use Rattle.taking.proofs.Fields.{low_two, high_two}
use Rattle.writing.specs.Put.{head_of, Put}

-- the high one of two bytes
pub high_byte : (x : ℕ) → x < 65536 → x / 256 % 256 ≡ x / 256
high_byte x l = omega arith

-- one entry more of a row, its two bytes low byte first
pub laid_entry : (row : List ℕ) (d : ℕ) {old new : List ℕ} (x y : ℕ) → Laid (λ k. get_or (in_two_bytes row) k 0) 0 (2 * d) old new → 2 * d + 1 < length new → x ≡ get_or row d 0 % 256 → y ≡ get_or row d 0 / 256
    → Laid (λ k. get_or (in_two_bytes row) k 0) 0 (2 * (d + 1)) old (set (set new (2 * d) x) (2 * d + 1) y)
laid_entry row d x y s l p q =
    let low = laid_more (2 * d) x s (omega arith) (omega arith) (p ∙ sym (low_two row d)) in
    let both = laid_more (2 * d + 1) y low (omega arith) (simp length-set l) (q ∙ sym (high_two row d)) in
    let z : 2 * (d + 1) ≡ 2 * d + 1 + 1 = omega arith in
    rw z both

-- a part of the slice that holds the list now
pub put_part : (list : List ℕ) (a k : ℕ) (old : List ℕ) → k ≡ length list → a + k ≤ length old → Put list a old (put_mid a k old list)
put_part list a k old e l = record { laid = rw (sym e) (laid_part a k old list l (sym e) (λ d f. refl)) }

-- a list put into a part of the slice
pub put_within : {list : List ℕ} (a k : ℕ) (old part : List ℕ) → a + k ≤ length old → length list ≤ k → Put list 0 (take k (drop a old)) part → Put list a old (put_mid a k old part)
put_within {list} a k old part l few s = let z : a + 0 ≡ a = omega arith in record { laid = rw z at (laid_within a k 0 (length list) old part l (omega arith) s.laid) }

-- a list after a list
pub put_on : {xs ys : List ℕ} {at next : ℕ} {old mid new : List ℕ} → Put xs at old mid → Put ys next mid new → next ≡ at + length xs → Put (xs ++ ys) at old new
put_on {xs} {ys} {at} {next} {old} {mid} {new} s t e =
    record { laid = laid_on (length (xs ++ ys)) (laid_same s.laid (λ d f. sym (get_or-append xs ys 0 d f))) t.laid e (length-append xs ys) (λ d f. sym (get_or-append-add xs ys d 0)) }

-- a field is its head and its body
pub put_field : {tag size at next : ℕ} {body old mid new : List ℕ} → Put (head_of tag size) at old mid → Put body next mid new → next ≡ at + 3 → length body ≡ size → Put (field_written tag body) at old new
unfolding field_written
put_field {tag} {size} {at} {next} {body} {old} {mid} {new} s t e f = let joined : Put (head_of tag (length body) ++ body) at old new = put_on (rw (sym f) at s) t e in joined

-- at the front: the list, and what a longer slice has after it
pub put_front : {list old new : List ℕ} → Put list 0 old new → length list ≤ length old → new ≡ list ++ drop (length list) old
put_front {list} s l = laid_front list refl (λ x k. refl) s.laid l
