-- Laws of values written into a slice: none, one more, others after them, and values at the front. Assumes nothing.
use mathlib.Core.Logic.{◌⊎◌, inl, inr, ⊎_elim}
use mathlib.Core.Path.{◌≡◌, refl, sym, ap, ap₂, ◌∙◌}
use mathlib.Core.Bool.{Bool, true, false}
use mathlib.Core.List.{List, ◌++◌}
use Prim.Native.Nat.{ℕ, ◌+◌, ◌-◌, ◌*◌, ◌≤◌, ◌<◌}
use native.Mathlib.Omega.{arith}
use lib.ListN.{length, get_or, set, take, drop, length-set, length-append, length-take, length-drop, get_or-append}
use borrow.Author.Rules.{rules}
use borrow.Rule.Slice.PartMut.{put_mid}
use Rattle.std.proofs.lemmas.Slice.{overwrites}
use Rattle.std.proofs.lemmas.List.{places}
use lib.Seq.{get_or-set_same, get_or-set_other, get_or-append-add, get_or-drop, ext_get_or}
use lib.Dec.{eqb, ltb}
use borrow.Author.Tests.{ltb-true, ltb-false, eqb-true, eqb-false}
use Rattle.maps.specs.Record.{byte}
use Rattle.maps.specs.Table.{listed}
use Rattle.laws.proofs.Tables.{length_listed, get_or_listed}
use Rattle.taking.specs.Parts.{size_of, byte_from, entry_from, Laid}

pub laid_none : (value : ℕ → ℕ) (at : ℕ) (slice : List ℕ) → Laid value at 0 slice slice
laid_none value at slice = record { long = refl; written = λ d l. absurd (omega arith); kept = λ x o. refl }

-- other names for the same values
pub laid_same : {value other : ℕ → ℕ} {at m : ℕ} {old new : List ℕ} → Laid value at m old new → ((d : ℕ) → d < m → value d ≡ other d) → Laid other at m old new
laid_same s same = record { long = s.long; written = λ d l. s.written d l ∙ same d l; kept = s.kept }

-- a whole list laid, whose values are known
pub laid_whole : (list : List ℕ) {value : ℕ → ℕ} {at m : ℕ} {old new : List ℕ} → Laid (byte_from list 0) at m old new → ((d : ℕ) → d < m → get_or list d 0 ≡ value d) → Laid value at m old new
laid_whole list s same = laid_same s (λ d l. ap (byte list) (omega arith) ∙ same d l)

-- one value more
pub laid_more : {value : ℕ → ℕ} {at m : ℕ} {old new : List ℕ} (place v : ℕ) → Laid value at m old new → place ≡ at + m → place < length new → v ≡ value m → Laid value at (m + 1) old (set new place v)
laid_more {value} {at} {m} {old} {new} place v s e l q = record {
  long = simp length-set s.long;
  written = λ d f. at_place d f (eqb d m) refl;
  kept = λ x o. get_or-set_other new place x v 0 (⊎_elim (λ f. λ k. omega arith) (λ f. λ k. omega arith) o) ∙ s.kept x (⊎_elim (λ f. inl f) (λ f. inr (omega arith)) o);
}
  where
    at_place : (d : ℕ) → d < m + 1 → (b : Bool) → eqb d m ≡ b → get_or (set new place v) (at + d) 0 ≡ value d
    at_place d f true p =
        let k : d ≡ m = eqb-true d m p in
        let z : at + d ≡ place = omega arith in
        rw (z, k) (get_or-set_same new place v 0 l ∙ q)
    at_place d f false p =
        let ne : d ≡ m → ⊥ = eqb-false d m p in
        get_or-set_other new place (at + d) v 0 (λ k. omega arith) ∙ s.written d (omega arith)

-- others after them, in all `total`
pub laid_on : {value part : ℕ → ℕ} {at m next k : ℕ} {old mid new : List ℕ} (total : ℕ) → Laid value at m old mid → Laid part next k mid new → next ≡ at + m → total ≡ m + k → ((d : ℕ) → d < k → part d ≡ value (m + d)) → Laid value at total old new
laid_on {value} {part} {at} {m} {next} {k} {old} {mid} {new} total s t e all same = record {
  long = t.long ∙ s.long;
  written = λ d f. at_place d f (ltb d m) refl;
  kept = λ x o. t.kept x (⊎_elim (λ f. inl (omega arith)) (λ f. inr (omega arith)) o) ∙ s.kept x (⊎_elim (λ f. inl f) (λ f. inr (omega arith)) o);
}
  where
    at_place : (d : ℕ) → d < total → (b : Bool) → ltb d m ≡ b → get_or new (at + d) 0 ≡ value d
    at_place d f true p = let l = ltb-true d m p in t.kept (at + d) (inl (omega arith)) ∙ s.written d l
    at_place d f false p =
        let l = ltb-false d m p in
        let z : at + d ≡ next + (d - m) = omega arith in
        let y : m + (d - m) ≡ d = omega arith in
        rw z (t.written (d - m) (omega arith) ∙ same (d - m) (omega arith) ∙ ap value y)

-- a part of the slice, written anew
pub laid_part : {value : ℕ → ℕ} (at m : ℕ) (old part : List ℕ) → at + m ≤ length old → length part ≡ m → ((d : ℕ) → d < m → get_or part d 0 ≡ value d) → Laid value at m old (put_mid at m old part)
laid_part {value} at m old part l long same = record {
  long = search (rules, overwrites);
  written = λ d f. here d f ∙ same d f;
  kept = λ x o. ⊎_elim (λ f. before x f) (λ f. after x f) o;
}
  where
    here : (d : ℕ) → d < m → get_or (put_mid at m old part) (at + d) 0 ≡ get_or part d 0
    here d f = search (rules, places)

    before : (x : ℕ) → x < at → get_or (put_mid at m old part) x 0 ≡ get_or old x 0
    before x f = search (rules, places)

    after : (x : ℕ) → at + m ≤ x → get_or (put_mid at m old part) x 0 ≡ get_or old x 0
    after x f = search (rules, places)

-- values written into a part of the slice
pub laid_within : {value : ℕ → ℕ} (a k at m : ℕ) (old part : List ℕ) → a + k ≤ length old → at + m ≤ k → Laid value at m (take k (drop a old)) part → Laid value (a + at) m old (put_mid a k old part)
laid_within {value} a k at m old part l few s = record {
  long = search (rules, overwrites);
  written = λ d f. let z : a + at + d ≡ a + (at + d) = omega arith in ap (λ (x : ℕ). get_or (put_mid a k old part) x 0) z ∙ here (at + d) (omega arith) ∙ s.written d f;
  kept = λ x o. go x (ltb x a) refl (ltb x (a + k)) refl o;
}
  where
    long : length part ≡ k
    long = s.long ∙ simp (length-take, length-drop) (omega arith)

    here : (d : ℕ) → d < k → get_or (put_mid a k old part) (a + d) 0 ≡ get_or part d 0
    here d f = search (rules, places)

    was : (d : ℕ) → d < k → get_or (take k (drop a old)) d 0 ≡ get_or old (a + d) 0
    was d f = search (rules, places)

    before : (x : ℕ) → x < a → get_or (put_mid a k old part) x 0 ≡ get_or old x 0
    before x f = search (rules, places)

    after : (x : ℕ) → a + k ≤ x → get_or (put_mid a k old part) x 0 ≡ get_or old x 0
    after x f = search (rules, places)

    inside : (d : ℕ) → d < k → (d < at) ⊎ (at + m ≤ d) → get_or (put_mid a k old part) (a + d) 0 ≡ get_or old (a + d) 0
    inside d f o = here d f ∙ s.kept d o ∙ was d f

    go : (x : ℕ) (p : Bool) → ltb x a ≡ p → (q : Bool) → ltb x (a + k) ≡ q → (x < a + at) ⊎ (a + at + m ≤ x) → get_or (put_mid a k old part) x 0 ≡ get_or old x 0
    go x true e q f o = before x (ltb-true x a e)
    go x false e false f o = after x (ltb-false x (a + k) f)
    go x false e true f o =
        let low = ltb-false x a e in
        let high = ltb-true x (a + k) f in
        let z : a + (x - a) ≡ x = omega arith in
        rw z at (inside (x - a) (omega arith) (⊎_elim (λ g. inl (omega arith)) (λ g. inr (omega arith)) o))

-- the bytes and the entries of a part of a record
part_byte : (bytes : List ℕ) (from k i : ℕ) → i < k → byte (take k (drop from bytes)) i ≡ byte bytes (from + i)
part_byte bytes from k i l = search (rules, places)

pub part_entry : (bytes : List ℕ) (one : Bool) (from N k d : ℕ) → k ≡ size_of N one → d < N → entry_from (take k (drop from bytes)) one 0 d ≡ entry_from bytes one from d
part_entry bytes true from N k d e l = let z : 0 + d ≡ d = omega arith in rw z (part_byte bytes from k d (omega arith))
part_entry bytes false from N k d e l =
    let z : 0 + 2 * d ≡ 2 * d = omega arith in
    let y : from + (2 * d + 1) ≡ from + 2 * d + 1 = omega arith in
    rw z (ap₂ (λ (x y : ℕ). x + 256 * y) (part_byte bytes from k (2 * d) (omega arith)) (part_byte bytes from k (2 * d + 1) (omega arith) ∙ ap (byte bytes) y))

-- at the front: a list of these values, and what a longer slice has after it
pub laid_front : {value : ℕ → ℕ} {m : ℕ} {old new : List ℕ} (list : List ℕ) → length list ≡ m → ((x : ℕ) → x < m → get_or list x 0 ≡ value x) → Laid value 0 m old new → m ≤ length old → new ≡ list ++ drop m old
laid_front {value} {m} {old} {new} list long same s l =
    ext_get_or 0 new (list ++ drop m old) (s.long ∙ sym (simp (length-append, length-drop) (omega arith))) (λ x f. at_place x (ltb x m) refl)
  where
    at_place : (x : ℕ) (b : Bool) → ltb x m ≡ b → get_or new x 0 ≡ get_or (list ++ drop m old) x 0
    at_place x true p =
        let k = ltb-true x m p in
        let z : x ≡ 0 + x = omega arith in
        ap (λ (y : ℕ). get_or new y 0) z ∙ s.written x k ∙ sym (get_or-append list (drop m old) 0 x (omega arith) ∙ same x k)
    at_place x false p =
        let k = ltb-false x m p in
        let z : x ≡ length list + (x - m) = omega arith in
        let y : m + (x - m) ≡ x = omega arith in
        s.kept x (inr (omega arith))
        ∙ sym (ap (λ (q : ℕ). get_or (list ++ drop m old) q 0) z ∙ get_or-append-add list (drop m old) (x - m) 0 ∙ get_or-drop m old (x - m) 0 ∙ ap (λ (q : ℕ). get_or old q 0) y)

pub laid_listed : {value : ℕ → ℕ} {m : ℕ} {old new : List ℕ} → Laid value 0 m old new → m ≤ length old → new ≡ listed value m ++ drop m old
laid_listed {value} {m} s l = laid_front (listed value m) (length_listed value m) (λ x k. get_or_listed value m x 0 k) s l

-- a whole list laid into a slice of its length
pub laid_all : {old new : List ℕ} (list : List ℕ) → Laid (byte_from list 0) 0 (length list) old new → length old ≡ length list → new ≡ list
laid_all {old} {new} list s e =
    ext_get_or 0 new list (s.long ∙ e) (λ x f. let z : 0 + x ≡ x = omega arith in ap (λ (y : ℕ). get_or new y 0) (sym z) ∙ s.written x (omega (arith, s.long)) ∙ ap (byte list) z)
