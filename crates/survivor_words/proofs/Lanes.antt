-- Laws of eight bytes in one number: sums and masks go byte by byte, and how rows of eight are stacked. Assumes nothing.
use mathlib.Core.Path.{◌≡◌, refl, sym, ap, ap₂, ◌∙◌}
use mathlib.Core.Bool.{Bool, true, false, not}
use mathlib.Core.List.{List}
use Prim.Native.Nat.{ℕ, zero, suc, ◌+◌, ◌-◌, ◌*◌, ◌/◌, ◌%◌, ◌^◌, ◌≤◌, ◌<◌}
use native.Mathlib.Nat.{add_comm, add-mul, mul_assoc, mul-le-mul_right, pow-suc}
use native.Mathlib.Numerals.{add-one}
use native.Mathlib.Omega.{arith}
use lib.Dec.{ltb}
use lib.ListN.{length, take, drop}
use lib.Seq.{get_or-drop, get_or-take}
use lib.Pow.{pow-add}
use lib.Bits.{bit_and, and_block, and_high, shifted_half}
use borrow.Author.Tests.{ltb-true, ltb-false, lt-ltb}
use Rattle.maps.specs.Count.{one, sum}
use Rattle.maps.specs.Folded.{survives}
use Rattle.maps.specs.Survivors.{bit, word}
use Rattle.maps.specs.Table.{each}
use Rattle.laws.proofs.Counting.{sum_same}
use Rattle.survivor_words.specs.Parts.{lanes, stack_of, word_bits}

-- byte k of a number
abbrev lane : (ℕ → ℕ) → ℕ → ℕ
lane v k = v k * 2 ^ (8 * k)

lanes_lt : (v : ℕ → ℕ) (m : ℕ) → ((k : ℕ) → k < m → v k < 256) → sum (lane v) m < 2 ^ (8 * m)
unfolding sum
lanes_lt v zero h = omega arith
lanes_lt v (suc m) h =
    let e : 8 * suc m ≡ 8 + 8 * m = omega arith in
    let f : 2 ^ (8 * suc m) ≡ 256 * 2 ^ (8 * m) = ap (λ (x : ℕ). 2 ^ x) e ∙ pow-add 2 8 (8 * m) in
    let b : v m ≤ 255 = omega (arith, h m (omega arith)) in
    omega (arith, mul-le-mul_right (2 ^ (8 * m)) b, lanes_lt v m (λ k l. h k (omega arith)))

and_lanes : (v u : ℕ → ℕ) (m : ℕ) → ((k : ℕ) → k < m → v k < 256) → ((k : ℕ) → k < m → u k < 256)
    → bit_and (sum (lane v) m) (sum (lane u) m) ≡ sum (lane (λ k. bit_and (v k) (u k))) m
unfolding sum
and_lanes v u zero h g = refl
and_lanes v u (suc m) h g =
    let hh : (k : ℕ) → k < m → v k < 256 = λ k l. h k (omega arith) in
    let gg : (k : ℕ) → k < m → u k < 256 = λ k l. g k (omega arith) in
    ap₂ bit_and (add_comm (sum (lane v) m) (lane v m)) (add_comm (sum (lane u) m) (lane u m))
    ∙ and_block (8 * m) (v m) (u m) (sum (lane v) m) (sum (lane u) m) (lanes_lt v m hh) (lanes_lt u m gg)
    ∙ ap (λ (x : ℕ). bit_and (v m) (u m) * 2 ^ (8 * m) + x) (and_lanes v u m hh gg)
    ∙ add_comm (bit_and (v m) (u m) * 2 ^ (8 * m)) (sum (lane (λ k. bit_and (v k) (u k))) m)

lanes_same : (v u : ℕ → ℕ) → ((k : ℕ) → k < 8 → v k ≡ u k) → lanes v ≡ lanes u
unfolding lanes
lanes_same v u h = sum_same (lane v) (lane u) 8 (λ k l. ap (λ (x : ℕ). x * 2 ^ (8 * k)) (h k l))

-- a number more in every byte
lanes_add : (v : ℕ → ℕ) (b : ℕ) → lanes v + b * 0x0101010101010101 ≡ lanes (λ k. v k + b)
unfolding sum lanes
lanes_add v b = omega arith

lanes_times : (v : ℕ → ℕ) → lanes (λ k. v k * 128) ≡ lanes v * 128
unfolding sum lanes
lanes_times v = omega arith

high_bytes : 0x8080808080808080 ≡ sum (lane (λ k. 128)) 8
unfolding sum
high_bytes = refl

-- the sum reaches 128 where the number is on the level
sign : (x l : ℕ) → x ≤ 32 → l ≤ 32 → bit_and (x + (128 - l)) 128 ≡ one (not (ltb x l)) * 128
sign x l h g = and_high (x + (128 - l)) 1 7 ∙ go (ltb x l) refl
  where
    go : (b : Bool) → ltb x l ≡ b → ((x + (128 - l)) / 128 % 2) * 128 ≡ one (not b) * 128
    go true e = let f = ltb-true x l e in omega arith
    go false e = let f = ltb-false x l e in omega arith

module _ (x : ℕ → ℕ) (l : ℕ) (h : (k : ℕ) → k < 8 → x k ≤ 32) (g : l ≤ 32) where
  -- the signs of eight bytes at once
  pub signs : bit_and (lanes x + (128 - l) * 0x0101010101010101) 0x8080808080808080 ≡ lanes (λ k. one (not (ltb (x k) l))) * 128
  unfolding lanes
  signs =
      let v : ℕ → ℕ = λ k. x k + (128 - l) in
      ap₂ bit_and (lanes_add x (128 - l)) high_bytes
      ∙ and_lanes v (λ k. 128) 8 (λ k f. omega (arith, h k f)) (λ k f. omega arith)
      ∙ lanes_same (λ k. bit_and (v k) 128) (λ k. one (not (ltb (x k) l)) * 128) (λ k f. sign (x k) l (h k f) g)
      ∙ lanes_times (λ k. one (not (ltb (x k) l)))

  -- the sum is no more than a byte holds
  pub lanes_fit : lanes x + (128 - l) * 0x0101010101010101 < 2 ^ 64
  unfolding lanes
  lanes_fit = rw (lanes_add x (128 - l)) (lanes_lt (λ k. x k + (128 - l)) 8 (λ k f. omega (arith, h k f)))

-- one row more on a stack
stack_more : (t : ℕ → Bool) (j i s y : ℕ) → j + i ≡ 7 → s ≡ stack_of t j * 2 ^ suc i → y ≡ lanes (λ k. one (t (8 * j + k))) * 128
    → s / 2 + y ≡ stack_of t (j + 1) * 2 ^ i
unfolding sum stack_of
stack_more t j i s y e f g =
    let r = lanes (λ k. one (t (8 * j + k))) in
    let p : 128 ≡ 2 ^ j * 2 ^ i = ap (λ (x : ℕ). 2 ^ x) (sym e) ∙ pow-add 2 j i in
    let a : s / 2 ≡ stack_of t j * 2 ^ i = ap (λ (x : ℕ). x / 2) f ∙ shifted_half (stack_of t j) i in
    let b : y ≡ r * 2 ^ j * 2 ^ i = g ∙ ap (λ (x : ℕ). r * x) p ∙ sym (mul_assoc r (2 ^ j) (2 ^ i)) in
    ap₂ (λ (x z : ℕ). x + z) a b ∙ sym (add-mul (stack_of t j) (r * 2 ^ j) (2 ^ i)) ∙ ap (λ (x : ℕ). stack_of t x * 2 ^ i) (sym (add-one j))

one_le : (b : Bool) → one b ≤ 1
one_le true = omega arith
one_le false = omega arith

-- eight bits are no more than eight ones
lanes_ones : (t : ℕ → Bool) → lanes (λ k. one (t k)) ≤ 0x0101010101010101
unfolding sum lanes
lanes_ones t = omega (arith, one_le (t 0), one_le (t 1), one_le (t 2), one_le (t 3), one_le (t 4), one_le (t 5), one_le (t 6), one_le (t 7))

-- a stack of fewer than eight rows has room for one more
stack_room : (i s y : ℕ) → s + 0x0101010101010101 * 2 ^ suc i ≤ 0x0101010101010101 * 256 → y ≤ 0x0101010101010101 → s / 2 + y * 128 + 0x0101010101010101 * 2 ^ i ≤ 0x0101010101010101 * 256
stack_room i s y h g = omega (arith, pow-suc 2 i)

-- what a part from place s on has at place k
pub part_each : (xs : List ℕ) (s k : ℕ) → s + k < length xs → each (take (length xs - s) (drop s xs)) k ≡ each xs (s + k)
part_each xs s k h = let f : k < length xs - s = omega arith in rw (get_or-take, get_or-drop)

-- eight signs of a part are a row of the whole
lanes_part : (xs : List ℕ) (s l : ℕ) → s + 8 ≤ length xs
    → lanes (λ k. one (survives (each (take (length xs - s) (drop s xs))) l k)) ≡ lanes (λ k. one (survives (each xs) l (s + k)))
lanes_part xs s l h = lanes_same (λ k. one (survives (each (take (length xs - s) (drop s xs))) l k)) (λ k. one (survives (each xs) l (s + k))) (λ k f. rw (part_each xs s k (omega arith)))

-- one row more of a part on a stack: it has room, and is the next
module _ (xs : List ℕ) (l j s : ℕ) (few : j < 8) (long : 8 * j + 8 ≤ length xs) (low : s + 0x0101010101010101 * 2 ^ (8 - j) ≤ 0x0101010101010101 * 256)
    {y : ℕ} (signs_are : y ≡ lanes (λ k. one (survives (each (take (length xs - 8 * j) (drop (8 * j) xs))) l k)) * 128) where
  row_is : y ≡ lanes (λ k. one (survives (each xs) l (8 * j + k))) * 128
  row_is = signs_are ∙ ap (λ (x : ℕ). x * 128) (lanes_part xs (8 * j) l long)

  left : 8 - j ≡ suc (7 - j)
  left = omega arith

  pub row_room : s / 2 + y + 0x0101010101010101 * 2 ^ (7 - j) ≤ 0x0101010101010101 * 256
  row_room = rw row_is (stack_room (7 - j) s (lanes (λ k. one (survives (each xs) l (8 * j + k)))) (rw left at low) (lanes_ones (λ k. survives (each xs) l (8 * j + k))))

  pub row_more : s ≡ stack_of (survives (each xs) l) j * 2 ^ (8 - j) → s / 2 + y ≡ stack_of (survives (each xs) l) (j + 1) * 2 ^ (7 - j)
  row_more e = stack_more (survives (each xs) l) j (7 - j) s y (omega arith) (rw left at e) row_is

-- 64 bits of a part
pub bits_part : (xs : List ℕ) (s l : ℕ) → s + 64 ≤ length xs → word_bits (survives (each (take (length xs - s) (drop s xs))) l) ≡ word_bits (λ b. survives (each xs) l (s + b))
unfolding word_bits
bits_part xs s l h = sum_same (λ b. one (survives (each (take (length xs - s) (drop s xs))) l b) * 2 ^ b) (λ b. one (survives (each xs) l (s + b)) * 2 ^ b) 64 (λ b f. rw (part_each xs s b (omega arith)))

-- a word of which no dart is missing
pub full_bits : (N : ℕ) (Λ : ℕ → ℕ) (l w : ℕ) → w * 64 + 64 ≤ N → word_bits (λ b. survives Λ l (w * 64 + b)) ≡ word N Λ l w
unfolding word_bits word
full_bits N Λ l w h = sum_same (λ b. one (survives Λ l (w * 64 + b)) * 2 ^ b) (λ b. one (bit N Λ l w b) * 2 ^ b) 64 (λ b f. rw (lt-ltb (w * 64 + b) N (omega arith)))
