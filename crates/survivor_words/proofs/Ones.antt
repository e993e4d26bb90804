-- Laws of binary digits: the number that has digit b set where a test holds, its ones, and the darts of 64 words. Assumes nothing.
use mathlib.Core.Path.{◌≡◌, refl, sym, ap, ◌∙◌}
use mathlib.Core.Bool.{Bool, true, false, ◌&&◌}
use mathlib.Core.List.{List}
use Prim.Native.Nat.{ℕ, zero, suc, ◌+◌, ◌-◌, ◌*◌, ◌%◌, ◌^◌, ◌≤◌, ◌<◌}
use native.Mathlib.Nat.{pow-suc, add-zero, add-suc, suc-mul}
use native.Mathlib.Numerals.{add-one}
use native.Mathlib.Omega.{arith}
use lib.Count.{ones, ones_in, ones_cat, ones-le}
use lib.Dec.{ltb}
use lib.Pow.{shl_exact}
use lib.Bits.{bit_or, or_shifted_r}
use borrow.Author.Tests.{le-ltb, lt-ltb}
use Rattle.maps.specs.Count.{one, count, sum}
use Rattle.maps.specs.Folded.{survives, survivors}
use Rattle.maps.specs.Table.{each}
use Rattle.maps.specs.Survivors.{bit, word}
use Rattle.laws.proofs.Counting.{count_add, count_same, sum_same}

-- digit b is set where the test holds of b
abbrev pub digit : (ℕ → Bool) → ℕ → ℕ
digit p b = one (p b) * 2 ^ b

ones_one : (t : Bool) → ones (one t) ≡ one t
unfolding ones ones_in
ones_one true = refl
ones_one false = refl

module _ (p : ℕ → Bool) where
  pub digits_lt : (m : ℕ) → sum (digit p) m < 2 ^ m
  unfolding sum
  digits_lt zero = omega arith
  digits_lt (suc m) = go (p m) (digits_lt m)
    where
      go : (t : Bool) → sum (digit p) m < 2 ^ m → sum (digit p) m + one t * 2 ^ m < 2 ^ suc m
      go true h = omega (arith, pow-suc 2 m)
      go false h = omega (arith, pow-suc 2 m)

  -- one digit more, set by `|` and `<<`, or left
  pub digit_set : (b x : ℕ) → b < 64 → x ≡ sum (digit p) b → p b ≡ true → bit_or x ((1 * 2 ^ b) % 2 ^ 64) ≡ sum (digit p) (b + 1)
  unfolding sum
  digit_set b x h e t =
      let l : x < 2 ^ b = omega (arith, digits_lt b) in
      ap (bit_or x) (shl_exact {a = 1} 1 b 64 (omega arith) (omega arith)) ∙ or_shifted_r 1 b x l
      ∙ rw (add-one, t) (omega arith)

  pub digit_left : (b x : ℕ) → x ≡ sum (digit p) b → p b ≡ false → x ≡ sum (digit p) (b + 1)
  unfolding sum
  digit_left b x e t = rw (add-one, t) (omega arith)

  -- the ones of the number are as many as the places where the test holds
  ones_digits : (m : ℕ) → ones (sum (digit p) m) ≡ count p m
  unfolding sum count ones ones_in
  ones_digits zero = refl
  ones_digits (suc m) = go (p m) (ones_digits m)
    where
      go : (t : Bool) → ones (sum (digit p) m) ≡ count p m → ones (sum (digit p) m + one t * 2 ^ m) ≡ count p m + one t
      go t h =
          let e : sum (digit p) m + one t * 2 ^ m ≡ one t * 2 ^ m + sum (digit p) m = omega arith in
          ap ones e ∙ ones_cat m (one t) (sum (digit p) m) (digits_lt m) ∙ omega (arith, ones_one t, h)

  -- no digit is set from place m on
  pub digits_past : (m more : ℕ) → ((b : ℕ) → m ≤ b → b < m + more → p b ≡ false) → sum (digit p) (m + more) ≡ sum (digit p) m
  unfolding sum
  digits_past m zero h = ap (sum (digit p)) (add-zero m)
  digits_past m (suc more) h = rw (add-suc, h (m + more) (omega arith) (omega arith)) (omega (arith, digits_past m more (λ b f g. h b f (omega arith))))

  count_none : (m : ℕ) → ((d : ℕ) → p d ≡ false) → count p m ≡ 0
  unfolding count
  count_none zero h = refl
  count_none (suc m) h = rw (h m) (omega (arith, count_none m h))

  -- the places of words of 64, word after word
  count_zero : count p 0 ≡ 0
  unfolding count
  count_zero = refl

  count_words : (m : ℕ) → sum (λ w. count (λ b. p (w * 64 + b)) 64) m ≡ count p (m * 64)
  unfolding sum
  count_words zero = sym count_zero
  count_words (suc m) = omega (arith, count_words m, count_add p (m * 64) 64, ap (count p) (suc-mul m 64))

-- the places below N where q holds, among more of them
count_below : (q : ℕ → Bool) (N more : ℕ) → count (λ d. ltb d N && q d) (N + more) ≡ count q N
count_below q N more =
    let p : ℕ → Bool = λ d. ltb d N && q d in
    let e = count_add p N more in
    let f = count_same p q N (λ d l. rw (lt-ltb d N l)) in
    let g = count_none (λ d. p (N + d)) more (λ d. rw (le-ltb (N + d) N (omega arith))) in
    omega arith

module _ (N h : ℕ) (lambda : List ℕ) (l : ℕ) (words : List ℕ) where
  -- a word has at most 64 ones
  pub word_few : (w : ℕ) → ones (word N (each lambda) l w) ≤ 64
  unfolding word
  word_few w = ones-le 64 (word N (each lambda) l w) (digits_lt (bit N (each lambda) l w) 64)

  -- the ones in the words are as many as the survivors
  pub words_count : N ≤ 4096 → sum (λ w. ones (word N (each lambda) l w)) 64 ≡ survivors N (each lambda) l
  unfolding word
  words_count f =
      let q = survives (each lambda) l in
      let p : ℕ → Bool = λ d. ltb d N && q d in
      let all : 64 * 64 ≡ N + (4096 - N) = omega arith in
      sum_same (λ w. ones (word N (each lambda) l w)) (λ w. count (bit N (each lambda) l w) 64) 64 (λ w k. ones_digits (bit N (each lambda) l w) 64)
      ∙ count_words p 64 ∙ ap (count p) all ∙ count_below q N (4096 - N)
