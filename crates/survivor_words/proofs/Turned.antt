-- Laws of 64 bits in one number: masks, shifts, and rows and columns of 8 times 8 bits exchanged. Assumes nothing.
use mathlib.Core.Path.{◌≡◌, refl, sym, ap, ap₂, ◌∙◌}
use mathlib.Core.Bool.{Bool, true, false, cond, ◌&&◌}
use Prim.Native.Nat.{ℕ, zero, suc, ◌+◌, ◌-◌, ◌*◌, ◌/◌, ◌%◌, ◌^◌}
use native.Mathlib.Nat.{add_comm, add-zero, add-suc, add-mul, mul_comm}
use native.Mathlib.Omega.{arith}
use lib.Dec.{eqb}
use lib.Pow.{pow-add, high}
use lib.Bits.{bit_and, and_block}
use Rattle.maps.specs.Count.{one, sum}
use Rattle.survivor_words.specs.Parts.{lanes, stack_of, word_bits}
use Rattle.survivor_words.proofs.Ones.{digit, digits_lt}

and_one : (a b : Bool) → bit_and (one a) (one b) ≡ one (b && a)
and_one true true = refl
and_one true false = refl
and_one false true = refl
and_one false false = refl

-- a mask keeps the digits that it has
and_digits : (s r : ℕ → Bool) (m : ℕ) → bit_and (sum (digit s) m) (sum (digit r) m) ≡ sum (digit (λ p. r p && s p)) m
unfolding sum
and_digits s r zero = refl
and_digits s r (suc m) =
    ap₂ bit_and (add_comm (sum (digit s) m) (digit s m)) (add_comm (sum (digit r) m) (digit r m))
    ∙ and_block m (one (s m)) (one (r m)) (sum (digit s) m) (sum (digit r) m) (digits_lt s m) (digits_lt r m)
    ∙ ap₂ (λ (x y : ℕ). x * 2 ^ m + y) (and_one (s m) (r m)) (and_digits s r m)
    ∙ add_comm (one (r m && s m) * 2 ^ m) (sum (digit (λ p. r p && s p)) m)

-- the digits from place c on, and those below
digits_split : (s : ℕ → Bool) (c m : ℕ) → sum (digit s) (c + m) ≡ sum (digit (λ p. s (c + p))) m * 2 ^ c + sum (digit s) c
unfolding sum
digits_split s c zero = ap (sum (digit s)) (add-zero c) ∙ omega arith
digits_split s c (suc m) = ap (sum (digit s)) (add-suc c m) ∙ go (s (c + m)) (digits_split s c m)
  where
    go : (t : Bool) → sum (digit s) (c + m) ≡ sum (digit (λ p. s (c + p))) m * 2 ^ c + sum (digit s) c
        → sum (digit s) (c + m) + one t * 2 ^ (c + m) ≡ (sum (digit (λ p. s (c + p))) m + one t * 2 ^ m) * 2 ^ c + sum (digit s) c
    go true h = omega (arith, pow-add 2 c m, add-mul (sum (digit (λ p. s (c + p))) m) (1 * 2 ^ m) (2 ^ c), mul_comm (2 ^ m) (2 ^ c))
    go false h = omega arith

shift_digits : (s : ℕ → Bool) (c m : ℕ) → sum (digit s) (c + m) / 2 ^ c ≡ sum (digit (λ p. s (c + p))) m
shift_digits s c m = ap (λ (x : ℕ). x / 2 ^ c) (digits_split s c m) ∙ high (sum (digit (λ p. s (c + p))) m) c (digits_lt s c)

-- the digits of a number
has : ℕ → ℕ → Bool
has x p = eqb (x / 2 ^ p % 2) 1

-- a mask stays, another is exchanged with what is c places higher
abbrev pub step : ℕ → ℕ → ℕ → ℕ → ℕ
step c stay up x = bit_and x stay + bit_and x up * 2 ^ c + bit_and (x / 2 ^ c) up

-- where a digit comes from: those of the mask are exchanged with those c places higher
from : ℕ → ℕ → ℕ → ℕ
from c up p = cond (has up p) (p + c) (cond (has (up * 2 ^ c) p) (p - c) p)

module _ (s : ℕ → Bool) (c m stay up : ℕ) where
  -- one exchange, as the masks and shifts make it, of a number with these digits
  exchanged : c + m ≡ 64 → stay ≡ sum (digit (has stay)) 64 → up ≡ sum (digit (has up)) 64 → up ≡ sum (digit (has up)) m
      → step c stay up (sum (digit s) 64) ≡ sum (digit (λ p. has stay p && s p)) 64 + sum (digit (λ p. has up p && s p)) 64 * 2 ^ c + sum (digit (λ p. has up p && s (c + p))) m
  exchanged e a b d =
      let x = sum (digit s) 64 in
      let q = ap (λ (k : ℕ). sum (digit s) k / 2 ^ c) (sym e) ∙ shift_digits s c m in
      let f = ap (bit_and x) a ∙ and_digits s (has stay) 64 in
      let g = ap (bit_and x) b ∙ and_digits s (has up) 64 in
      let h = ap₂ bit_and q d ∙ and_digits (λ p. s (c + p)) (has up) m in
      ap₂ (λ (y z : ℕ). y + z) (ap₂ (λ (y z : ℕ). y + z * 2 ^ c) f g) h

-- the three exchanges
by_two : (s : ℕ → Bool) → step 7 0xAA55AA55AA55AA55 0x00AA00AA00AA00AA (sum (digit s) 64) ≡ sum (digit (λ p. s (from 7 0x00AA00AA00AA00AA p))) 64
unfolding sum has from
by_two s = exchanged s 7 57 0xAA55AA55AA55AA55 0x00AA00AA00AA00AA refl refl refl refl ∙ omega arith

by_four : (s : ℕ → Bool) → step 14 0xCCCC3333CCCC3333 0x0000CCCC0000CCCC (sum (digit s) 64) ≡ sum (digit (λ p. s (from 14 0x0000CCCC0000CCCC p))) 64
unfolding sum has from
by_four s = exchanged s 14 50 0xCCCC3333CCCC3333 0x0000CCCC0000CCCC refl refl refl refl ∙ omega arith

by_eight : (s : ℕ → Bool) → step 28 0xF0F0F0F00F0F0F0F 0xF0F0F0F0 (sum (digit s) 64) ≡ sum (digit (λ p. s (from 28 0xF0F0F0F0 p))) 64
unfolding sum has from
by_eight s = exchanged s 28 36 0xF0F0F0F00F0F0F0F 0xF0F0F0F0 refl refl refl refl ∙ omega arith

-- rows of a stack are columns of a word
rows : (t : ℕ → Bool) → ℕ → Bool
rows t p = t (8 * (p % 8) + p / 8)

stack_digits : (t : ℕ → Bool) → stack_of t 8 ≡ sum (digit (rows t)) 64
unfolding sum stack_of lanes rows
stack_digits t = omega arith

word_digits : (t : ℕ → Bool) → sum (digit (λ p. rows t (from 7 0x00AA00AA00AA00AA (from 14 0x0000CCCC0000CCCC (from 28 0xF0F0F0F0 p))))) 64 ≡ word_bits t
unfolding sum word_bits rows has from
word_digits t = refl

-- a stack turned is a word
pub turned_stack : (t : ℕ → Bool) (x : ℕ) → x ≡ stack_of t 8
    → step 28 0xF0F0F0F00F0F0F0F 0xF0F0F0F0 (step 14 0xCCCC3333CCCC3333 0x0000CCCC0000CCCC (step 7 0xAA55AA55AA55AA55 0x00AA00AA00AA00AA x)) ≡ word_bits t
turned_stack t x e =
    let s = rows t in
    let a = ap (step 7 0xAA55AA55AA55AA55 0x00AA00AA00AA00AA) (e ∙ stack_digits t) ∙ by_two s in
    let b = ap (step 14 0xCCCC3333CCCC3333 0x0000CCCC0000CCCC) a ∙ by_four (λ p. s (from 7 0x00AA00AA00AA00AA p)) in
    let d = ap (step 28 0xF0F0F0F00F0F0F0F 0xF0F0F0F0) b ∙ by_eight (λ p. s (from 7 0x00AA00AA00AA00AA (from 14 0x0000CCCC0000CCCC p))) in
    d ∙ word_digits t
