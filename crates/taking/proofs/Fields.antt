-- Laws of what a field is written as: lengths, and the two bytes of a number. Assumes nothing.
use mathlib.Core.Path.{◌≡◌, refl, sym, ap, ◌∙◌}
use mathlib.Core.Bool.{Bool, true, false}
use mathlib.Core.List.{List, [], ◌∷◌}
use Prim.Native.Nat.{ℕ, zero, suc, ◌+◌, ◌*◌, ◌/◌, ◌%◌, ◌≤◌, ◌<◌}
use native.Mathlib.Nat.{mul-le-mul_right, suc-mul, zero-mul}
use native.Mathlib.Omega.{arith}
use lib.Dec.{eqb}
use borrow.Author.Tests.{eqb-true, eqb-false}
use lib.ListN.{length, get_or, take, drop, length-append, length-take, length-drop}
use Rattle.maps.specs.Write.{field_written, in_two_bytes, row_of, rows_written}

pub length_field : (tag : ℕ) (body : List ℕ) → length (field_written tag body) ≡ 3 + length body
unfolding field_written
length_field tag body = omega arith

pub length_two : (xs : List ℕ) → length (in_two_bytes xs) ≡ 2 * length xs
unfolding in_two_bytes
length_two [] = refl
length_two (x ∷ xs) = omega (arith, length_two xs)

-- the two bytes of number d
pub low_two : (xs : List ℕ) (d : ℕ) → get_or (in_two_bytes xs) (2 * d) 0 ≡ get_or xs d 0 % 256
unfolding in_two_bytes
low_two [] d = refl
low_two (x ∷ xs) zero = refl
low_two (x ∷ xs) (suc d) = let e : 2 * suc d ≡ suc (suc (2 * d)) = omega arith in rw e (low_two xs d)

pub high_two : (xs : List ℕ) (d : ℕ) → get_or (in_two_bytes xs) (2 * d + 1) 0 ≡ get_or xs d 0 / 256
unfolding in_two_bytes
high_two [] d = refl
high_two (x ∷ xs) zero = refl
high_two (x ∷ xs) (suc d) = let e : 2 * suc d + 1 ≡ suc (suc (2 * d + 1)) = omega arith in rw e (high_two xs d)

-- where a list is a part of another, so are the two bytes of its numbers
pub two_like : (xs ys : List ℕ) (from n : ℕ) → ((d : ℕ) → d < n → get_or xs d 0 ≡ get_or ys (from + d) 0) → (i : ℕ) → i < 2 * n → get_or (in_two_bytes xs) i 0 ≡ get_or (in_two_bytes ys) (2 * from + i) 0
two_like xs ys from n same i l = go (eqb (i % 2) 0) refl
  where
    go : (b : Bool) → eqb (i % 2) 0 ≡ b → get_or (in_two_bytes xs) i 0 ≡ get_or (in_two_bytes ys) (2 * from + i) 0
    go true e =
        let even = eqb-true (i % 2) 0 e in
        let z : i ≡ 2 * (i / 2) = omega arith in
        let y : 2 * from + i ≡ 2 * (from + i / 2) = omega arith in
        ap (λ (x : ℕ). get_or (in_two_bytes xs) x 0) z ∙ low_two xs (i / 2) ∙ ap (λ (x : ℕ). x % 256) (same (i / 2) (omega arith)) ∙ sym (low_two ys (from + i / 2)) ∙ ap (λ (x : ℕ). get_or (in_two_bytes ys) x 0) (sym y)
    go false e =
        let odd = eqb-false (i % 2) 0 e in
        let r : i % 2 ≡ 1 = omega (arith, odd) in
        let z : i ≡ 2 * (i / 2) + 1 = omega arith in
        let y : 2 * from + i ≡ 2 * (from + i / 2) + 1 = omega arith in
        ap (λ (x : ℕ). get_or (in_two_bytes xs) x 0) z ∙ high_two xs (i / 2) ∙ ap (λ (x : ℕ). x / 256) (same (i / 2) (omega arith)) ∙ sym (high_two ys (from + i / 2)) ∙ ap (λ (x : ℕ). get_or (in_two_bytes ys) x 0) (sym y)

module _ (n N : ℕ) (rows : List ℕ) (rows-length : length rows ≡ suc n * N) where
  pub row_length : (i : ℕ) → i ≤ n → length (in_two_bytes (row_of N rows i)) ≡ 2 * N
  unfolding row_of
  row_length i l =
      let m : suc i * N ≤ suc n * N = mul-le-mul_right N (omega arith) in
      let k = suc-mul i N in
      let e : length (take N (drop (i * N) rows)) ≡ N = simp (length-take, length-drop) (omega arith) in
      length_two (take N (drop (i * N) rows)) ∙ ap (λ (x : ℕ). 2 * x) e

  pub rows_written_lem : (m : ℕ) → m ≤ suc n → length (rows_written N rows m) ≡ m * (3 + 2 * N)
  unfolding rows_written
  rows_written_lem zero l = sym (zero-mul (3 + 2 * N))
  rows_written_lem (suc m) l =
      let body = in_two_bytes (row_of N rows m) in
      omega (arith, length-append (rows_written N rows m) (field_written (0x10 + m) body), length_field (0x10 + m) body, row_length m (omega arith), rows_written_lem m (omega arith), suc-mul m (3 + 2 * N))
