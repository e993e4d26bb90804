-- Laws of choices: every row, every row but one or two, and the same choice for every dart. Assumes nothing.
use mathlib.Core.Path.{◌≡◌, refl, ap}
use mathlib.Core.Bool.{true, not}
use Prim.Native.Nat.{ℕ, zero, suc, ◌-◌, ◌*◌, ◌^◌, ◌%◌, ◌≤◌, ◌<◌}
use native.Mathlib.Omega.{arith}
use lib.ListN.{replicate, get_or-replicate}
use lib.Dec.{eqb, lit≤}
use Rattle.maps.specs.Parts.{besides}
use Rattle.orbits.specs.Choices.{uses, chosen}

-- what holds of the numbers 0 to 4 holds of each number below 5
five : (P : ℕ → Type 0) → P 0 → P 1 → P 2 → P 3 → P 4 → (x : ℕ) → x < 5 → P x
five P a b c d e zero l = a
five P a b c d e (suc zero) l = b
five P a b c d e (suc (suc zero)) l = c
five P a b c d e (suc (suc (suc zero))) l = d
five P a b c d e (suc (suc (suc (suc zero)))) l = e
five P a b c d e (suc (suc (suc (suc (suc x))))) l = absurd (omega arith)

-- the bit of a row, as the code shifts it
pub bit_low : (row : ℕ) → row < 5 → 1 * 2 ^ row % 256 ≤ 31
bit_low = five (λ i. 1 * 2 ^ i % 256 ≤ 31) (lit≤ tt) (lit≤ tt) (lit≤ tt) (lit≤ tt) (lit≤ tt)

pub all_but : (row : ℕ) → row < 5 → (j : ℕ) → j < 5 → uses (31 - 1 * 2 ^ row % 256) j ≡ not (eqb j row)
unfolding uses
all_but =
    five (λ i. (j : ℕ) → j < 5 → uses (31 - 1 * 2 ^ i % 256) j ≡ not (eqb j i))
    (five (λ j. uses 30 j ≡ not (eqb j 0)) refl refl refl refl refl)
    (five (λ j. uses 29 j ≡ not (eqb j 1)) refl refl refl refl refl)
    (five (λ j. uses 27 j ≡ not (eqb j 2)) refl refl refl refl refl)
    (five (λ j. uses 23 j ≡ not (eqb j 3)) refl refl refl refl refl)
    (five (λ j. uses 15 j ≡ not (eqb j 4)) refl refl refl refl refl)

-- the bits of a row and the next
pub bits_low : (row : ℕ) → row < 4 → 3 * 2 ^ row % 256 ≤ 31
bits_low row l = five (λ i. i < 4 → 3 * 2 ^ i % 256 ≤ 31) (λ m. lit≤ tt) (λ m. lit≤ tt) (λ m. lit≤ tt) (λ m. lit≤ tt) (λ m. absurd (omega arith)) row (omega arith) l

pub all_but_two : (row : ℕ) → row < 4 → (j : ℕ) → j < 5 → uses (31 - 3 * 2 ^ row % 256) j ≡ besides row j
unfolding uses
all_but_two row l =
    five (λ i. i < 4 → (j : ℕ) → j < 5 → uses (31 - 3 * 2 ^ i % 256) j ≡ besides i j)
    (λ m. five (λ j. uses 28 j ≡ besides 0 j) refl refl refl refl refl)
    (λ m. five (λ j. uses 25 j ≡ besides 1 j) refl refl refl refl refl)
    (λ m. five (λ j. uses 19 j ≡ besides 2 j) refl refl refl refl refl)
    (λ m. five (λ j. uses 7 j ≡ besides 3 j) refl refl refl refl refl)
    (λ m. absurd (omega arith))
    row
    (omega arith)
    l

pub all_rows : (j : ℕ) → j < 5 → uses 31 j ≡ true
unfolding uses
all_rows = five (λ j. uses 31 j ≡ true) refl refl refl refl refl

pub same_choice : (choice row d : ℕ) → d < 4096 → chosen (replicate 4096 choice) row d ≡ uses choice row
same_choice choice row d l = ap (λ (x : ℕ). uses x row) (get_or-replicate 4096 d choice 0 l)
