-- Laws of the parts of one length that a list is cut into: what a part holds, and what is left behind the parts. Assumes nothing.
use mathlib.Core.Path.{◌≡◌, ap, ap₂, ◌∙◌}
use mathlib.Core.List.{List, []}
use Prim.Native.Nat.{ℕ, zero, suc, ◌+◌, ◌*◌, ◌<◌}
use native.Mathlib.Omega.{arith}
use lib.ListN.{get_or, take, drop}
use lib.Seq.{get_or-drop}
use borrow.Author.Rules.{rules}
use Rattle.std.proofs.lemmas.List.{places}
use Rattle.std.specs.Simd.{first_chunks}
use Rattle.maps.specs.Record.{byte, two_bytes}

-- value i of part k
pub part_value : (n m k i : ℕ) (xs : List ℕ) → k < m → i < n → get_or (get_or (first_chunks n m xs) k []) i 0 ≡ get_or xs (n * k + i) 0
part_value n zero k i xs l f = absurd (omega arith)
part_value n (suc m) zero i xs l f = let z : n * 0 + i ≡ i = omega arith in rw z (first i f)
  where
    first : (i : ℕ) → i < n → get_or (take n xs) i 0 ≡ get_or xs i 0
    first i f = search (rules, places)
part_value n (suc m) (suc k) i xs l f =
    let z : n * suc k + i ≡ n + (n * k + i) = grind arith in
    rw z (part_value n m k i (drop n xs) (omega arith) f ∙ get_or-drop n xs (n * k + i) 0)

-- entry d of part k, two bytes each
pub part_two : (m k d : ℕ) (xs : List ℕ) → k < m → d < 64 → two_bytes (get_or (first_chunks 128 m xs) k []) (0 + 2 * d) ≡ two_bytes xs (0 + 2 * (64 * k + d))
part_two m k d xs l f =
    let low : byte (get_or (first_chunks 128 m xs) k []) (0 + 2 * d) ≡ byte xs (0 + 2 * (64 * k + d)) = part_value 128 m k (0 + 2 * d) xs l (omega arith) ∙ ap (byte xs) (omega arith) in
    let high : byte (get_or (first_chunks 128 m xs) k []) (0 + 2 * d + 1) ≡ byte xs (0 + 2 * (64 * k + d) + 1) = part_value 128 m k (0 + 2 * d + 1) xs l (omega arith) ∙ ap (byte xs) (omega arith) in
    ap₂ (λ (x y : ℕ). x + 256 * y) low high

-- value i, and entry d of two bytes, of what is behind n values
pub behind_value : (n i : ℕ) (xs : List ℕ) → get_or (drop n xs) i 0 ≡ get_or xs (n + i) 0
behind_value n i xs = get_or-drop n xs i 0

pub behind_two : (n d : ℕ) (xs : List ℕ) → two_bytes (drop n xs) (0 + 2 * d) ≡ two_bytes xs (n + 2 * d)
behind_two n d xs =
    let low : get_or (drop n xs) (0 + 2 * d) 0 ≡ byte xs (n + 2 * d) = behind_value n (0 + 2 * d) xs ∙ ap (byte xs) (omega arith) in
    let high : get_or (drop n xs) (0 + 2 * d + 1) 0 ≡ byte xs (n + 2 * d + 1) = behind_value n (0 + 2 * d + 1) xs ∙ ap (byte xs) (omega arith) in
    ap₂ (λ (x y : ℕ). x + 256 * y) low high
