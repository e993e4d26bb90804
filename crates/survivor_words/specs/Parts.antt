-- What a word of survivors holds. Assumes nothing: these are definitions.
use Rattle.std.specs.Prelude.{Bool, ℕ, ◌+◌, ◌*◌, ◌^◌, ◌≤◌, ◌<◌}
use Rattle.maps.specs.Count.{one, sum}

-- word w has `many` darts: the places before are below N, those from there on are not
pub record InWord (N w many : ℕ) : Type 0 where
  pub few : many ≤ 64
  pub below : (b : ℕ) → b < many → w * 64 + b < N
  pub past : (b : ℕ) → many ≤ b → b < 64 → N ≤ w * 64 + b

-- eight numbers below 256 in one, the first lowest
unfoldable pub lanes : (ℕ → ℕ) → ℕ
lanes v = sum (λ k. v k * 2 ^ (8 * k)) 8

-- m rows of eight bits: bit k of row j is bit j of lane k
unfoldable pub stack_of : (ℕ → Bool) → ℕ → ℕ
stack_of t m = sum (λ j. lanes (λ k. one (t (8 * j + k))) * 2 ^ j) m

-- 64 bits in one number, the first lowest
unfoldable pub word_bits : (ℕ → Bool) → ℕ
word_bits t = sum (λ b. one (t b) * 2 ^ b) 64
