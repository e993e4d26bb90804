-- How far rows reach. Assumes nothing.
use Prim.Native.Nat.{ℕ, suc, ◌+◌, ◌*◌, ◌≤◌}
use native.Mathlib.Nat.{mul-le-mul, mul-le-mul_right, suc-mul}
use native.Mathlib.Omega.{arith}

-- five rows of 2 · 4,096 bytes
pub rows_reach : (i size : ℕ) → i ≤ 5 → size ≤ 8192 → i * (3 + size) ≤ 40975
rows_reach i size li ls = mul-le-mul {m₂ = 8195} li (omega arith)

-- row i of n+1 rows ends among them
pub row_ends : (i n s : ℕ) → i ≤ n → i * s + s ≤ suc n * s
row_ends i n s l = let m : suc i * s ≤ suc n * s = mul-le-mul_right s (omega arith) in omega (arith, suc-mul i s)
