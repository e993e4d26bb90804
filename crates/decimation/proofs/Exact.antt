-- Counts are converted exactly, and a factor is the double nearest to their fraction. Assumes nothing.
use mathlib.Core.Path.{◌≡◌, sym, ap, ◌∙◌, subst}
use mathlib.Core.Bool.{true, false, true≢false}
use Prim.Native.Nat.{ℕ, ◌*◌, ◌≤◌, ◌<◌}
use native.Mathlib.Nat.{le_trans, mul-one, mul_assoc, mul_comm, mul-pos}
use native.Mathlib.Omega.{arith}
use lib.Dec.{lit≤}
use lib.Ieee.{Float, nan, inf, fin, binary64, up, down, div, of_int, round}
use lib.Ieee.Fits.{down_pos}
use lib.Ieee.Exact.{HasValue}
use lib.Ieee.Back.{round_whole}
use lib.Ieee.Scale.{round_same}
use lib.Ieee.Positive.{first_pos}
use borrow.Author.Tests.{ne_eqb}
use Rattle.maps.specs.Decimation.{double, quotient}

-- a count of darts in double precision is that count: no conversion rounds
pub count_exact : (count : ℕ) → count ≤ 4096 → HasValue (double count) false count 1
unfolding of_int
count_exact count few = round_whole binary64 false count (le_trans few (lit≤ tt))

-- one division of two whole numbers rounds their fraction, and nothing before it
divided : (x y : Float) (a b : ℕ) → HasValue x false a 1 → HasValue y false b 1 → 0 < b → div binary64 x y ≡ round binary64 false a b
unfolding div
divided nan y a b h k p = absurd h
divided (inf s) y a b h k p = absurd h
divided (fin s m e) nan a b h k p = absurd k
divided (fin s m e) (inf t) a b h k p = absurd k
divided (fin true m e) (fin t o d) a b h k p = absurd (true≢false h.0)
divided (fin false m e) (fin true o d) a b h k p = absurd (true≢false k.0)
divided (fin false m e) (fin false o d) a b h k p =
    let above : m * up e ≡ a * down e = sym (mul-one (m * up e)) ∙ h.1 in
    let below : o * up d ≡ b * down d = sym (mul-one (o * up d)) ∙ k.1 in
    let some : 0 < o * up d = subst (λ (z : ℕ). 0 < z) (sym below) (mul-pos p (down_pos d)) in
    let cross : m * up e * down d * b ≡ a * (o * up d * down e) =
    ap (λ (z : ℕ). z * down d * b) above ∙ mul_assoc (a * down e) (down d) b ∙ mul_assoc a (down e) (down d * b)
    ∙ ap (λ (z : ℕ). a * z) (mul_comm (down e) (down d * b) ∙ ap (λ (z : ℕ). z * down e) (mul_comm (down d) b ∙ sym below)) in
    rw (ne_eqb o 0 (λ z. omega (arith, first_pos o (up d) some)))
    (round_same binary64 false (m * up e * down d) (o * up d * down e) a b (mul-pos some (down_pos e)) p cross)

-- so a factor is the fraction of the two counts, rounded once
pub factor_nearest : (count next : ℕ) → count ≤ 4096 → 0 < next → next ≤ 4096 → quotient count next ≡ round binary64 false count next
factor_nearest count next few some fewer = divided (double count) (double next) count next (count_exact count few) (count_exact next fewer) some
