-- `combinatorial::exporting::sides_paired` meets its contract. The invariant: if all were found alike, the darts before are. Assumes nothing.
use mathlib.Core.Path.{◌≡◌}
use mathlib.Core.Bool.{true}
use Prim.Native.Nat.{ℕ, ◌≤◌, ◌<◌}
use lib.Bits.{bit_xor}
use Rattle.maps.specs.Table.{each}
use Rattle.combinatorial.proofs.exporting.sides_paired.Given as goal

abbrev pub invariant-loop-d : goal.invariant-loop-d
invariant-loop-d l = (l.d ≤ l.darts) × (l.all ≡ true → (x : ℕ) → x < l.d → each l.side x ≡ bit_xor x 1)
