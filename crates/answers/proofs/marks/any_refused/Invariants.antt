-- `answers::marks::any_refused` meets its contract. The invariant: if none was found, the marks before are allowed. Assumes nothing.
use mathlib.Core.Path.{◌≡◌}
use mathlib.Core.Bool.{false}
use Prim.Native.Nat.{ℕ, ◌<◌}
use Rattle.maps.specs.Table.{each}
use Rattle.maps.specs.Folded.{refused_marks}
use Rattle.answers.proofs.marks.any_refused.Given as goal

abbrev pub invariant-loop-d : goal.invariant-loop-d
invariant-loop-d l = l.any ≡ false → (x : ℕ) → x < l.d → refused_marks l.n.0 l.h.0 (each l.lambda x) (each l.delta x) ≡ false
