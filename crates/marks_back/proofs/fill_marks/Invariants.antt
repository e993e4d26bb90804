-- `marks_back::fill_marks` meets its contract. The invariant: the darts passed have their marks. The measure: the darts left. Assumes nothing.
use mathlib.Core.Path.{◌≡◌}
use Prim.Native.Nat.{ℕ, ◌-◌, ◌≤◌, ◌<◌}
use lib.ListN.{length, get_or}
use Rattle.maps.specs.Table.{each}
use Rattle.maps.specs.Folded.{marks}
use Rattle.marks_back.proofs.fill_marks.Given as goal

abbrev pub invariant-loop-d : goal.invariant-loop-d
invariant-loop-d l = (l.d-end ≡ length l.initial.out) × (l.d ≤ l.d-end) × (length l.out ≡ length l.initial.out) × ((k : ℕ) → k < l.d → get_or l.out k 0 ≡ marks l.h.0 (each l.lambda) (each l.delta) l.level.0 k)

abbrev pub decreases-loop-d : goal.decreases-loop-d
decreases-loop-d l = l.d-end - l.d
