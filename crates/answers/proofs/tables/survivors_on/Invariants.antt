-- `answers::tables::survivors_on` meets its contract. The invariant: the survivors in the blocks passed are counted. The measure: the blocks left. Assumes nothing.
use mathlib.Core.Path.{◌≡◌}
use Prim.Native.Nat.{◌-◌, ◌*◌, ◌≤◌}
use lib.ListN.{length}
use Rattle.maps.specs.Table.{each}
use Rattle.maps.specs.Folded.{survivors}
use Rattle.answers.proofs.tables.survivors_on.Given as goal

abbrev pub invariant-loop-b : goal.invariant-loop-b
invariant-loop-b l = (l.b ≤ l.blocks) × (128 * l.blocks ≤ length l.lambda) × (l.count ≡ survivors (128 * l.b) (each l.lambda) l.level.0) × (l.count ≤ 128 * l.b)

abbrev pub decreases-loop-b : goal.decreases-loop-b
decreases-loop-b l = l.blocks - l.b
