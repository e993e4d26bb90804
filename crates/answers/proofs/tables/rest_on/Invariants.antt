-- `answers::tables::rest_on` meets its contract. The invariant: the survivors among the darts passed are counted. Assumes nothing.
use mathlib.Core.Path.{◌≡◌}
use Prim.Native.Nat.{◌≤◌}
use Rattle.maps.specs.Table.{each}
use Rattle.maps.specs.Folded.{survivors}
use Rattle.answers.proofs.tables.rest_on.Given as goal

abbrev pub invariant-loop-own : goal.invariant-loop-own
invariant-loop-own l = (l.count ≡ survivors l.own-index (each l.part) l.level.0) × (l.count ≤ l.own-index)
