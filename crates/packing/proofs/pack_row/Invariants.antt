-- `packing::pack_row` meets its contract. The invariant: the survivors passed are packed, `next` is behind them. The measure: the darts left. Assumes nothing.
use mathlib.Core.Path.{◌≡◌}
use Prim.Native.Nat.{◌+◌, ◌-◌, ◌≤◌}
use lib.ListN.{get_or}
use Rattle.maps.specs.Count.{count}
use Rattle.maps.specs.Table.{each}
use Rattle.maps.specs.Folded.{survives}
use Rattle.packing.specs.Packing.{Packs}
use Rattle.packing.proofs.pack_row.Given as goal

abbrev pub invariant-loop-d : goal.invariant-loop-d
invariant-loop-d l = (l.d ≤ l.d-end) × (l.next ≡ l.to + count (survives (each l.lambda) l.level.0) l.d) × Packs (survives (each l.lambda) l.level.0) (λ x. each l.ranks (get_or l.initial.rows (l.from + x) 0)) l.to l.d l.initial.rows l.rows

abbrev pub decreases-loop-d : goal.decreases-loop-d
decreases-loop-d l = l.d-end - l.d
