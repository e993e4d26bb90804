-- `packing::pack_marks` meets its contract. The invariant: Λ, Δ and the numbers of the survivors passed are packed, `next` is behind them. The measure: the darts left. Assumes nothing.
use mathlib.Core.Path.{◌≡◌}
use Prim.Native.Nat.{◌-◌, ◌≤◌}
use lib.ListN.{length}
use Rattle.maps.specs.Count.{count}
use Rattle.maps.specs.Table.{each}
use Rattle.maps.specs.Folded.{survives}
use Rattle.packing.specs.Packing.{Packs}
use Rattle.packing.proofs.pack_marks.Given as goal

abbrev pub invariant-loop-d : goal.invariant-loop-d
invariant-loop-d l = (l.d ≤ l.d-end) × (l.next ≤ l.d) × (length l.lambda ≡ length l.initial.lambda) × (length l.delta ≡ length l.initial.lambda) × (length l.old ≡ length l.initial.lambda)
    × (l.next ≡ count (survives (each l.initial.lambda) l.level.0) l.d)
    × Packs (survives (each l.initial.lambda) l.level.0) (λ x. each l.initial.lambda x - l.level.0) 0 l.d l.initial.lambda l.lambda
    × Packs (survives (each l.initial.lambda) l.level.0) (each l.initial.delta) 0 l.d l.initial.delta l.delta
    × Packs (survives (each l.initial.lambda) l.level.0) (λ x. x) 0 l.d l.initial.old l.old

abbrev pub decreases-loop-d : goal.decreases-loop-d
decreases-loop-d l = l.d-end - l.d
