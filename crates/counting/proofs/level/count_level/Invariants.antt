-- `counting::level::count_level` meets its contract. The invariant: the dimensions passed are counted, and the places of the others are 0. Assumes nothing.
use mathlib.Core.Path.{◌≡◌}
use Prim.Native.Nat.{ℕ, ◌≤◌, ◌<◌}
use lib.ListN.{length}
use Rattle.maps.specs.Table.{entry, each}
use Rattle.maps.specs.Explicit.{present}
use Rattle.maps.specs.Census.{CellCount}
use Rattle.counting.proofs.level.count_level.Given as goal

abbrev pub invariant-loop-i : goal.invariant-loop-i
invariant-loop-i l = (l.i ≤ l.i-end)
    × (length l.row ≡ 5)
    × ((x : ℕ) → x < l.i → CellCount (entry l.table.darts l.table.entries.now) l.table.n.0 l.table.darts (present l.table.darts l.table.entries.now) x (each l.row x))
    × ((x : ℕ) → l.i ≤ x → x < 5 → each l.row x ≡ 0)
