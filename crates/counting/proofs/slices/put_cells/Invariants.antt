-- `counting::slices::put_cells` meets its contract. The invariant: the rows passed stand in their places. Assumes nothing.
use mathlib.Core.Path.{◌≡◌}
use Prim.Native.Nat.{ℕ, ◌≤◌, ◌<◌}
use lib.ListN.{length}
use Rattle.maps.specs.Census.{count_at, count_in}
use Rattle.counting.proofs.slices.put_cells.Given as goal

abbrev pub invariant-loop-l : goal.invariant-loop-l
invariant-loop-l l = (l.l ≤ 33) × (length l.cells ≡ 165) × ((x i : ℕ) → x < l.l → i < 5 → count_in l.cells x i ≡ count_at l.counts x i)
