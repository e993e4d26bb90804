-- `filling::fill` meets its contract. The invariant of both loops: the table is filled so far, the place is that of the row and dart, and no walk so far was refused. The measures: the rows and the darts that are left. Assumes nothing.
use mathlib.Core.Path.{◌≡◌}
use Prim.Native.Nat.{◌+◌, ◌-◌, ◌*◌, ◌≤◌, ◌<◌}
use Rattle.std.specs.Prelude.{None}
use Rattle.answers.specs.Pyramid.{folded}
use Rattle.filling.proofs.Filled.{Filled}
use Rattle.filling.proofs.fill.Given as goal

abbrev pub invariant-loop-d : goal.invariant-loop-d
invariant-loop-d l = (l.d ≤ l.darts) × (l.i < l.i-end) × Filled (folded l.pyramid) l.level.0 l.i l.d l.count l.since.0 l.table × (l.place ≡ l.i * l.darts + l.d) × (l.refused ≡ None)

abbrev pub decreases-loop-d : goal.decreases-loop-d
decreases-loop-d l = l.darts - l.d

abbrev pub invariant-rows : goal.invariant-rows
invariant-rows l = (l.i ≤ l.i-end) × Filled (folded l.pyramid) l.level.0 l.i 0 l.count l.since.0 l.table × (l.place ≡ l.i * l.darts) × (l.refused ≡ None)

abbrev pub decreases-rows : goal.decreases-rows
decreases-rows l = l.i-end - l.i
