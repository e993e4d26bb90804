-- `orbits::push_by` meets its contract. Assumes nothing.
use mathlib.Core.Path.{sym, ◌∙◌}
use Prim.Native.Nat.{◌<◌}
use native.Mathlib.Omega.{arith}
use Rattle.maps.specs.Table.{entry}
use Rattle.orbits.specs.Search.{state}
use Rattle.orbits.proofs.Sets.{room_left}
use Rattle.orbits.proofs.Searches.{pushed_stored}
use Rattle.orbits.proofs.push_by.Goals as goal

pub push-requires : goal.push-requires
push-requires c =
    let a = c.args in
    let p = c.requires.0 in
    let in_map : c.at-e.result < a.from.darts = rw c.at-e.ensures (p.inside a.row.0 c.requires.1 (sym c.uses.ensures ∙ c.if-not-uses.false)) in
    let few = p.rows.darts in
    (omega arith, λ h. omega (arith, room_left a.reached.now a.from.tail c.at-e.result a.from.darts p.stored.few (omega (arith, p.stored.room.reached_long)) in_map h))

pub returns : goal.returns
returns c =
    let a = c.args in
    let p = c.requires.0 in
    let used = sym c.uses.ensures ∙ c.if-not-uses.false in
    let is = rw c.at-e.ensures at c.push.ensures in
    let stored = pushed_stored a.from.darts p.rows.darts (state a.reached.now a.queue.now a.from.tail) p.stored (entry a.from.darts a.table.now a.row.0 a.from.dart) (p.inside a.row.0 c.requires.1 used) in
    record { pushes = rw used is; goes_on = record { two_rows = p.two_rows; rows = p.rows; dart = p.dart; inside = p.inside; stored = rw is stored } }
