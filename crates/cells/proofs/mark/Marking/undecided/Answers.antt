-- `cells::mark::Marking::undecided` meets its contract. Assumes nothing.
use mathlib.Core.Path.{◌≡◌, sym, ◌∙◌}
use mathlib.Core.Bool.{true}
use Prim.Native.Nat.{◌+◌, ◌<◌}
use native.Mathlib.Omega.{arith}
use Rattle.maps.specs.Table.{entry}
use Rattle.maps.specs.Explicit.{present}
use Rattle.orbits.proofs.Explicit.{level_valid}
use Rattle.cells.proofs.mark.Marking.undecided.Goals as goal

pub bounds-parts-over : goal.bounds-parts-over
bounds-parts-over c =
    let a = c.args in
    let present-there : present a.self.now.table.darts a.self.now.table.entries.now a.d ≡ true =
    sym c.there.ensures ∙ c.if-not-there.false in
    let inside : entry a.self.now.table.darts a.self.now.table.entries.now (a.self.now.dimension.0 + 1) a.d < a.self.now.table.darts =
    ((level_valid c.args.self.now.table.n.0 c.args.self.now.table.darts c.args.self.now.table.entries.now c.requires.0.level).inside (c.args.self.now.dimension.0 + 1) c.args.d (omega arith) (c.requires.1, present-there)).0 in
    rw c.at-over.ensures (omega (arith, inside, c.requires.0.level.rows.darts))
