-- `cells::mark::Marking::mark_accepted` meets its contract. Assumes nothing.
use Rattle.orbits.specs.Search.{has}
use Rattle.orbits.proofs.Sets.{none_has, none_room}
use Rattle.cells.proofs.Cells.{marks_cells}
use Rattle.cells.proofs.mark.Marking.mark_accepted.Goals as goal

pub spoil-requires : goal.spoil-requires
spoil-requires c = (c.requires.0, none_has 4096, none_room)

pub returns : goal.returns
returns c =
    let a = c.args in
    rw c.fill.ensures (marks_cells a.self.now.table.n.0 a.self.now.table.darts a.self.now.table.entries.now a.self.now.dimension.0 (has c.spare.new.reached) c.spare.ensures.lacks)
