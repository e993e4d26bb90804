-- `cells::mark::Marking::fill` meets its contract. The invariant: the darts passed have their marks. Assumes nothing.
use mathlib.Core.Path.{◌∙◌}
use native.Mathlib.Omega.{arith}
use Rattle.laws.proofs.Tables.{listed_of}
use Rattle.orbits.specs.Search.{has}
use Rattle.cells.specs.Marked.{marks_of}
use Rattle.cells.proofs.mark.Marking.fill.Goals as goal

pub returns : goal.returns
returns c =
    let a = c.args in
    let l = c.loop-d in
    listed_of (marks_of a.self.now.table.darts a.self.now.table.entries.now a.self.now.dimension.0 (has a.reached.now)) a.self.now.table.darts l.out (l.invariant.1 ∙ c.requires.1) (λ k lt. l.invariant.2 k (omega arith))
