-- `combinatorial::exporting::take_rows` meets its contract. The invariant: the entries of the darts passed are written. Assumes nothing.
use mathlib.Core.Path.{◌∙◌}
use native.Mathlib.Omega.{arith}
use Rattle.maps.specs.Table.{entry}
use Rattle.laws.proofs.Tables.{listed_of}
use Rattle.combinatorial.specs.Back.{edge_of, vertex_of}
use Rattle.combinatorial.proofs.exporting.take_rows.Goals as goal

pub returns : goal.returns
returns c =
    let l = c.loop-d in
    let rows = entry c.args.table.now.darts c.args.table.now.entries.now in record { edges_left = listed_of (edge_of rows) _ l.edges (l.invariant.1 ∙ c.requires.1) (λ k f. l.invariant.3 k (omega arith)); vertices_left = listed_of (vertex_of rows) _ l.vertices (l.invariant.2 ∙ c.requires.2) (λ k f. l.invariant.4 k (omega arith)) }
