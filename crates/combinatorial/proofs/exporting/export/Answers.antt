-- `combinatorial::exporting::export` meets its contract: the pattern tells what the tests would, and they are made where it is not found. Assumes nothing.
use Prim.Native.Nat.{◌/◌}
use lib.ListN.{length}
use Rattle.combinatorial.specs.Back.{Pattern}
use Rattle.combinatorial.proofs.Patterns.{pattern_yields, pattern_passes}
use Rattle.combinatorial.proofs.exporting.export.Goals as goal

pub returns : goal.returns
returns c =
    let a = c.args in
    let pattern : Pattern a.n.0 a.darts a.rows.now (length a.edges.now) (length a.vertices.now) =
    c.yielded.ensures c.if-not-yielded.false in
    rw (pattern_passes a.n.0 a.darts a.rows.now a.edges.now a.vertices.now pattern, c.take_rows.ensures.edges_left, c.take_rows.ensures.vertices_left)
    (a.darts / 2, pattern_yields a.n.0 a.darts a.rows.now (length a.edges.now) (length a.vertices.now) pattern)
