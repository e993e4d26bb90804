-- `combinatorial::importing::rows_refused` meets its contract. Assumes nothing.
use mathlib.Core.Path.{◌≡◌, sym}
use Rattle.maps.specs.Verdict.{accepted}
use Rattle.maps.specs.Partner.{outside}
use Rattle.answers.proofs.Refusals.{told}
use Rattle.combinatorial.proofs.Tests.{outside_inside}
use Rattle.combinatorial.proofs.importing.rows_refused.Goals as goal

pub not_twice-requires : goal.not_twice-requires
not_twice-requires c =
    let a = c.args in
    let edges-in : accepted ≡ outside a.darts 0 a.edges.now =
    told c.outside.ensures c.in_ok-outside.was in
    record { exact = c.requires.0; inside = outside_inside c.args.darts 0 c.args.edges.now (sym edges-in) }

pub two_to_one-requires : goal.two_to_one-requires
two_to_one-requires c =
    let a = c.args in
    let vertices-in : accepted ≡ outside a.darts 1 a.vertices.now =
    told c.outside-2.ensures c.in_ok-outside-2.was in
    (record { exact = c.requires.1; inside = outside_inside c.args.darts 1 c.args.vertices.now (sym vertices-in) }, c.requires.2)
