-- `combinatorial::importing::import` meets its contract: all is tested before an entry is written. Assumes nothing.
use mathlib.Core.Path.{◌≡◌, sym, ◌∙◌}
use mathlib.Core.List.{List}
use Prim.Native.Nat.{ℕ}
use Rattle.maps.specs.Verdict.{accepted}
use Rattle.maps.specs.Partner.{import_lent}
use Rattle.answers.proofs.Refusals.{passed_on, refused_first, refused_second, accepted_both}
use Rattle.combinatorial.specs.Rows.{tests_of}
use Rattle.combinatorial.proofs.Tests.{first, tests, first_sized, taken}
use Rattle.combinatorial.proofs.Written.{refusal_leaves, rows_yield}
use Rattle.combinatorial.proofs.importing.import.Goals as goal

-- both tests are passed
passes : (M : ℕ) (edges vertices rows : List ℕ) → accepted ≡ first M edges vertices rows → accepted ≡ tests_of M edges vertices → accepted ≡ import_lent M edges vertices rows
passes M edges vertices rows = accepted_both _ _ _ (tests M edges vertices rows)

pub returns-in_err-sizes : goal.returns-in_err-sizes
returns-in_err-sizes c =
    let a = c.args in
    let e = refused_first _ _ _ (tests a.darts a.edges.now a.vertices.now a.rows.now) _ c.in_err-sizes.ensures in
    rw (passed_on c.from_residual.result c.from_residual.ensures.1) (record { verdict = e; rows_left = refusal_leaves a.darts a.edges.now a.vertices.now a.rows.now _ e })

pub rows_refused-requires : goal.rows_refused-requires
rows_refused-requires c = let a = c.args in let z = first_sized a.darts a.edges.now a.vertices.now a.rows.now (sym c.in_ok-sizes.ensures) in (z.edges_length, z.vertices_length, z.darts)

pub returns-in_err-rows_refused : goal.returns-in_err-rows_refused
returns-in_err-rows_refused c =
    let a = c.args in
    let e = refused_second _ _ _ (tests a.darts a.edges.now a.vertices.now a.rows.now) _ c.in_ok-sizes.ensures c.in_err-rows_refused.ensures in
    rw (passed_on c.from_residual-in_err-rows_refused.result c.from_residual-in_err-rows_refused.ensures.1) (record { verdict = e; rows_left = refusal_leaves a.darts a.edges.now a.vertices.now a.rows.now _ e })

pub put_edges-requires : goal.put_edges-requires
put_edges-requires c = let a = c.args in let t = taken _ _ _ _ (sym (passes a.darts a.edges.now a.vertices.now a.rows.now c.in_ok-sizes.ensures c.in_ok-rows_refused.ensures)) in (t.edges_row, t.darts, t.rows_length)

pub put_vertices-requires : goal.put_vertices-requires
put_vertices-requires c =
    let a = c.args in
    let t = taken _ _ _ _ (sym (passes a.darts a.edges.now a.vertices.now a.rows.now c.in_ok-sizes.ensures c.in_ok-rows_refused.ensures)) in
    (t.vertices_row, t.darts, c.put_edges.ensures.kept.long ∙ t.rows_length, t.one_to_one)

pub put_sides-requires : goal.put_sides-requires
put_sides-requires c =
    let a = c.args in
    let t = taken _ _ _ _ (sym (passes a.darts a.edges.now a.vertices.now a.rows.now c.in_ok-sizes.ensures c.in_ok-rows_refused.ensures)) in
    (t.darts, c.put_vertices.ensures.kept.long ∙ c.put_edges.ensures.kept.long ∙ t.rows_length)

pub returns : goal.returns
returns c =
    let a = c.args in
    let e = passes a.darts a.edges.now a.vertices.now a.rows.now c.in_ok-sizes.ensures c.in_ok-rows_refused.ensures in
    record {
      verdict = e;
      rows_left = rw (← e)
          (rows_yield _ _ _ _ _ _ _ (taken _ _ _ _ (sym e)) c.put_edges.ensures.written c.put_edges.ensures.kept c.put_vertices.ensures.written c.put_vertices.ensures.kept c.put_sides.ensures.written c.put_sides.ensures.kept);
    }
