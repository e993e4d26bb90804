-- `combinatorial::exporting::tested` meets its contract: all is tested before an entry is written. Assumes nothing.
use mathlib.Core.Path.{◌≡◌, refl, sym, ap}
use mathlib.Core.Bool.{not}
use mathlib.Core.List.{List}
use Prim.Native.Nat.{ℕ, ◌/◌}
use lib.ListN.{length}
use Rattle.maps.specs.Verdict.{accepted}
use Rattle.maps.specs.Partner.{export_lent}
use Rattle.answers.proofs.Refusals.{passed_on}
use Rattle.combinatorial.specs.Back.{tests_back}
use Rattle.combinatorial.proofs.Shapes.{denies, affirms, Base, export_base, export_refused, shape_yields, yields_shape}
use Rattle.combinatorial.proofs.exporting.tested.Goals as goal

-- the tests are those of the job
passes : (n N : ℕ) (rows edges vertices : List ℕ) → accepted ≡ tests_back n N rows (length edges) (length vertices) → accepted ≡ export_lent n N rows edges vertices
unfolding export_lent
passes n N rows edges vertices e = e

-- and tell what the base is
base : (n N : ℕ) (rows edges vertices : List ℕ) → accepted ≡ tests_back n N rows (length edges) (length vertices) → Base N rows edges vertices
base n N rows edges vertices e = export_base n _ _ _ _ (sym (passes n N rows edges vertices e))

pub returns-in_err-base_refused : goal.returns-in_err-base_refused
unfolding export_lent
returns-in_err-base_refused c =
    let a = c.args in
    rw (passed_on c.from_residual.result c.from_residual.ensures.1) (export_refused a.table.now.entries.now a.edges.now a.vertices.now _ _ c.in_err-base_refused.ensures)

pub alternates-requires : goal.alternates-requires
alternates-requires c = let a = c.args in (base a.table.now.n.0 a.table.now.darts a.table.now.entries.now a.edges.now a.vertices.now c.in_ok-base_refused.ensures).rows_fit

pub returns-then-not-alternates : goal.returns-then-not-alternates
returns-then-not-alternates c =
    let a = c.args in
    let b = base a.table.now.n.0 a.table.now.darts a.table.now.entries.now a.edges.now a.vertices.now c.in_ok-base_refused.ensures in
    let unlike = denies c.alternates.result (ap not c.if-not-alternates.true) c.alternates.ensures in
    rw (← (passes a.table.now.n.0 a.table.now.darts a.table.now.entries.now a.edges.now a.vertices.now c.in_ok-base_refused.ensures)) (refl, (λ M edges vertices y. unlike (yields_shape a.table.now.darts M a.table.now.entries.now edges vertices b.rows_fit.exact y)), refl, refl)

pub take_rows-requires : goal.take_rows-requires
take_rows-requires c =
    let a = c.args in
    let b = base a.table.now.n.0 a.table.now.darts a.table.now.entries.now a.edges.now a.vertices.now c.in_ok-base_refused.ensures in
    (b.rows_fit, b.edges_length, b.vertices_length)

pub returns : goal.returns
returns c =
    let a = c.args in
    let b = base a.table.now.n.0 a.table.now.darts a.table.now.entries.now a.edges.now a.vertices.now c.in_ok-base_refused.ensures in
    let shape = affirms c.alternates.result (ap not c.if-not-alternates.false) c.alternates.ensures in
    rw (← (passes a.table.now.n.0 a.table.now.darts a.table.now.entries.now a.edges.now a.vertices.now c.in_ok-base_refused.ensures), c.take_rows.ensures.edges_left, c.take_rows.ensures.vertices_left)
    (a.table.now.darts / 2, shape_yields a.table.now.darts a.table.now.entries.now b.one_dart b.rows_fit b.valid shape)
