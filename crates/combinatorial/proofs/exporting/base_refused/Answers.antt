-- `combinatorial::exporting::base_refused` meets its contract. Assumes nothing.
use mathlib.Core.Path.{◌≡◌, sym, ap, ◌∙◌}
use mathlib.Core.Bool.{true}
use mathlib.Core.List.{List}
use Prim.Native.Nat.{ℕ}
use borrow.Author.Tests.{eq-eqb}
use Rattle.maps.specs.Verdict.{Verdict, ◌then◌}
use Rattle.maps.specs.Table.{entry}
use Rattle.maps.specs.Check.{check_map}
use Rattle.answers.specs.Lent.{lent_of}
use Rattle.answers.proofs.Refusals.{passed_on, refused_then}
use Rattle.combinatorial.specs.Back.{tests_back}
use Rattle.combinatorial.proofs.Shapes.{fits, tests_two, check_two}
use Rattle.combinatorial.proofs.exporting.base_refused.Goals as goal

-- the tests of a base of two dimensions
two : (n N : ℕ) (rows : List ℕ) (edges vertices : ℕ) → n ≡ 2 → tests_back n N rows edges vertices ≡ lent_of 2 N 0 (fits N rows edges vertices) then check_map (entry N rows) 2 N (λ d. true)
two n N rows edges vertices e = rw (eq-eqb n 2 e) (tests_two N rows edges vertices)

pub returns-in_err-lent : goal.returns-in_err-lent
returns-in_err-lent c =
    let a = c.args in
    rw (passed_on c.from_residual.result c.from_residual.ensures.1)
    (refused_then _ _ _ (rw c.lengths_fit-fit.ensures at c.in_err-lent.ensures) ∙ sym (two a.table.now.n.0 a.table.now.darts a.table.now.entries.now a.edges a.vertices c.if-table-ne2.false))

pub returns : goal.returns
returns c =
    let a = c.args in
    let passed = rw c.lengths_fit-fit.ensures at c.in_ok-lent.ensures in
    c.check_base.ensures
    ∙ check_two a.table.now.darts a.table.now.entries.now a.edges a.vertices (sym passed)
    ∙ ap (λ (v : Verdict). v then check_map (entry a.table.now.darts a.table.now.entries.now) 2 a.table.now.darts (λ d. true)) passed
    ∙ sym (two a.table.now.n.0 a.table.now.darts a.table.now.entries.now a.edges a.vertices c.if-table-ne2.false)
