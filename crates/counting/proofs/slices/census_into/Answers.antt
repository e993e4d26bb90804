-- `counting::slices::census_into` meets its contract: the two lengths, then the job, then a copy of what it found. Assumes nothing.
use mathlib.Core.Path.{◌≡◌, ◌∙◌}
use lib.ListN.{length}
use borrow.Author.Tests.{eq-eqb, ne_eqb}
use mathlib.Core.Bool.{true, false}
use mathlib.Core.List.{List}
use mathlib.Core.Logic.{◌⊎◌, inl, inr}
use Prim.Native.Nat.{ℕ}
use lib.IntN.{ℤ}
use Rattle.maps.specs.Census.{census_fits}
use Rattle.answers.specs.Pyramid.{folded}
use Rattle.answers.proofs.Refusals.{passed_on, told}
use Rattle.counting.proofs.Putting.{other_lengths, other_table, other_left, same_verdict, same_table, same_refused, put_left}
use Rattle.counting.proofs.slices.census_into.Goals as goal

-- both lengths are exact
fits : (cells : List ℕ) (sums : List ℤ) → length cells ≡ 165 → length sums ≡ 33 → census_fits cells sums ≡ true
fits cells sums e f = rw (eq-eqb (length cells) 165 e, eq-eqb (length sums) 33 f)

-- one of them is not
misfits : (cells : List ℕ) (sums : List ℤ) → (length cells ≡ 165 → ⊥) ⊎ ((length cells ≡ 165) × (length sums ≡ 33 → ⊥)) → census_fits cells sums ≡ false
misfits cells sums (inl f) = rw (ne_eqb (length cells) 165 f)
misfits cells sums (inr (e, f)) = rw (eq-eqb (length cells) 165 e, ne_eqb (length sums) 33 f)

pub returns-then-cells-ne-COUNTS : goal.returns-then-cells-ne-COUNTS
returns-then-cells-ne-COUNTS c =
    let a = c.args in
    let P = folded a.pyramid.now in
    let other = misfits a.cells.now a.sums.now c.then-cells-ne-COUNTS.either in
    record { verdict = c.lent.ensures ∙ other_lengths P a.table.now a.cells.now a.sums.now other; table_left = other_table P a.table.now a.cells.now a.sums.now other; counts_left = other_left P a.table.now a.cells.now a.sums.now other }

pub returns-in_err-census : goal.returns-in_err-census
returns-in_err-census c =
    let a = c.args in
    let P = folded a.pyramid.now in
    let same = fits a.cells.now a.sums.now c.if-cells-ne-COUNTS.false c.if-sums-ne-LEVELS.false in
    let v = told c.census.ensures.verdict c.in_err-census.was in
    rw (passed_on c.from_residual.result c.from_residual.ensures.1) (record { verdict = v ∙ same_verdict P a.table.now a.cells.now a.sums.now same; table_left = c.census.ensures.table_left ∙ same_table P a.table.now a.cells.now a.sums.now same; counts_left = same_refused P a.table.now a.cells.now a.sums.now same _ v })

pub returns : goal.returns
returns c =
    let a = c.args in
    let P = folded a.pyramid.now in
    let same = fits a.cells.now a.sums.now c.if-cells-ne-COUNTS.false c.if-sums-ne-LEVELS.false in
    let fine = told c.census.ensures.verdict c.in_ok-census.was in
    record { verdict = fine ∙ same_verdict P a.table.now a.cells.now a.sums.now same; table_left = c.census.ensures.table_left ∙ same_table P a.table.now a.cells.now a.sums.now same; counts_left = put_left P a.table.now a.cells.now a.sums.now fine _ _ _ _ c.census.ensures.counts same _ _ c.put_cells.ensures c.copy.ensures }
