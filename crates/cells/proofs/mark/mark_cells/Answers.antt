-- `cells::mark_cells` meets its contract: all is tested before a mark is written. Assumes nothing.
use mathlib.Core.Path.{◌≡◌, sym, ◌∙◌}
use Prim.Native.Nat.{ℕ}
use lib.Dec.{leb}
use borrow.Author.Rules.{rules}
use borrow.Author.Tests.{leb-true, leb-false}
use Rattle.std.specs.Ordering.{is_le, nat_cmp}
use Rattle.answers.specs.declared.Refusal.TheVariants.{NoInvolution}
use Rattle.answers.proofs.Refusals.{passed_on, refused_first}
use Rattle.cells.proofs.Lent.{tests, refusal_leaves, refused_dimension, tests_explicit, accepted_level}
use Rattle.cells.proofs.mark.mark_cells.Goals as goal

-- what the derived comparison says
at_most : (a b : ℕ) → leb a b ≡ is_le (nat_cmp a b)
at_most a b = search rules

pub returns-in_err-lent : goal.returns-in_err-lent
returns-in_err-lent c =
    let a = c.args in
    let e = refused_first _ _ _ (tests a.n.0 a.darts a.table.now a.dimension.0 a.out.now) _ (rw c.lengths_fit-fit.ensures at c.in_err-lent.ensures) in
    rw (passed_on c.from_residual.result c.from_residual.ensures.1) (record { verdict = e; marks_left = refusal_leaves a.n.0 a.darts a.table.now a.dimension.0 a.out.now _ e })

pub returns-then-le : goal.returns-then-le
returns-then-le c =
    let a = c.args in
    let first = sym (rw c.lengths_fit-fit.ensures at c.in_ok-lent.ensures) in
    let e = refused_dimension a.n.0 a.darts a.table.now a.dimension.0 a.out.now first (leb-true _ _ (at_most a.n.0 a.dimension.0 ∙ sym c.le.ensures ∙ c.if-le.true)) in
    record { verdict = e; marks_left = refusal_leaves a.n.0 a.darts a.table.now a.dimension.0 a.out.now (NoInvolution (record { 0 = 0 }) a.dimension 0) e }

pub returns-in_err-check_explicit : goal.returns-in_err-check_explicit
returns-in_err-check_explicit c =
    let a = c.args in
    let first = sym (rw c.lengths_fit-fit.ensures at c.in_ok-lent.ensures) in
    let e = c.in_err-check_explicit.ensures ∙ tests_explicit a.n.0 a.darts a.table.now a.dimension.0 a.out.now first (leb-false _ _ (at_most a.n.0 a.dimension.0 ∙ sym c.le.ensures ∙ c.if-le.false)) in
    rw (passed_on c.from_residual-in_err-check_explicit.result c.from_residual-in_err-check_explicit.ensures.1) (record { verdict = e; marks_left = refusal_leaves a.n.0 a.darts a.table.now a.dimension.0 a.out.now _ e })

pub mark_accepted-requires : goal.mark_accepted-requires
mark_accepted-requires c =
    let a = c.args in
    let first = sym (rw c.lengths_fit-fit.ensures at c.in_ok-lent.ensures) in
    let accepted = accepted_level a.n.0 a.darts a.table.now a.dimension.0 a.out.now (sym (c.in_ok-check_explicit.ensures ∙ tests_explicit a.n.0 a.darts a.table.now a.dimension.0 a.out.now first (leb-false _ _ (at_most a.n.0 a.dimension.0 ∙ sym c.le.ensures ∙ c.if-le.false)))) in
    (record { level = accepted.0; low = accepted.1 }, accepted.2)

pub returns : goal.returns
returns c =
    let a = c.args in
    let first = sym (rw c.lengths_fit-fit.ensures at c.in_ok-lent.ensures) in
    let e = c.in_ok-check_explicit.ensures ∙ tests_explicit a.n.0 a.darts a.table.now a.dimension.0 a.out.now first (leb-false _ _ (at_most a.n.0 a.dimension.0 ∙ sym c.le.ensures ∙ c.if-le.false)) in
    record { verdict = e; marks_left = rw (← e) c.mark_accepted.ensures }
