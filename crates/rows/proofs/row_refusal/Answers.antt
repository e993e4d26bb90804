-- `rows::row_refusal` meets its contract: 13 comes after what is asked of every job. Assumes nothing.
use mathlib.Core.Path.{◌≡◌, sym, ◌∙◌}
use Prim.Native.Nat.{ℕ}
use lib.Dec.{ltb}
use borrow.Author.Rules.{rules}
use Rattle.std.specs.Ordering.{is_lt, nat_cmp}
use Rattle.answers.proofs.Refusals.{passed_on}
use Rattle.maps.specs.Sizes.{number13}
use Rattle.rows.proofs.Accepted.{row_refused, row_allowed}
use Rattle.rows.proofs.row_refusal.Goals as goal

-- what a derived comparison says
less : (a b : ℕ) → ltb a b ≡ is_lt (nat_cmp a b)
less a b = search rules

pub returns-in_err-asked : goal.returns-in_err-asked
returns-in_err-asked c =
    rw (passed_on c.from_residual.result c.from_residual.ensures.1) (
    let a = c.args in row_refused a.sizes.n.0 a.sizes.darts a.sizes.h.0 a.base.now a.unfolded.now a.level.0 a.involution.0 c.in_err-asked.field-0.0 (rw c.both_fit-fit.ensures at c.in_err-asked.ensures))

pub returns-then-lt : goal.returns-then-lt
unfolding number13
returns-then-lt c =
    let a = c.args in
    rw (less a.sizes.n.0 a.involution.0 ∙ sym c.lt.ensures ∙ c.if-lt.true) at (row_allowed a.sizes.n.0 a.sizes.darts a.sizes.h.0 a.base.now a.unfolded.now a.level.0 a.involution.0 (rw c.both_fit-fit.ensures at c.in_ok-asked.ensures))

pub returns : goal.returns
unfolding number13
returns c =
    let a = c.args in
    rw (less a.sizes.n.0 a.involution.0 ∙ sym c.lt.ensures ∙ c.if-lt.false) at (row_allowed a.sizes.n.0 a.sizes.darts a.sizes.h.0 a.base.now a.unfolded.now a.level.0 a.involution.0 (rw c.both_fit-fit.ensures at c.in_ok-asked.ensures))
