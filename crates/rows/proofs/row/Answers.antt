-- `rows::row` meets its contract: an accepted row lies within both tables. Assumes nothing.
use mathlib.Core.Path.{sym}
use mathlib.Core.Bool.{cond}
use mathlib.Core.List.{[]}
use Prim.Native.Nat.{◌*◌}
use native.Mathlib.Nat.{add-sub_cancel_left}
use native.Mathlib.Omega.{arith}
use lib.Dec.{eqb}
use lib.ListN.{take, drop}
use borrow.Author.Tests.{eq-eqb, ne_eqb}
use Rattle.maps.specs.Row.{row_lent, row_part}
use Rattle.answers.proofs.Refusals.{told, refusal_keeps}
use Rattle.rows.proofs.Accepted.{row_within}
use Rattle.rows.proofs.row.Goals as goal

pub slice_bounds-result-end-then-level-eq0 : goal.slice_bounds-result-end-then-level-eq0
slice_bounds-result-end-then-level-eq0 c =
    let a = c.args in
    omega (arith, row_within a.sizes.n.0 a.sizes.darts a.sizes.h.0 a.base.now a.unfolded.now a.level.0 a.involution.0 (sym (told c.row_refusal.ensures c.in-Ok.is)))

pub slice_bounds-result-end-else-level-eq0 : goal.slice_bounds-result-end-else-level-eq0
slice_bounds-result-end-else-level-eq0 c =
    let a = c.args in
    omega (arith, row_within a.sizes.n.0 a.sizes.darts a.sizes.h.0 a.base.now a.unfolded.now a.level.0 a.involution.0 (sym (told c.row_refusal.ensures c.in-Ok.is)))

pub returns-in-Err : goal.returns-in-Err
unfolding row_part
returns-in-Err c =
    let a = c.args in
    refusal_keeps c.in-Err.field-0 (row_lent a.sizes.n.0 a.sizes.darts a.sizes.h.0 a.base.now a.unfolded.now a.level.0 a.involution.0) (take a.sizes.darts (drop (a.involution.0 * a.sizes.darts) (cond (eqb a.level.0 0) a.base.now a.unfolded.now))) [] (told c.row_refusal.ensures c.in-Err.is)

pub returns-then-level-eq0 : goal.returns-then-level-eq0
unfolding row_part
returns-then-level-eq0 c =
    let m = c in
    rw (← (told m.row_refusal.ensures m.in-Ok.is)) (simp (eq-eqb _ _ c.if-level-eq0.true, add-sub_cancel_left))

pub returns-else-level-eq0 : goal.returns-else-level-eq0
unfolding row_part
returns-else-level-eq0 c =
    let m = c in
    rw (← (told m.row_refusal.ensures m.in-Ok.is)) (simp (ne_eqb _ _ c.if-level-eq0.false, add-sub_cancel_left))
