-- `one_level::unfold` meets its contract. Assumes nothing.
use mathlib.Core.Path.{◌≡◌, sym, ap, ◌∙◌}
use mathlib.Core.Bool.{Bool}
use Prim.Native.Nat.{suc, ◌*◌}
use lib.ListN.{length}
use Rattle.maps.specs.Table.{each}
use Rattle.maps.specs.Verdict.{accepted, scan}
use Rattle.maps.specs.MarksBack.{at_marks8}
use Rattle.answers.specs.Numbers.{verdict_of}
use Rattle.answers.specs.Lent.{asked_of}
use Rattle.answers.specs.Pyramid.{folded}
use Rattle.answers.proofs.Marked.{marks_decide, allowed}
use Rattle.answers.proofs.Refusals.{passed_on, told}
use Rattle.questions.specs.Lent.{Lent}
use Rattle.one_level.proofs.Unfolds.{fits, unfold_lent_lem, unfold_first, unfold_marks, unfold_counted, unfold_refused}
use Rattle.one_level.proofs.unfold.Goals.{After-asked, In_ok-asked, After-marks_refusal, In_ok-marks_refusal, then-lent, else-lent}
use Rattle.one_level.proofs.unfold.Goals as goal

-- what is tested first
asked_is : (c : After-asked) → let a = c.args in let s = a.pyramid.now.sizes in verdict_of c.asked.result ≡ asked_of s.n.0 s.darts s.h.0 (fits (folded a.pyramid.now) a.level.0 a.table.now) a.level.0 0 0
asked_is c =
    let a = c.args in
    let s = a.pyramid.now.sizes in
    let fit : c.if-lent.fit ≡ fits (folded a.pyramid.now) a.level.0 a.table.now = elim c.if-lent.branch [ then-lent w ↦ w.fit-is ∙ w.rows_fit-fit.ensures ∙ rw (← c.pyramid_fits-lent.ensures, w.if-lent.true) | else-lent w ↦ w.fit-is ∙ rw (← c.pyramid_fits-lent.ensures, w.if-lent.false) ] in
    c.asked.ensures ∙ ap (λ (b : Bool). asked_of s.n.0 s.darts s.h.0 b a.level.0 0 0) fit

ok : (c : In_ok-asked) → let a = c.args in let s = a.pyramid.now.sizes in accepted ≡ asked_of s.n.0 s.darts s.h.0 (fits (folded a.pyramid.now) a.level.0 a.table.now) a.level.0 0 0
ok c = told (asked_is (goal.at.In_ok-asked c).After-asked) c.in_ok-asked.was

-- what it tells of the lengths
sized : (c : In_ok-asked) → let a = c.args in let s = a.pyramid.now.sizes in Lent (folded a.pyramid.now) a.level.0 × (length a.table.now ≡ suc s.n.0 * s.darts)
sized c = let a = c.args in unfold_lent_lem (folded a.pyramid.now) a.level.0 a.table.now (sym (ok c))

-- and then 8 over all darts
marks-are : (c : After-marks_refusal) → let p = c.args.pyramid.now in verdict_of c.marks_refusal.result ≡ scan p.sizes.darts (at_marks8 p.sizes.n.0 p.sizes.h.0 (each p.lambda.now) (each p.delta.now) c.args.level.0)
marks-are c =
    let p = c.args.pyramid.now in
    let s = (sized (goal.at.After-marks_refusal c).In_ok-asked).0 in
    c.marks_refusal.ensures ∙ marks_decide p.sizes.n.0 p.sizes.darts p.sizes.h.0 p.lambda.now p.delta.now c.args.level.0 s.lambda_length s.delta_length

fine : (c : In_ok-marks_refusal) → let p = c.args.pyramid.now in accepted ≡ scan p.sizes.darts (at_marks8 p.sizes.n.0 p.sizes.h.0 (each p.lambda.now) (each p.delta.now) c.args.level.0)
fine c = told (marks-are (goal.at.In_ok-marks_refusal c).After-marks_refusal) c.in_ok-marks_refusal.was

pub returns-in_err-asked : goal.returns-in_err-asked
returns-in_err-asked c =
    let a = c.args in
    let g = unfold_first (folded a.pyramid.now) a.level.0 a.table.now c.in_err-asked.field-0.0 (told (asked_is (goal.at.returns-in_err-asked c).After-asked) c.in_err-asked.was) in
    rw (passed_on c.from_residual.result c.from_residual.ensures.1) (record { verdict = g.0; total = g.1.0; since = g.1.1.0; table_left = g.1.1.1 })

pub returns-in_err-marks_refusal : goal.returns-in_err-marks_refusal
returns-in_err-marks_refusal c =
    let a = c.args in
    let at = goal.at.returns-in_err-marks_refusal c in
    let g = unfold_marks (folded a.pyramid.now) a.level.0 a.table.now (ok at.In_ok-asked) c.in_err-marks_refusal.field-0.0 (told (marks-are at.After-marks_refusal) c.in_err-marks_refusal.was) in
    rw (passed_on c.from_residual-in_err-marks_refusal.result c.from_residual-in_err-marks_refusal.ensures.1) (record { verdict = g.0; total = g.1.0; since = g.1.1.0; table_left = g.1.1.1 })

pub fill-walks-requires : goal.fill-walks-requires
fill-walks-requires c =
    let p = c.args.pyramid.now in
    let at = goal.at.fill-walks-requires c in
    let s = sized at.In_ok-asked in
    (record { lent = s.0; allowed = allowed p.sizes.n.0 p.sizes.darts p.sizes.h.0 p.lambda.now p.delta.now c.args.level.0 (sym (fine at.In_ok-marks_refusal)) }, s.1)

pub returns-then-is_err : goal.returns-then-is_err
returns-then-is_err c =
    let a = c.args in
    let at = goal.at.returns-then-is_err c in
    let g = unfold_refused (folded a.pyramid.now) a.level.0 a.table.now (ok at.In_ok-asked) (fine at.In_ok-marks_refusal) c.fill-walks.result c.fill-walks.ensures c.if-is_err.ensures.value (sized at.In_ok-asked).1 (c.fill.ensures.after (λ y e. e)) in
    record { verdict = g.0; total = g.1.0; since = g.1.1.0; table_left = g.1.1.1 }

pub returns-else-is_err : goal.returns-else-is_err
returns-else-is_err c =
    let a = c.args in
    let at = goal.at.returns-else-is_err c in
    let g = unfold_counted (folded a.pyramid.now) a.level.0 a.table.now (ok at.In_ok-asked) (fine at.In_ok-marks_refusal) c.fill-walks.result c.fill-walks.ensures c.if-is_err.ensures.value in
    record { verdict = g.0; total = g.1.0; since = g.1.1.0; table_left = g.1.1.1 }
