-- `reading::walk` meets its contract. The invariant: the whole walk is the rest of it, from row t of a dart, and the darts passed give the level so far. The measure: the reads that are left. Assumes nothing.
use mathlib.Core.Path.{◌≡◌, sym, ap, ◌∙◌}
use mathlib.Core.Bool.{false, not}
use Prim.Native.Nat.{◌+◌, max}
use native.Mathlib.Omega.{arith}
use borrow.Author.Tests.{ltb-true, ltb-false}
use Rattle.std.specs.Prelude.{Some}
use Rattle.maps.specs.Table.{each}
use Rattle.maps.specs.Folded.{gone, refused_marks}
use Rattle.answers.specs.Marked.{Goes}
use Rattle.answers.specs.Pyramid.{folded}
use Rattle.std.proofs.lemmas.Grind.{common_steps}
use Rattle.answers.proofs.Marked.{goes_told}
use Rattle.reading.specs.Walks.{Meets}
use Rattle.reading.proofs.Walking.{stop_says, end_says, gone_marks, next_first, strays, bad_marks, arrives, arrived, met_byte, no_pass, long, passes}
use Rattle.reading.proofs.walk.Goals.{After-is_gone, After-marks_refused, After-is_mark, Else-not-is_gone, Else-not-is_mark, After-row_across, In-Some}
use Rattle.reading.proofs.walk.Goals as goal

-- whether the dart met is gone from the level
gone-is : (c : After-is_gone) → let a = c.args in gone (each a.pyramid.now.lambda.now) a.asked.level.0 c.at-e.result ≡ c.is_gone.result
gone-is c = rw c.lambda_at-own.ensures at (sym c.is_gone.ensures)

-- whether its marks are refused, where it is on the level
marks-are : (c : After-marks_refused) → let p = c.args.pyramid.now in let e = c.at-e.result in refused_marks p.sizes.n.0 p.sizes.h.0 (each p.lambda.now e) (each p.delta.now e) ≡ c.marks_refused.result
marks-are c = rw (c.lambda_at-own.ensures, c.delta_at-mark.ensures) at (sym c.marks_refused.ensures)

-- a dart that is not on the level was met
met : (c : Else-not-is_gone) → let a = c.args in let l = c.loop-asked in Meets (folded a.pyramid.now) a.asked.level.0 l.t.0 l.from c.at-e.result
met c = let s = c.loop-asked.invariant in record { row = s.row; start = s.dart; read = c.at-e.ensures; dart = c.if-darts-e.false; gone = ltb-true _ _ (gone-is (goal.at.Else-not-is_gone c).After-is_gone ∙ c.if-not-is_gone.false) }

-- whether its marks are allowed is whether its mark is one
decided : (c : After-is_mark) → let p = c.args.pyramid.now in let e = c.at-e.result in refused_marks p.sizes.n.0 p.sizes.h.0 (each p.lambda.now e) (each p.delta.now e) ≡ not c.is_mark.result
decided c =
    let p = c.args.pyramid.now in
    let e = c.at-e.result in
    gone_marks p.sizes.n.0 p.sizes.h.0 (each p.lambda.now e) (each p.delta.now e) c.args.asked.level.0 c.requires.0.level (met (goal.at.After-is_mark c).Else-not-is_gone).gone
    ∙ ap not (rw c.delta_at-mark.ensures at (sym c.is_mark.ensures))

allowed : (c : Else-not-is_mark) → let p = c.args.pyramid.now in let e = c.at-e.result in refused_marks p.sizes.n.0 p.sizes.h.0 (each p.lambda.now e) (each p.delta.now e) ≡ false
allowed c = decided (goal.at.Else-not-is_mark c).After-is_mark ∙ ap not c.if-not-is_mark.false

-- by which row the walk goes on
passed : (c : In-Some) → let p = c.args.pyramid.now in Goes (each p.delta.now c.at-e.result) c.loop-asked.t.0 (Some c.in-Some.row)
passed c = goes_told (each c.args.pyramid.now.delta.now c.at-e.result) c.loop-asked.t.0 (rw c.delta_at-mark.ensures at c.row_across.ensures) c.in-Some.is

pub loop-asked-init : goal.loop-asked-init
loop-asked-init c =
    let a = c.args in
    let p = c.requires in
    next_first (folded a.pyramid.now) a.asked.level.0 a.asked.involution.0 a.asked.dart p.1 p.2

pub returns-then-darts-e : goal.returns-then-darts-e
returns-then-darts-e c = let both = stop_says _ (strays c.loop-asked.invariant c.at-e.ensures c.if-darts-e.true) in record { answer = both.0; since = both.1 }

pub returns-then-marks_refused : goal.returns-then-marks_refused
returns-then-marks_refused c =
    let marks = marks-are (goal.at.returns-then-marks_refused c).After-marks_refused in
    let both = stop_says _ (bad_marks c.loop-asked.invariant c.at-e.ensures c.if-darts-e.false (marks ∙ c.if-marks_refused.true)) in
    record { answer = both.0; since = both.1 }

pub returns-then-not-is_gone : goal.returns-then-not-is_gone
returns-then-not-is_gone c =
    let at = goal.at.returns-then-not-is_gone c in
    let on = ltb-false _ _ (gone-is at.After-is_gone ∙ c.if-not-is_gone.true) in
    let marks = marks-are at.After-marks_refused ∙ c.if-marks_refused.false in
    let both = end_says _ (arrives c.loop-asked.invariant c.at-e.ensures c.if-darts-e.false marks on) (arrived c.loop-asked.invariant c.at-e.ensures on) in
    record { answer = both.0; since = both.1 }

pub returns-then-not-is_mark : goal.returns-then-not-is_mark
returns-then-not-is_mark c =
    let marks = decided (goal.at.returns-then-not-is_mark c).After-is_mark in
    let both = stop_says _ (bad_marks c.loop-asked.invariant c.at-e.ensures c.if-darts-e.false (marks ∙ ap not c.if-not-is_mark.true)) in
    record { answer = both.0; since = both.1 }

pub row_across-requires : goal.row_across-requires
row_across-requires c =
    rw c.delta_at-mark.ensures (met_byte c.loop-asked.invariant (met (goal.at.row_across-requires c).Else-not-is_gone) c.requires.0.level (allowed c) c.requires.0.dimension)

pub returns-in_default : goal.returns-in_default
returns-in_default c =
    let at = goal.at.returns-in_default c in
    let nowhere = goes_told (each c.args.pyramid.now.delta.now c.at-e.result) c.loop-asked.t.0 (rw c.delta_at-mark.ensures at c.row_across.ensures) c.in_default.is in
    let both = stop_says _ (no_pass c.loop-asked.invariant (met at.Else-not-is_gone) c.requires.0.level (allowed at.Else-not-is_mark) nowhere) in
    record { answer = both.0; since = both.1 }

pub returns-then-count-most : goal.returns-then-count-most
returns-then-count-most c =
    let at = goal.at.returns-then-count-most c in
    let both = stop_says _ (long c.loop-asked.invariant (met at.Else-not-is_gone) c.requires.0.level (allowed at.Else-not-is_mark) (passed at.In-Some).0 c.if-count-most.true) in
    record { answer = both.0; since = both.1 }

pub overflow_add-own : goal.overflow_add-own
overflow_add-own c =
    let p = c.requires.0 in
    let gone = rw (← c.lambda_at-own.ensures) at (met (goal.at.overflow_add-own c).Else-not-is_gone).gone in
    record { fits = omega (arith, gone, p.level, p.height) }

pub loop-asked-preserved : goal.loop-asked-preserved
loop-asked-preserved c =
    let at = goal.at.loop-asked-preserved c in
    let g = passed at.In-Some in
    let later : c.max-since.result.0 ≡ max c.loop-asked.since.0 (c.lambda_at-own.result.0 + 1) = grind (arith, common_steps) in
    passes c.loop-asked.invariant (met at.Else-not-is_gone) c.requires.0.level (allowed at.Else-not-is_mark) g.0 c.if-count-most.false g.1 (rw c.lambda_at-own.ensures at later)
