-- `counting::count_levels` meets its contract. The invariant: the climb has come to a level, which the table holds, and the levels up to it are counted. Assumes nothing.
use mathlib.Core.Path.{refl, sym, subst, ◌∙◌}
use mathlib.Core.List.{List}
use Prim.Native.Nat.{ℕ, ◌+◌, ◌≤◌, zero-le}
use native.Mathlib.Omega.{arith}
use lib.ListN.{get_or-replicate}
use Rattle.answers.specs.Pyramid.{folded}
use Rattle.climbing.proofs.Steps.{climb_none, climb_reached}
use Rattle.counting.specs.Counts.{LevelCounted, Counted}
use Rattle.counting.proofs.Levels.{climb_base, climb_passes, table_climbed}
use Rattle.counting.proofs.Whole.{counted_none, counted_row, climbed_table, climbed_explicit}
use Rattle.counting.proofs.count_levels.Goals as goal

pub begin-requires : goal.begin-requires
begin-requires c =
    let p = c.requires in
    (omega (arith, p.darts.1, p.lambda_length), record { none = λ k lk. get_or-replicate 256 k 65535 0 lk; heads = refl; room = refl }, p.table_length ∙ sym p.rows_length)

pub count_level-requires : goal.count_level-requires
count_level-requires c =
    let P = folded c.args.pyramid.now in
    let T = c.args.table.now in
    let climbed = climb_none (climb_base P T c.requires 0 zero-le) c.begin.ensures.strung c.begin.ensures.table_left in
    (climbed_explicit P T c.requires 0 zero-le _ (climbed.holds ∙ sym (table_climbed P T c.requires 0 zero-le)), c.requires.dimension.0)

pub loop-l-init : goal.loop-l-init
loop-l-init c =
    let P = folded c.args.pyramid.now in
    let T = c.args.table.now in
    let z = c.args.pyramid.now.sizes in
    let first = c.count_level in
    let climbed = climb_none (climb_base P T c.requires 0 zero-le) c.begin.ensures.strung c.begin.ensures.table_left in
    let none = subst (λ (t : List (List ℕ)). Counted P t 0) (sym c.zeros-counts.ensures) (counted_none P) in
    let row = subst (λ (t : List ℕ). LevelCounted z.n.0 z.darts t first.result) climbed.holds first.ensures in
    (zero-le, climbed, counted_row P T c.requires c.zeros-counts.result 0 zero-le none first.result row)

pub count_level-requires-in-loop-l : goal.count_level-requires-in-loop-l
count_level-requires-in-loop-l c =
    let P = folded c.args.pyramid.now in
    let T = c.args.table.now in
    let l = c.loop-l in
    (climbed_explicit P T c.requires (l.l + 1) (omega (arith, c.loop-l-test.true)) _ (c.go_on.ensures.table_left c.args.pyramid.now.rows.now l.invariant.1), c.requires.dimension.0)

pub loop-l-preserved : goal.loop-l-preserved
loop-l-preserved c =
    let P = folded c.args.pyramid.now in
    let T = c.args.table.now in
    let z = c.args.pyramid.now.sizes in
    let l = c.loop-l in
    let up : l.l + 1 ≤ z.h.0 = omega (arith, c.loop-l-test.true) in
    let climbed = c.go_on.ensures.table_left c.args.pyramid.now.rows.now l.invariant.1 in
    let counted = c.count_level-in-loop-l in
    let row = subst (λ (t : List ℕ). LevelCounted z.n.0 z.darts t counted.result) (climbed_table P T c.requires (l.l + 1) up _ climbed) counted.ensures in
    (up, climb_reached l.invariant.1 up (sym (climb_passes P T c.requires (l.l + 1) up)) climbed, counted_row P T c.requires l.counts (l.l + 1) up l.invariant.2 counted.result row)

pub go_on-requires : goal.go_on-requires
go_on-requires c = (omega arith, omega (arith, c.loop-l-test.true), (c.args.pyramid.now.rows.now, c.loop-l.invariant.1))
