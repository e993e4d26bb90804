-- `joined_kernels::climb` meets its contract. Assumes nothing.
use mathlib.Core.Path.{◌≡◌, refl, sym, ◌∙◌}
use native.Mathlib.Omega.{arith}
use lib.ListN.{get_or-replicate}
use Rattle.maps.specs.Folded.{Folded}
use Rattle.maps.specs.Verdict.{accepted}
use Rattle.answers.specs.Pyramid.{folded}
use Rattle.answers.proofs.Refusals.{passed_on, told}
use Rattle.climbing.specs.Climb.{climbs}
use Rattle.climbing.proofs.Steps.{climb_none, climb_stopped, climb_reached}
use Rattle.joined_kernels.proofs.Climbs.{to_top, top_left, not_climbed, not_joined, all_joined}
use Rattle.joined_kernels.proofs.climb.Goals as goal

pub begin-requires : goal.begin-requires
begin-requires c =
    let p = c.requires in
    (omega (arith, p.0.darts, p.0.lambda_long), record { none = λ k lk. get_or-replicate 256 k 65535 0 lk; heads = refl; room = refl }, p.2)

pub go_on-requires : goal.go_on-requires
go_on-requires c =
    let b = c.begin.ensures in
    (omega arith, omega (arith, c.requires.1), (c.args.pyramid.now.rows.now, climb_none c.requires.0 b.strung b.table_left))

pub returns-in_err-go_on : goal.returns-in_err-go_on
returns-in_err-go_on c =
    let P : Folded = let a = c.args in folded a.pyramid.now in
    let b = c.begin.ensures in
    let rows = c.args.pyramid.now.rows.now in
    let start = climb_none c.requires.0 b.strung b.table_left in
    let g = c.go_on.ensures in
    let x = climb_stopped P c.args.level.0 (omega (arith, c.requires.1)) c.in_err-go_on.field-0.0 (told (g.verdict rows start) c.in_err-go_on.was) (g.table_left rows start) in
    let both = not_climbed P c.args.level.0 c.in_err-go_on.field-0.0 x.0 x.1 in
    rw (passed_on c.from_residual.result c.from_residual.ensures.1) (record { verdict = both.0; table_left = both.1 })

-- the level is reached
pub tested-found-requires : goal.tested-found-requires
tested-found-requires c =
    let b = c.begin.ensures in
    let g = c.go_on.ensures in
    let rows = c.args.pyramid.now.rows.now in
    let start = climb_none c.requires.0 b.strung b.table_left in
    (c.requires.1, (_, (_, climb_reached start (omega (arith, c.requires.1)) (told (g.verdict rows start) c.in_ok-go_on.was) (g.table_left rows start))))

pub go_on-requires-2 : goal.go_on-requires-2
go_on-requires-2 c =
    let b = c.begin.ensures in
    let g = c.go_on.ensures in
    let rows = c.args.pyramid.now.rows.now in
    let start = climb_none c.requires.0 b.strung b.table_left in
    (omega (arith, c.requires.1), omega arith, (rows, climb_reached start (omega (arith, c.requires.1)) (told (g.verdict rows start) c.in_ok-go_on.was) (g.table_left rows start)))

pub returns-in_err-go_on-2 : goal.returns-in_err-go_on-2
returns-in_err-go_on-2 c =
    let P : Folded = let a = c.args in folded a.pyramid.now in
    let b = c.begin.ensures in
    let g = c.go_on.ensures in
    let rows = c.args.pyramid.now.rows.now in
    let start = climb_none c.requires.0 b.strung b.table_left in
    let at = climb_reached start (omega (arith, c.requires.1)) (told (g.verdict rows start) c.in_ok-go_on.was) (g.table_left rows start) in
    let h = c.go_on-2.ensures in
    let both = not_climbed P c.args.level.0 c.in_err-go_on-2.field-0.0 (told (h.verdict rows at) c.in_err-go_on-2.was ∙ to_top P) (h.table_left rows at ∙ top_left P) in
    rw (passed_on c.from_residual-in_err-go_on-2.result c.from_residual-in_err-go_on-2.ensures.1) (record { verdict = both.0; table_left = both.1 })

pub returns-then-is_err : goal.returns-then-is_err
returns-then-is_err c =
    let P : Folded = let a = c.args in folded a.pyramid.now in
    let b = c.begin.ensures in
    let g = c.go_on.ensures in
    let rows = c.args.pyramid.now.rows.now in
    let start = climb_none c.requires.0 b.strung b.table_left in
    let at = climb_reached start (omega (arith, c.requires.1)) (told (g.verdict rows start) c.in_ok-go_on.was) (g.table_left rows start) in
    let h = c.go_on-2.ensures in
    let all : accepted ≡ climbs P = told (h.verdict rows at) c.in_ok-go_on-2.was ∙ to_top P in
    let both = not_joined P c.args.level.0 all c.tested-found.result c.if-is_err.ensures.value (c.tested-found.ensures (sym all)) (sym (told (g.verdict rows start) c.in_ok-go_on.was)) c.climb_to.ensures.table_left in
    record { verdict = both.0; table_left = both.1 }

pub returns-else-is_err : goal.returns-else-is_err
returns-else-is_err c =
    let P : Folded = let a = c.args in folded a.pyramid.now in
    let b = c.begin.ensures in
    let g = c.go_on.ensures in
    let rows = c.args.pyramid.now.rows.now in
    let start = climb_none c.requires.0 b.strung b.table_left in
    let at = climb_reached start (omega (arith, c.requires.1)) (told (g.verdict rows start) c.in_ok-go_on.was) (g.table_left rows start) in
    let h = c.go_on-2.ensures in
    let all : accepted ≡ climbs P = told (h.verdict rows at) c.in_ok-go_on-2.was ∙ to_top P in
    let both = all_joined P c.args.level.0 all c.tested-found.result c.if-is_err.ensures.value (c.tested-found.ensures (sym all)) (h.table_left rows at ∙ top_left P) in
    record { verdict = both.0; table_left = both.1 }
