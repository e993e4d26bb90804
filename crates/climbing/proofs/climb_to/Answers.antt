-- `climbing::climb_to` meets its contract: the climb begins and goes on to the level. Assumes nothing.
use mathlib.Core.Path.{refl}
use native.Mathlib.Omega.{arith}
use lib.ListN.{get_or-replicate}
use Rattle.climbing.proofs.Steps.{climb_none}
use Rattle.climbing.proofs.climb_to.Goals as goal

pub begin-requires : goal.begin-requires
begin-requires c = let p = c.requires in (omega (arith, p.0.darts, p.0.lambda_long), record { none = λ k lk. get_or-replicate 256 k 65535 0 lk; heads = refl; room = refl }, p.2)

pub go_on-requires : goal.go_on-requires
go_on-requires c = let b = c.begin.ensures in (omega arith, c.requires.1, (c.args.pyramid.now.rows.now, climb_none c.requires.0 b.strung b.table_left))

pub returns : goal.returns
returns c =
    let b = c.begin.ensures in
    let start = climb_none c.requires.0 b.strung b.table_left in
    record { verdict = c.go_on.ensures.verdict c.args.pyramid.now.rows.now start; table_left = c.go_on.ensures.table_left c.args.pyramid.now.rows.now start }
