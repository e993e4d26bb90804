-- `filling::onward` meets its contract. The invariant: a dart was met by row t that is not on the level, the whole walk goes on from it, and one more than the largest Λ so far is the level so far. The measure: the reads that are left. Assumes nothing.
use mathlib.Core.Path.{◌≡◌, refl}
use Prim.Native.Nat.{◌+◌, max}
use native.Mathlib.Omega.{arith}
use Rattle.std.specs.Prelude.{Some}
use Rattle.std.proofs.lemmas.Grind.{common_steps}
use Rattle.maps.specs.Table.{each}
use Rattle.answers.specs.Marked.{Goes}
use Rattle.answers.specs.Pyramid.{folded}
use Rattle.answers.proofs.Marked.{goes_told}
use Rattle.filling.proofs.Gone.{off_level, on_level}
use Rattle.reading.proofs.Walking.{entry_fits, Next, strays, arrives, arrived, met_first, met_mark, met_no_pass, met_long, met_passes}
use Rattle.filling.proofs.onward.Goals.{In-Some, Else-count-most}
use Rattle.filling.proofs.onward.Goals as goal

-- by which row the walk goes on
goes : (c : In-Some) → Goes (each c.args.pyramid.now.delta.now c.loop-row.from) c.loop-row.t.0 (Some c.in-Some.row)
goes c = goes_told (each c.args.pyramid.now.delta.now c.loop-row.from) c.loop-row.t.0 (rw c.delta_at-mark.ensures at c.row_across.ensures) c.in-Some.is

-- the walk goes on from the dart met
next : (c : Else-count-most) → let a = c.args in Next (folded a.pyramid.now) a.asked.level.0 a.asked.involution.0 a.asked.dart c.in-Some.row.0 c.loop-row.from c.loop-row.count (c.loop-row.largest.0 + 1)
next c = let g = goes (goal.at.Else-count-most c).In-Some in met_passes c.requires.0 c.loop-row.invariant.1 g.0 c.if-count-most.false g.1

pub loop-row-init : goal.loop-row-init
loop-row-init c = let e = c.lambda_at-largest.ensures in (rw e c.requires.1.gone, rw e (met_first c.requires.1))

pub row_across-requires : goal.row_across-requires
row_across-requires c = rw c.delta_at-mark.ensures (met_mark c.requires.0 c.loop-row.invariant.1)

pub returns-in_default : goal.returns-in_default
returns-in_default c =
    let l = c.loop-row in
    let nowhere = goes_told (each c.args.pyramid.now.delta.now l.from) l.t.0 (rw c.delta_at-mark.ensures at c.row_across.ensures) c.in_default.is in
    record { number = 14; row = l.t.0; dart = l.from; is = met_no_pass c.requires.0 l.invariant.1 nowhere; said = refl; stops = refl }

pub returns-then-count-most : goal.returns-then-count-most
returns-then-count-most c =
    let a = c.args in
    let g = goes (goal.at.returns-then-count-most c).In-Some in
    record { number = 15; row = a.asked.involution.0; dart = a.asked.dart; is = met_long c.requires.0 c.loop-row.invariant.1 g.0 c.if-count-most.true; said = refl; stops = refl }

pub at-e-requires : goal.at-e-requires
at-e-requires c = let x = next (goal.at.at-e-requires c).Else-count-most in entry_fits c.requires.0.lent x.row x.dart

pub returns-then-darts-e : goal.returns-then-darts-e
returns-then-darts-e c =
    let x = next (goal.at.returns-then-darts-e c).Else-count-most in
    record { number = 5; row = c.in-Some.row.0; dart = c.loop-row.from; is = strays x c.at-e.ensures c.if-darts-e.true; said = refl; stops = refl }

pub returns-then-not-is_gone : goal.returns-then-not-is_gone
returns-then-not-is_gone c =
    let x = next (goal.at.returns-then-not-is_gone c).Else-count-most in
    let at = c.at-e in
    let e = c.if-darts-e.false in
    let on = on_level c.args.asked.level.0 c.lambda_at-own.ensures c.is_gone.ensures c.if-not-is_gone.true in
    record {
      row = c.in-Some.row.0;
      is = arrives x at.ensures e (c.requires.0.allowed at.result e) on;
      few = omega (arith, x.few);
      stands = arrived x at.ensures on;
    }

pub loop-row-preserved : goal.loop-row-preserved
loop-row-preserved c =
    let l = c.loop-row in
    let own = c.lambda_at-own in
    let x = next (goal.at.loop-row-preserved c).Else-count-most in
    let gone = off_level c.args.asked.level.0 own.ensures c.is_gone.ensures c.if-not-is_gone.false in
    let larger : c.max-largest.result.0 ≡ max l.largest.0 own.result.0 = grind (arith, common_steps) in (
      omega (arith, larger, own.ensures, gone, l.invariant.0),
      record { source = l.from; before = l.count; so_far = l.largest.0 + 1; next = x; reads = refl; meets = record { row = x.row; start = x.dart; read = c.at-e.ensures; dart = c.if-darts-e.false; gone = gone }; raise = omega (arith, larger, own.ensures) },
    )
