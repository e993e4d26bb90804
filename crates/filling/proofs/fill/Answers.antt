-- `filling::fill` meets its contract. The invariant of both loops: the table is filled so far, the place is that of the row and dart, and no walk so far was refused. The measures: the rows and the darts that are left. Assumes nothing.
use mathlib.Core.Path.{◌≡◌, refl, sym, ap, ◌∙◌}
use Prim.Native.Nat.{ℕ, ◌+◌, ◌*◌, ◌≤◌, ◌<◌, zero-le, max}
use native.Mathlib.Omega.{arith}
use lib.ListN.{length}
use Rattle.std.proofs.lemmas.Grind.{common_steps}
use Rattle.maps.specs.Table.{each}
use Rattle.laws.proofs.Tables.{in_table, table_size}
use Rattle.answers.specs.declared.Level.{Level}
use Rattle.answers.specs.Pyramid.{folded}
use Rattle.answers.proofs.Refusals.{refusal_refuses}
use Rattle.answers.specs.Numbers.{refusal_of}
use Rattle.answers.specs.declared.Refusal.{Refusal}
use Rattle.std.specs.Prelude.{Option, Some, None}
use Rattle.maps.specs.Verdict.{Verdict, accepted}
use Rattle.laws.proofs.Verdicts.{not_refused}
use Rattle.filling.proofs.Gone.{off_level, on_level}
use Rattle.reading.proofs.Walking.{Next, next_first, strays, arrives, arrived}
use Rattle.filling.proofs.Filled.{filled_none, filled_row, filled_all, filled_absent, filled_end, filled_missed}
use Rattle.filling.proofs.fill.Goals.{After-lambda_at, then-is_gone, else-is_gone+else-darts-e+then-not-is_gone, else-is_gone+else-darts-e+else-not-is_gone+in-Ok, else-rows-test, then-rows-test+then-loop-d-test+else-is_gone+then-darts-e, then-rows-test+then-loop-d-test+else-is_gone+else-darts-e+else-not-is_gone+in-Err}
use Rattle.filling.proofs.fill.Goals as goal

-- where the loops stand
place : (c : After-lambda_at) → let a = c.args in let i = c.rows.i in let at = c.loop-d.place in (i ≤ a.pyramid.now.sizes.n.0) × (at ≡ i * a.pyramid.now.sizes.darts + c.loop-d.d) × (at < 20480) × (at < length a.pyramid.now.rows.now) × (at < length c.loop-d.table) × (c.loop-d.count ≤ 8193 * 20480)
place c =
    let s = c.args.pyramid.now.sizes in
    let p = c.requires.0.lent in
    let i = c.rows.i in
    let li : i ≤ s.n.0 = omega (arith, c.loop-d.invariant.1) in
    let z = table_size s.n.0 s.darts i p.dimension p.darts li in
    let y = in_table s.n.0 s.darts i c.loop-d.d li c.loop-d-test.true in
    let f = c.loop-d.invariant.2 in
    let is = c.loop-d.invariant.3 in
    (li, is, omega (arith, is), omega (arith, is, p.rows_length), omega (arith, is, f.size), omega (arith, f.small))

-- the walk of dart d by row i is next
first : (c : After-lambda_at) → let i = c.rows.i in let d = c.loop-d.d in Next (folded c.args.pyramid.now) c.args.level.0 i d i d 0 0
first c = next_first (folded c.args.pyramid.now) c.args.level.0 c.rows.i c.loop-d.d (place c).0 c.loop-d-test.true

-- the place is that of its first read
reads : (c : After-lambda_at) → let p = c.args.pyramid.now in each p.rows.now c.loop-d.place ≡ each p.rows.now (c.rows.i * p.sizes.darts + c.loop-d.d)
reads c = ap (each c.args.pyramid.now.rows.now) (place c).1

-- a level as a number
abbrev number : Level → ℕ
number l = l.0

pub rows-init : goal.rows-init
rows-init c = let a = c.args in (zero-le, filled_none (folded a.pyramid.now) a.level.0 c.requires.1, omega arith, refl)

pub loop-d-preserved : goal.loop-d-preserved
loop-d-preserved c =
    let at = (goal.at.loop-d-preserved c).After-lambda_at in
    let p = c.requires.0 in
    let v = c.loop-d.invariant in
    let l = c.args.level.0 in
    let e = each c.args.pyramid.now.rows.now c.loop-d.place in
    let on = on_level l c.lambda_at.ensures c.is_gone.ensures in (
      omega arith,
      v.1,
      (elim c.if-is_gone.branch [
        | then-is_gone w ↦ filled_absent v.2 (place at).0 c.loop-d-test.true (off_level l c.lambda_at.ensures c.is_gone.ensures w.if-is_gone.true) v.3 w.table-is w.count-is (ap number w.since-is)
        | else-is_gone+else-darts-e+then-not-is_gone w ↦
            let here = on_level l w.lambda_at-else-is_gone.ensures w.is_gone-else-is_gone.ensures w.if-not-is_gone.true in
            filled_end v.2 (place at).0 c.loop-d-test.true (on w.if-is_gone.false) (arrives (first at) (reads at) w.if-darts-e.false (p.allowed e w.if-darts-e.false) here) (omega arith) (arrived (first at) (reads at) here) v.3 w.table-is w.count-is (ap number w.since-is ∙ omega arith)
        | else-is_gone+else-darts-e+else-not-is_gone+in-Ok w ↦
            let asked = w.walk_of.ensures in
            let f = rw (asked.0, asked.1, asked.2) at w.in-Ok.ensures in
            let later : w.max-since.result.0 ≡ max c.loop-d.since.0 w.in-Ok.end.since.0 = grind (arith, common_steps) in
            filled_end v.2 (place at).0 c.loop-d-test.true (on w.if-is_gone.false) f.is (omega (arith, f.few, p.lent.darts)) f.stands v.3 w.table-is w.count-is (ap number w.since-is ∙ later)
      ]),
      omega (arith, v.3),
      v.4,
    )

pub rows-preserved : goal.rows-preserved
rows-preserved c = let v = c.loop-d.invariant in (omega arith, filled_row v.2 (omega arith), omega (arith, v.3), v.4)

pub onward-requires : goal.onward-requires
onward-requires c =
    let at = (goal.at.onward-requires c).After-lambda_at in
    let asked = c.walk_of.ensures in
    rw (asked.0, asked.1, asked.2) (c.requires.0, record { row = (place at).0; start = c.loop-d-test.true; read = reads at; dart = c.if-darts-e.false; gone = off_level c.args.level.0 c.lambda_at-else-is_gone.ensures c.is_gone-else-is_gone.ensures c.if-not-is_gone.false })

-- what stopped the walks, as a verdict
abbrev said : Option Refusal → Verdict
said None = accepted
said (Some why) = refusal_of why

-- no refusal is accepted
no_refusal : (why : Refusal) → refusal_of why ≡ accepted → ⊥
no_refusal why e = not_refused (sym (refusal_refuses why).is ∙ e)

pub returns-in-None : goal.returns-in-None
returns-in-None c =
    elim c.rows-test.branch [
      | else-rows-test w ↦ rw (w.table-is, w.count-is, w.since-is) (filled_all c.rows.invariant.1 (omega arith) refl refl)
      | then-rows-test+then-loop-d-test+else-is_gone+then-darts-e w ↦ absurd (not_refused (ap said (sym w.refused-is ∙ c.in-None.is)))
      | then-rows-test+then-loop-d-test+else-is_gone+else-darts-e+else-not-is_gone+in-Err w ↦ absurd (no_refusal w.in-Err.why (ap said (sym w.refused-is ∙ c.in-None.is)))
    ]

pub returns-in-Some : goal.returns-in-Some
returns-in-Some c =
    let p = c.args.pyramid.now in
    let l = c.args.level.0 in
    elim c.rows-test.branch [
      | else-rows-test w ↦ absurd (no_refusal c.in-Some.why (ap said (sym c.in-Some.is ∙ w.refused-is ∙ c.rows.invariant.3)))
      | then-rows-test+then-loop-d-test+else-is_gone+then-darts-e w ↦
          let v = w.loop-d.invariant in
          let row : c.rows.i ≤ p.sizes.n.0 = omega (arith, v.1) in
          let first = next_first (folded p) l c.rows.i w.loop-d.d row w.loop-d-test.true in
          rw w.table-is (filled_missed v.2 row w.loop-d-test.true (on_level l w.lambda_at.ensures w.is_gone.ensures w.if-is_gone.false) (strays first (ap (each p.rows.now) v.3) w.if-darts-e.true) (ap said (sym c.in-Some.is ∙ w.refused-is)) refl)
      | then-rows-test+then-loop-d-test+else-is_gone+else-darts-e+else-not-is_gone+in-Err w ↦
          let v = w.loop-d.invariant in
          let row : c.rows.i ≤ p.sizes.n.0 = omega (arith, v.1) in
          let asked = w.walk_of.ensures in
          let f = rw (asked.0, asked.1, asked.2) at w.in-Err.ensures in
          rw w.table-is (filled_missed v.2 row w.loop-d-test.true (on_level l w.lambda_at.ensures w.is_gone.ensures w.if-is_gone.false) f.is (ap said (sym c.in-Some.is ∙ w.refused-is) ∙ f.said) f.stops)
    ]
