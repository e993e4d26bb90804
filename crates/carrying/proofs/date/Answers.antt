-- `carrying::date` meets its contract. The invariant: the links that lead to darts passed have their new number, the others are as before. The measure is the darts left. Assumes nothing.
use mathlib.Core.Path.{refl, ◌∙◌}
use native.Mathlib.Numerals.{add-one}
use Rattle.kernels.proofs.Places.{place, place_still}
use Rattle.carrying.proofs.Leading.{led_start, led_all, put_as, kept_as}
use Rattle.carrying.proofs.date.Goals.{in-Some, in_default}
use Rattle.carrying.proofs.date.Goals as goal

pub loop-d-init : goal.loop-d-init
loop-d-init c = let p = c.requires.can_take in led_start p.0 p.1.string

pub entering-requires : goal.entering-requires
entering-requires c = (c.requires.can_take, c.loop-d-test.true, c.loop-d.invariant.here c.loop-d-test.true)

pub put-requires : goal.put-requires
put-requires c =
    let e = c.in-Some.ensures in
    place_still (c.loop-d.invariant.table.long ∙ c.requires.since_len) (place c.requires.can_take.0.tested.shape _ _ e.low e.inside)

pub loop-d-preserved : goal.loop-d-preserved
loop-d-preserved c =
    let p = c.requires.can_take in
    let v = c.loop-d.invariant in
    let ld = c.loop-d-test.true in
    elim c.match-entering.branch [
      | in-Some w ↦
          let e = w.in-Some.ensures in
          rw (w.since-is, w.put.ensures) (put_as p.0 p.1.string v ld c.next_of-d.ensures e.row e.dart e.stays (place_still c.requires.since_len (place p.0.tested.shape _ _ e.low e.inside)) _ (rw w.from.ensures (add-one _)))
      | in_default w ↦ rw w.since-is (kept_as p.0 p.1.string v ld c.next_of-d.ensures refl refl w.in_default.ensures)
    ]

pub returns : goal.returns
returns c = let p = c.requires.can_take in led_all p.0 p.1.string c.loop-d.invariant c.loop-d-test.false
