-- `carrying::carry` meets its contract. The invariant: the links that lead to darts passed have their new number, the others are as before. The measure is the darts left. Assumes nothing.
use mathlib.Core.Path.{◌≡◌, refl, sym, ap, ◌∙◌}
use Prim.Native.Nat.{ℕ, ◌+◌}
use native.Mathlib.Omega.{arith}
use borrow.Author.Tests.{eqb-true}
use Rattle.maps.specs.Mark.{between}
use Rattle.kernels.specs.Ready.{row_of}
use Rattle.kernels.proofs.Strung.{in_kernel_lem, mark_is}
use Rattle.kernels.proofs.Places.{place, place_still}
use Rattle.carrying.specs.Carried.{counted}
use Rattle.carrying.proofs.Leading.{led_start, led_all, followed, leads_as, sum_as, put_as, kept_as}
use Rattle.carrying.proofs.carry.Goals.{in-Some, in_default}
use Rattle.carrying.proofs.carry.Goals as goal

pub loop-d-init : goal.loop-d-init
loop-d-init c = let p = c.requires.can_take in led_start p.0 p.1.string

pub entering-requires : goal.entering-requires
entering-requires c = (c.requires.can_take, c.loop-d-test.true, c.loop-d.invariant.here c.loop-d-test.true)

pub follow-more-requires : goal.follow-more-requires
follow-more-requires c =
    let p = c.requires.can_take in
    let v = c.loop-d.invariant in
    let ld = c.loop-d-test.true in
    let e = c.in-Some.ensures in
    let z = p.0.tested.shape.dimension in
    let here = eqb-true _ _ (in_kernel_lem p.1.marks z c.loop-d.d ld ∙ v.here ld) in
    let own = ap (λ (m : ℕ). (between m).0) (mark_is p.1.marks z c.loop-d.d ld (v.here ld)) in
    record { can_follow = (p.1.marks, followed p.0, v.table.long ∙ c.requires.reads_len.0); row_le_n = (e.low, ld, here, own ∙ sym e.row) }

pub at-requires : goal.at-requires
at-requires c =
    let e = c.in-Some.ensures in
    place_still (c.loop-d.invariant.table.long ∙ c.requires.reads_len.0) (place c.requires.can_take.0.tested.shape _ _ e.low e.inside)

pub overflow_cast-sum : goal.overflow_cast-sum
overflow_cast-sum c =
    let p = c.requires.can_take in
    let v = c.loop-d.invariant in
    let ld = c.loop-d-test.true in
    let e = c.in-Some.ensures in
    let summed : let a = c.args in c.at.result + c.follow-more.result ≡ counted a.kernel.now.n.0 a.kernel.now.darts (row_of a.kernel.now) a.block.now a.reads.now c.in-Some.i.0 c.in-Some.b =
    sum_as p.0 p.1.string v ld e.row e.dart e.stays c.at.ensures.0 c.follow-more.ensures.answer in
    omega (arith, summed, c.requires.reads_len.1 _ _ e.low e.inside (leads_as p.0 p.1.string v ld e.row e.dart e.stays))

pub put-requires : goal.put-requires
put-requires c =
    let e = c.in-Some.ensures in
    place_still (c.loop-d.invariant.table.long ∙ c.requires.reads_len.0) (place c.requires.can_take.0.tested.shape _ _ e.low e.inside)

pub loop-d-preserved : goal.loop-d-preserved
loop-d-preserved c =
    let p = c.requires.can_take in
    let v = c.loop-d.invariant in
    let ld = c.loop-d-test.true in
    elim c.match-entering.branch [
      | in-Some w ↦
          let e = w.in-Some.ensures in
          rw (w.reads-is, w.put.ensures) (put_as p.0 p.1.string v ld c.next_of-d.ensures e.row e.dart e.stays (place_still c.requires.reads_len.0 (place p.0.tested.shape _ _ e.low e.inside)) _ (sum_as p.0 p.1.string v ld e.row e.dart e.stays w.at.ensures.0 w.follow-more.ensures.answer))
      | in_default w ↦ rw w.reads-is (kept_as p.0 p.1.string v ld c.next_of-d.ensures refl refl w.in_default.ensures)
    ]

pub returns : goal.returns
returns c = let p = c.requires.can_take in led_all p.0 p.1.string c.loop-d.invariant c.loop-d-test.false
