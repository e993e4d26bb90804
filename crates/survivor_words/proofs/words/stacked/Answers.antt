-- `survivor_words::words::stacked` meets its contract. The invariant: the rows passed are stacked, as high as the byte. The measure: the rows left. Assumes nothing.
use mathlib.Core.Path.{◌≡◌, refl}
use Prim.Native.Nat.{◌+◌, ◌-◌}
use native.Mathlib.Omega.{arith}
use lib.Pow.{pow_pos}
use Rattle.maps.specs.Count.{sum}
use Rattle.survivor_words.specs.Parts.{stack_of}
use Rattle.survivor_words.proofs.Lanes.{row_room, row_more}
use Rattle.survivor_words.proofs.words.stacked.Goals as goal

pub loop-j-init : goal.loop-j-init
unfolding sum stack_of
loop-j-init c = (omega arith, refl, omega arith)

pub overflow_add-stack : goal.overflow_add-stack
overflow_add-stack c =
    let a = c.args in
    let l = c.loop-j in
    omega (arith, row_room a.part.now a.level.0 l.j l.stack c.loop-j-test.true (omega arith) l.invariant.2 c.eight_signs.ensures, pow_pos (7 - l.j))

pub loop-j-preserved : goal.loop-j-preserved
loop-j-preserved c =
    let a = c.args in
    let l = c.loop-j in
    let next : 8 - (l.j + 1) ≡ 7 - l.j = omega arith in (
      omega arith,
      rw next (row_more a.part.now a.level.0 l.j l.stack c.loop-j-test.true (omega arith) l.invariant.2 c.eight_signs.ensures l.invariant.1),
      rw next (row_room a.part.now a.level.0 l.j l.stack c.loop-j-test.true (omega arith) l.invariant.2 c.eight_signs.ensures),
    )
