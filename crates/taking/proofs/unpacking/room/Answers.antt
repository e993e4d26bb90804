-- `taking::room` meets its contract. Assumes nothing.
use native.Mathlib.Omega.{arith}
use borrow.Author.Tests.{lt-ltb, le-ltb}
use Rattle.maps.specs.Sizes.{number4}
use Rattle.taking.specs.Parts.{room_of}
use Rattle.taking.proofs.unpacking.room.Goals as goal

pub returns-then-end-length : goal.returns-then-end-length
unfolding room_of number4
returns-then-end-length c = let a = c.args in simp (lt-ltb a.end a.length (omega arith))

pub returns-then-not-enough : goal.returns-then-not-enough
unfolding room_of number4
returns-then-not-enough c = let a = c.args in simp (le-ltb a.end a.length (omega arith), c.if-not-enough.true)

pub returns : goal.returns
unfolding room_of number4
returns c = let a = c.args in simp (le-ltb a.end a.length (omega arith), c.if-not-enough.false)
