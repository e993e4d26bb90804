-- `answers::marks::lower_row` meets its contract. Assumes nothing.
use mathlib.Core.Path.{refl}
use native.Mathlib.Omega.{arith}
use borrow.Author.Tests.{lt-ltb, le-ltb}
use Rattle.maps.specs.Mark.{lower}
use Rattle.answers.proofs.marks.lower_row.Goals as goal

pub returns-then-mark-gt-CONTRACTED : goal.returns-then-mark-gt-CONTRACTED
unfolding lower
returns-then-mark-gt-CONTRACTED c = simp (lt-ltb 8 _ c.if-mark-gt-CONTRACTED.true) (omega arith)

pub returns : goal.returns
unfolding lower
returns c = let a = c.args in simp (le-ltb 8 a.mark.0 (omega arith)) refl
