-- `answers::marks::between` meets its contract. Assumes nothing.
use mathlib.Core.Path.{refl}
use native.Mathlib.Omega.{arith}
use borrow.Author.Tests.{lt-ltb, le-ltb}
use Rattle.laws.proofs.Marks.{removed_rows, contracted_rows}
use Rattle.answers.proofs.marks.between.Goals as goal

pub returns-then-mark-gt-CONTRACTED : goal.returns-then-mark-gt-CONTRACTED
returns-then-mark-gt-CONTRACTED c = let a = c.args in rw (contracted_rows 0 a.mark.0 (lt-ltb 8 a.mark.0 (omega arith))).0 (refl, omega arith)

pub returns : goal.returns
returns c = let a = c.args in rw (removed_rows 0 a.mark.0 (le-ltb 8 a.mark.0 (omega arith))).0 (refl, refl)
