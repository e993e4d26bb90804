-- `answers::marks::beyond` meets its contract. Assumes nothing.
use mathlib.Core.Path.{sym, refl, ◌∙◌}
use Prim.Native.Nat.{◌-◌}
use native.Mathlib.Omega.{arith}
use borrow.Author.Tests.{lt-ltb, le-ltb, ltb-true}
use Rattle.laws.proofs.Marks.{removed_rows, contracted_rows}
use Rattle.answers.proofs.marks.beyond.Goals as goal

pub overflow_sub-result : goal.overflow_sub-result
overflow_sub-result c = let a = c.args in let r = contracted_rows a.n.0 a.mark.0 (lt-ltb 8 a.mark.0 (omega arith)) in omega (arith, ltb-true 1 (a.mark.0 - 8) (sym r.1 ∙ c.requires.1))

pub returns-then-mark-gt-CONTRACTED : goal.returns-then-mark-gt-CONTRACTED
returns-then-mark-gt-CONTRACTED c = let a = c.args in rw (contracted_rows a.n.0 a.mark.0 (lt-ltb 8 a.mark.0 (omega arith))).2 (omega arith)

pub returns : goal.returns
returns c = let a = c.args in rw (removed_rows a.n.0 a.mark.0 (le-ltb 8 a.mark.0 (omega arith))).2 refl
