-- `answers::marks::has_beyond` meets its contract. Assumes nothing.
use mathlib.Core.Path.{sym}
use Prim.Native.Nat.{◌+◌}
use native.Mathlib.Omega.{arith}
use borrow.Author.Tests.{lt-ltb, le-ltb}
use Rattle.laws.proofs.Marks.{removed_rows, contracted_rows}
use Rattle.answers.proofs.Bools.{ltb_more}
use Rattle.answers.proofs.marks.has_beyond.Goals as goal

pub returns-then-mark-gt-CONTRACTED : goal.returns-then-mark-gt-CONTRACTED
returns-then-mark-gt-CONTRACTED c = let a = c.args in rw (contracted_rows a.n.0 a.mark.0 (lt-ltb 8 a.mark.0 (omega arith))).1 (sym (ltb_more 8 1 a.mark.0 (omega arith)))

pub returns-then-n-lt2 : goal.returns-then-n-lt2
returns-then-n-lt2 c =
    let a = c.args in
    rw (removed_rows a.n.0 a.mark.0 (le-ltb 8 a.mark.0 (omega arith))).1 (sym (le-ltb (a.mark.0 + 1) a.n.0 (omega arith)))

pub returns : goal.returns
returns c =
    let a = c.args in
    rw (removed_rows a.n.0 a.mark.0 (le-ltb 8 a.mark.0 (omega arith))).1 (ltb_more 1 a.mark.0 a.n.0 (omega arith))
