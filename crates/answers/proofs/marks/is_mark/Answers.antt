-- `answers::marks::is_mark` meets its contract. Assumes nothing.
use mathlib.Core.Path.{sym, ap, ◌∙◌}
use Prim.Native.Nat.{ℕ}
use lib.Dec.{ltb}
use Rattle.laws.proofs.Marks.{lower_mark}
use Rattle.answers.proofs.marks.is_mark.Goals as goal

pub returns : goal.returns
returns c =
    let a = c.args in
    ap (λ (x : ℕ). ltb x a.n.0) c.lower_row-low.ensures ∙ sym (lower_mark a.n.0 a.mark.0)
