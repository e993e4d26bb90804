-- `kernels::Kernel::leaving` meets its contract. Assumes nothing.
use mathlib.Core.Path.{sym, ap, ◌∙◌}
use mathlib.Core.Bool.{not}
use Prim.Native.Nat.{ℕ}
use lib.Dec.{eqb}
use borrow.Author.Tests.{eqb-false, ne_eqb}
use Rattle.maps.specs.Mark.{between}
use Rattle.kernels.specs.Strings.{kernel_row}
use Rattle.kernels.proofs.Strung.{row_is}
use Rattle.kernels.proofs.Kernel.leaving.Goals as goal

pub returns : goal.returns
returns c =
    let b = c in
    let s = b in
    let a = s.args in
    let row = kernel_row a.self.now.lambda.now a.self.now.delta.now a.self.now.level.0 in
    let same = c.in_kernel.ensures ∙ sym (row_is a.self.now.lambda.now a.self.now.delta.now a.self.now.level.0 c.at-e.result a.mark.0 s.requires.place.1) ∙ ap (λ (x : ℕ). eqb (row x) a.mark.0) c.at-e.ensures.0 in
    rw (ne_eqb a.j.0 (between a.mark.0).0 (λ e. eqb-false _ _ (sym c.eq.ensures ∙ c.if-eq.false) (e ∙ sym b.between-rows.ensures.0))) (ap not same)
