-- `kernels::Kernel::together` meets its contract. The invariant: the rows passed lead into the kernel with the mark. The measure is the rows left. Assumes nothing.
use mathlib.Core.Path.{◌≡◌, sym, ap, ◌∙◌}
use mathlib.Core.Bool.{true}
use Prim.Native.Nat.{ℕ, ◌≤◌}
use native.Mathlib.Omega.{arith}
use lib.ListN.{length}
use lib.Dec.{eqb}
use Rattle.maps.specs.Table.{entry}
use Rattle.laws.proofs.Marks.{mark_byte, mark_rows}
use Rattle.kernels.specs.Strings.{kernel_row}
use Rattle.kernels.specs.Walked.{other_row}
use Rattle.kernels.proofs.Strung.{row_is}
use Rattle.kernels.proofs.Places.{place}
use Rattle.kernels.proofs.Runs.{one_more, other_low, together_all}
use Rattle.kernels.proofs.Kernel.together.Goals as goal

pub other-requires : goal.other-requires
other-requires c =
    let s = c in
    let z = s.requires.rows.0.dimension in
    (mark_byte s.args.n.0 s.args.mark.0 (omega arith) s.requires.rows.3, omega (arith, c.loop-k-test.true))

pub at-e-requires : goal.at-e-requires
at-e-requires c =
    let low : c.other.result.0 ≤ c.args.n.0 =
    let a = c.args in omega (arith, c.other.ensures, other_low a.mark.0 a.n.0 c.loop-k.k (omega (arith, c.loop-k-test.true))) in
    place c.requires.rows.0 _ _ (low) c.requires.rows.2

pub loop-k-preserved : goal.loop-k-preserved
loop-k-preserved c =
    let t = c in
    let h = c in
    let s = c in
    let a = s.args in
    let l = a.self.now.level.0 in
    let z = s.requires.rows.0.dimension in
    let m = a.mark.0 in
    let row = kernel_row a.self.now.lambda.now a.self.now.delta.now l in
    let same = sym c.in_kernel.ensures ∙ c.if-not-in_kernel.false in
    let here = row_is a.self.now.lambda.now a.self.now.delta.now l t.at-e.result m (mark_byte a.n.0 m (omega arith) s.requires.rows.3) ∙ same in
    let at-k = ap (λ (x : ℕ). eqb (row x) m) (sym (t.at-e.ensures.0 ∙ ap (λ (j : ℕ). entry (length a.self.now.lambda.now) a.table.now j a.d) t.other.ensures)) ∙ here in
    (omega (arith, c.loop-k-test.true), one_more (λ x. eqb (row (entry (length a.self.now.lambda.now) a.table.now (other_row m x) a.d)) m ≡ true) h.loop-k.k h.loop-k.invariant.1 at-k)

pub returns : goal.returns
returns c q =
    let h = c in
    let s = c in
    together_all s.args.n.0 s.args.self.now.level.0 s.args.self.now.lambda.now s.args.self.now.delta.now s.args.table.now s.args.mark.0 s.args.d (mark_rows s.args.n.0 s.args.mark.0 s.requires.rows.3).first (λ k l. h.loop-k.invariant.1 k (omega (arith, h.loop-k.invariant.0, c.loop-k-test.false)))
