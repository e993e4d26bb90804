-- `kernels::Kernel::relink` meets its contract. The invariant: the kernel is relinked up to the dart at hand, and the turns are those of the links begun. The measure is the darts left. Assumes nothing.
use mathlib.Core.Path.{sym, ◌∙◌}
use native.Mathlib.Omega.{arith}
use Rattle.kernels.specs.Strings.{kernel_row}
use Rattle.kernels.proofs.Links.{turns_most, turns_start, turns_all}
use Rattle.kernels.proofs.Relinks.{relink_start, relink_all}
use Rattle.kernels.proofs.Kernel.relink.Goals as goal

pub loop-d-init : goal.loop-d-init
loop-d-init c =
    let p = c.requires in
    (record { ready = p.ready; strung = p.strung; to = relink_start p.ready p.strung.string }, sym (turns_start _ _ _ _ p.strung.string))

pub overflow_add-turns : goal.overflow_add-turns
overflow_add-turns c =
    let h = c in
    let a = c.args in
    let e = c.relink_alike-end.ensures.relinked a.table.now h.loop-d.invariant.0 in
    let few = turns_most a.self.now.n.0 a.self.now.darts (kernel_row a.self.now.lambda.now a.self.now.delta.now a.self.now.level.0) a.table.now c.relink_alike-end.result.dart c.requires.ready.tested.shape.darts in
    omega (arith, h.loop-d.invariant.1, e.1)

pub returns : goal.returns
returns c =
    let p = c.requires in
    let l = c.loop-d in record { answer = l.invariant.1 ∙ turns_all _ _ _ _ l.d c.loop-d-test.false; table_left = relink_all p.ready p.strung.string l.invariant.0.to c.loop-d-test.false }
