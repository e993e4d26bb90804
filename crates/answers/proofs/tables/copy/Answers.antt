-- `answers::tables::copy` meets its contract. Assumes nothing.
use mathlib.Core.Path.{sym, ap, ◌∙◌}
use mathlib.Core.List.{[], ◌∷◌, ◌++◌}
use lib.ListN.{take}
use native.Mathlib.Omega.{arith}
use Rattle.std.proofs.lemmas.List.{take_more, take_more_set}
use Rattle.answers.proofs.tables.copy.Goals as goal

pub loop-k-preserved : goal.loop-k-preserved
loop-k-preserved g c =
    let x = c.index-from-k.result in
    let k = c.loop-k.k in
    let from = c.args.from.now in
    take_more_set c.loop-k.to k x (omega (arith, c.loop-k-test.true, c.loop-k.auto.to, c.requires))
    ∙ (rw c.loop-k.invariant (sym (take_more from k x c.loop-k-test.true ∙ ap (λ y. take k from ++ y ∷ []) (sym c.index-from-k.is))))
