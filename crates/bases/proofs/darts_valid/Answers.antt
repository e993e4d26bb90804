-- `bases::darts_valid` meets its contract. The invariant: no dart before d is refused. Assumes nothing.
use mathlib.Core.Path.{sym, ◌∙◌}
use mathlib.Core.Bool.{true≢false}
use borrow.Author.Count.{below_more}
use Rattle.bases.proofs.darts_valid.Goals.{then-there+else-not-dart_valid, else-there}
use Rattle.bases.proofs.darts_valid.Goals as goal

pub loop-d-preserved : goal.loop-d-preserved
loop-d-preserved g c =
    below_more _ _ c.loop-d.invariant
    ((elim c.if-there.branch [ then-there+else-not-dart_valid v ↦ (λ p. v.dart_valid.ensures v.if-not-dart_valid.false) | else-there v ↦ (λ p. absurd (true≢false (sym p ∙ sym c.there.ensures ∙ v.if-there.false))) ]))
