-- `regions::rows_from` meets its contract. Assumes nothing.
use mathlib.Core.Path.{sym, ◌∙◌}
use native.Mathlib.Omega.{arith}
use Rattle.orbits.proofs.OrbitLaws.{all_rows}
use Rattle.regions.proofs.Choices.{goes_open}
use Rattle.regions.proofs.rows_from.Goals as goal

pub returns-then-is_gone-removes : goal.returns-then-is_gone-removes
returns-then-is_gone-removes c =
    let a = c.args in
    λ j lj. all_rows j (omega (arith, c.requires.1)) ∙ sym (goes_open a.n.0 a.lambda.0 a.delta.0 a.level.0 c.requires.0 j (rw (c.is_gone.ensures, c.removes.ensures) at c.if-is_gone-removes.true))
