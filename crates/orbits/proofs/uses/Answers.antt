-- `orbits::uses` meets its contract. Assumes nothing.
use mathlib.Core.Path.{ap}
use Prim.Native.Nat.{ℕ, ◌/◌, ◌^◌}
use lib.Bits.{and_mask}
use lib.Dec.{eqb}
use Rattle.orbits.specs.Choices.{uses}
use Rattle.orbits.proofs.uses.Goals as goal

pub returns : goal.returns
unfolding uses
returns c = let a = c.args in ap (λ (x : ℕ). eqb x 1) (and_mask (a.choice / 2 ^ a.row.0) 1)
