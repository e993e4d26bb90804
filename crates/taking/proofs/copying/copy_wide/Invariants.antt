-- `taking::copy_wide` meets its contract. The invariant: the parts passed are laid. Assumes nothing.
use Prim.Native.Nat.{◌*◌}
use Rattle.taking.specs.Parts.{two_from, Laid}
use Rattle.taking.proofs.copying.copy_wide.Given as goal

abbrev pub invariant-loop-k : goal.invariant-loop-k
invariant-loop-k l = Laid (two_from l.body 0) 0 (64 * l.k) l.initial.row l.row
