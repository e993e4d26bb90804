-- `taking::copy_bytes` meets its contract. The invariant: the parts passed are laid. Assumes nothing.
use Prim.Native.Nat.{◌*◌}
use Rattle.taking.specs.Parts.{byte_from, Laid}
use Rattle.taking.proofs.copying.copy_bytes.Given as goal

abbrev pub invariant-loop-k : goal.invariant-loop-k
invariant-loop-k l = Laid (byte_from l.body 0) 0 (128 * l.k) l.initial.to l.to
