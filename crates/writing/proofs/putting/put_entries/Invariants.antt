-- `writing::putting::put_entries` meets its contract. The invariant: the bytes of the parts passed are laid. Assumes nothing.
use Prim.Native.Nat.{◌*◌}
use lib.ListN.{get_or}
use Rattle.maps.specs.Write.{in_two_bytes}
use Rattle.taking.specs.Parts.{Laid}
use Rattle.writing.proofs.putting.put_entries.Given as goal

abbrev pub invariant-loop-k : goal.invariant-loop-k
invariant-loop-k l = Laid (λ k. get_or (in_two_bytes l.row) k 0) 0 (128 * l.k) l.initial.to l.to
