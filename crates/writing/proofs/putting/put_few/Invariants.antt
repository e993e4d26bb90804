-- `writing::putting::put_few` meets its contract. The invariant: the bytes of the entries passed are laid. Assumes nothing.
use Prim.Native.Nat.{◌*◌}
use lib.ListN.{get_or}
use Rattle.maps.specs.Write.{in_two_bytes}
use Rattle.taking.specs.Parts.{Laid}
use Rattle.writing.proofs.putting.put_few.Given as goal

abbrev pub invariant-loop-d : goal.invariant-loop-d
invariant-loop-d l = Laid (λ k. get_or (in_two_bytes l.row) k 0) 0 (2 * l.d) l.initial.to l.to
