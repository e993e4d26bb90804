-- `bases::dart_valid` meets its contract. The invariant: no row before i is refused. Assumes nothing.
use Prim.Native.Nat.{ℕ, ◌<◌}
use Rattle.bases.specs.Valid.{ValidAt}
use Rattle.bases.proofs.dart_valid.Given as goal

abbrev pub invariant-loop-i : goal.invariant-loop-i
invariant-loop-i l = (k : ℕ) → k < l.i → ValidAt l.table.n.0 l.table.darts l.table.entries.now k l.d
