-- `survivor_words::word` meets its contract. The invariant: the digits of the darts passed are set. The measure: the darts left. Assumes nothing.
use mathlib.Core.Path.{◌≡◌}
use Prim.Native.Nat.{◌-◌, ◌≤◌}
use lib.ListN.{length}
use Rattle.maps.specs.Count.{sum}
use Rattle.maps.specs.Table.{each}
use Rattle.maps.specs.Survivors.{bit}
use Rattle.survivor_words.proofs.Ones.{digit}
use Rattle.survivor_words.proofs.words.word.Given as goal

abbrev pub invariant-loop-b : goal.invariant-loop-b
invariant-loop-b l = (l.b ≤ l.many) × (l.x ≡ sum (digit (bit (length l.lambda) (each l.lambda) l.level.0 l.w)) l.b)

abbrev pub decreases-loop-b : goal.decreases-loop-b
decreases-loop-b l = l.many - l.b
