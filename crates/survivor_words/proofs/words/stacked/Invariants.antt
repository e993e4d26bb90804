-- `survivor_words::words::stacked` meets its contract. The invariant: the rows passed are stacked, as high as the byte. The measure: the rows left. Assumes nothing.
use mathlib.Core.Path.{◌≡◌}
use Prim.Native.Nat.{◌+◌, ◌-◌, ◌*◌, ◌^◌, ◌≤◌}
use Rattle.maps.specs.Folded.{survives}
use Rattle.maps.specs.Table.{each}
use Rattle.survivor_words.specs.Parts.{stack_of}
use Rattle.survivor_words.proofs.words.stacked.Given as goal

abbrev pub invariant-loop-j : goal.invariant-loop-j
invariant-loop-j l = (l.j ≤ 8) × (l.stack ≡ stack_of (survives (each l.part) l.level.0) l.j * 2 ^ (8 - l.j)) × (l.stack + 0x0101010101010101 * 2 ^ (8 - l.j) ≤ 0x0101010101010101 * 256)

abbrev pub decreases-loop-j : goal.decreases-loop-j
decreases-loop-j l = 8 - l.j
