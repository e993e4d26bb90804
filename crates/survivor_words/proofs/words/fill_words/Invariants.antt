-- `survivor_words::fill_words` meets its contract. The invariant: the words passed are stored, and their ones are counted. Assumes nothing.
use mathlib.Core.Path.{◌≡◌}
use Prim.Native.Nat.{ℕ, ◌*◌, ◌≤◌, ◌<◌}
use lib.Count.{ones}
use lib.ListN.{length, get_or}
use Rattle.maps.specs.Table.{each}
use Rattle.maps.specs.Count.{sum}
use Rattle.maps.specs.Survivors.{word}
use Rattle.survivor_words.proofs.words.fill_words.Given as goal

abbrev pub invariant-loop-w : goal.invariant-loop-w
invariant-loop-w l = (l.w ≤ 64) × (length l.words ≡ 64) × ((k : ℕ) → k < l.w → get_or l.words k 0 ≡ word (length l.lambda) (each l.lambda) l.level.0 k)
    × (l.count ≡ sum (λ k. ones (word (length l.lambda) (each l.lambda) l.level.0 k)) l.w) × (l.count ≤ 64 * l.w)
