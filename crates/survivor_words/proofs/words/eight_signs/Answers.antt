-- `survivor_words::words::eight_signs` meets its contract. Assumes nothing.
use mathlib.Core.Path.{◌≡◌, ap₂, ap, ◌∙◌}
use Prim.Native.Nat.{ℕ, ◌+◌, ◌-◌, ◌*◌}
use native.Mathlib.Omega.{arith}
use lib.Bits.{bit_and}
use Rattle.maps.specs.Table.{each}
use Rattle.survivor_words.specs.Parts.{lanes}
use Rattle.survivor_words.proofs.Lanes.{signs, lanes_fit}
use Rattle.survivor_words.proofs.words.eight_signs.Goals as goal

pub overflow_add-result : goal.overflow_add-result
overflow_add-result c =
    let added : let a = c.args in c.eight_bytes.result + (128 - c.from.result) * 0x0101010101010101 ≡ lanes (each a.part.now) + (128 - a.level.0) * 0x0101010101010101 =
    ap₂ (λ (x l : ℕ). x + (128 - l) * 0x0101010101010101) c.eight_bytes.ensures c.from.ensures in
    let s = c in omega (arith, added, lanes_fit (each s.args.part.now) s.args.level.0 s.requires.2 s.requires.1)

pub returns : goal.returns
returns c =
    let added : let a = c.args in c.eight_bytes.result + (128 - c.from.result) * 0x0101010101010101 ≡ lanes (each a.part.now) + (128 - a.level.0) * 0x0101010101010101 =
    ap₂ (λ (x l : ℕ). x + (128 - l) * 0x0101010101010101) c.eight_bytes.ensures c.from.ensures in
    let s = c in ap (λ (x : ℕ). bit_and x 0x8080808080808080) (added) ∙ signs (each s.args.part.now) s.args.level.0 s.requires.2 s.requires.1
