-- `survivor_words::words::any_word` meets its contract. Assumes nothing.
use mathlib.Core.Path.{◌∙◌}
use native.Mathlib.Omega.{arith}
use lib.ListN.{length}
use Rattle.maps.specs.Table.{each}
use Rattle.survivor_words.proofs.Lanes.{full_bits}
use Rattle.survivor_words.proofs.words.any_word.Goals as goal

pub returns-then-first-lambda : goal.returns-then-first-lambda
returns-then-first-lambda c =
    let a = c.args in
    c.full_word.ensures ∙ full_bits (length a.lambda.now) (each a.lambda.now) a.level.0 a.w (omega arith)
