-- `survivor_words::fill_words` meets its contract. The invariant: the words passed are stored, and their ones are counted. Assumes nothing.
use mathlib.Core.Path.{◌≡◌, refl, ap, ◌∙◌}
use mathlib.Core.List.{[]}
use Prim.Native.Nat.{◌≤◌, zero-le}
use native.Mathlib.Omega.{arith}
use native.Mathlib.Numerals.{add-one}
use lib.Count.{ones}
use lib.ListN.{length, length-set}
use borrow.Author.Count.{below_none}
use borrow.Author.Rules.{rules}
use Rattle.maps.specs.Table.{each}
use Rattle.maps.specs.Count.{sum}
use Rattle.maps.specs.Survivors.{word}
use Rattle.laws.proofs.Tables.{listed_of, set_below}
use Rattle.survivor_words.proofs.Ones.{word_few}
use Rattle.survivor_words.proofs.words.fill_words.Goals as goal

pub loop-w-init : goal.loop-w-init
unfolding sum
loop-w-init c = (zero-le, search rules, below_none _, refl, zero-le)

pub loop-w-preserved : goal.loop-w-preserved
unfolding sum
loop-w-preserved c =
    let few : ones c.any_word-x.result ≤ 64 =
    let a = c.args in
    rw c.any_word-x.ensures (word_few (length a.lambda.now) 0 a.lambda.now a.level.0 [] c.loop-w.w) in
    let a = c.args in
    let l = c.loop-w in
    let f = word (length a.lambda.now) (each a.lambda.now) a.level.0 in
    (omega arith, simp length-set l.invariant.1, set_below f l.words l.w c.any_word-x.result (omega arith) l.invariant.2 c.any_word-x.ensures, rw add-one (omega (arith, ap ones c.any_word-x.ensures)), omega (arith, few))

pub returns : goal.returns
returns c =
    let a = c.args in
    let l = c.loop-w in
    let f = word (length a.lambda.now) (each a.lambda.now) a.level.0 in
    let e : l.w ≡ 64 = omega arith in record { answer = l.invariant.3 ∙ ap (sum (λ k. ones (f k))) e; words_left = listed_of f 64 l.words l.invariant.1 (λ k lt. l.invariant.2 k (omega arith)) }
