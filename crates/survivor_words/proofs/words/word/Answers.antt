-- `survivor_words::word` meets its contract. The invariant: the digits of the darts passed are set. The measure: the darts left. Assumes nothing.
use mathlib.Core.Path.{◌≡◌, refl, sym, ap, ◌∙◌}
use Prim.Native.Nat.{◌+◌, ◌-◌, ◌*◌, zero-le}
use native.Mathlib.Omega.{arith}
use lib.ListN.{length}
use borrow.Author.Tests.{lt-ltb, le-ltb}
use Rattle.maps.specs.Count.{sum}
use Rattle.maps.specs.Table.{each}
use Rattle.maps.specs.Folded.{gone}
use Rattle.maps.specs.Survivors.{bit, word}
use Rattle.survivor_words.proofs.Ones.{digit, digit_set, digit_left, digits_past}
use Rattle.survivor_words.proofs.words.word.Goals.{then-not-is_gone, else-not-is_gone}
use Rattle.survivor_words.proofs.words.word.Goals as goal

pub loop-b-init : goal.loop-b-init
unfolding sum
loop-b-init c = (zero-le, refl)

pub loop-b-preserved : goal.loop-b-preserved
loop-b-preserved c =
    let a = c.args in
    let l = c.loop-b in
    let N = length a.lambda.now in
    let p = bit N (each a.lambda.now) a.level.0 a.w in
    let k = lt-ltb (a.w * 64 + l.b) N (c.in_word-many.ensures.below l.b (omega arith)) in
    let is : gone (each a.lambda.now) a.level.0 (a.w * 64 + l.b) ≡ c.is_gone.result = rw c.lambda_at.ensures at (sym c.is_gone.ensures) in (
      omega arith,
      (elim c.if-not-is_gone.branch [ then-not-is_gone v ↦ v.x-is ∙ digit_set p l.b l.x (omega arith) l.invariant.1 (rw (k, is ∙ v.if-not-is_gone.true)) | else-not-is_gone v ↦ v.x-is ∙ digit_left p l.b l.x l.invariant.1 (rw (k, is ∙ v.if-not-is_gone.false)) ]),
    )

pub returns : goal.returns
unfolding word
returns c =
    let a = c.args in
    let l = c.loop-b in
    let N = length a.lambda.now in
    let m = c.in_word-many.result in
    let p = bit N (each a.lambda.now) a.level.0 a.w in
    let q = c.in_word-many.ensures in
    let e : l.b ≡ m = omega arith in
    let f : m + (64 - m) ≡ 64 = omega (arith, q.few) in
    l.invariant.1 ∙ ap (sum (digit p)) e ∙ sym (digits_past p m (64 - m) (λ b g k. rw (le-ltb (a.w * 64 + b) N (q.past b g (omega (arith, q.few)))))) ∙ ap (sum (digit p)) f
