-- `answers::tables::survivors_on` meets its contract. The invariant: the survivors in the blocks passed are counted. The measure: the blocks left. Assumes nothing.
use mathlib.Core.Path.{◌≡◌, refl, ap, ◌∙◌}
use mathlib.Core.List.{List}
use Prim.Native.Nat.{ℕ, ◌+◌, ◌-◌, ◌*◌, ◌/◌, ◌≤◌}
use native.Mathlib.Omega.{arith}
use lib.ListN.{length, take, drop, length-take, length-drop}
use Rattle.maps.specs.Count.{count}
use Rattle.maps.specs.Table.{each}
use Rattle.maps.specs.Folded.{survives, survivors}
use Rattle.laws.proofs.Counting.{count_le}
use Rattle.answers.proofs.Counted.{part_more}
use Rattle.answers.proofs.tables.survivors_on.Goals as goal

-- a block's survivors are no more than its darts
few : (c : goal.After-from-count) → c.block_on.result ≤ 128
few c = rw c.block_on.ensures (count_le _ 128)

-- what a part from place s on has
left : (xs : List ℕ) (s : ℕ) → length (take (length xs - s) (drop s xs)) ≡ length xs - s
left xs s = simp (length-take, length-drop) (omega arith)

pub loop-b-init : goal.loop-b-init
unfolding count
loop-b-init c = (omega arith, omega arith, refl, omega arith)

pub loop-b-preserved : goal.loop-b-preserved
loop-b-preserved c =
    let a = c.args in
    let l = c.loop-b in
    let e : 128 * l.b + 128 ≡ 128 * (l.b + 1) = omega arith in (
      omega arith,
      l.invariant.1,
      ap (λ (m : ℕ). l.count + m) c.from-count.ensures ∙ part_more a.lambda.now (128 * l.b) 128 (128 * l.b + 128 - 128 * l.b) a.level.0 l.count c.block_on.result (omega arith) l.invariant.2 c.block_on.ensures ∙ ap (λ (m : ℕ). survivors m (each a.lambda.now) a.level.0) e,
      omega (arith, few c, c.from-count.ensures),
    )

pub returns : goal.returns
returns c =
    let a = c.args in
    let l = c.loop-b in
    let xs = a.lambda.now in
    let s = 128 * (length xs / 128) in
    let e : 128 * l.b ≡ s = omega arith in
    let f : s + (length xs - s) ≡ length xs = omega arith in
    part_more xs s (length xs - s) (length xs - s) a.level.0 l.count c.rest_on.result (omega arith) (l.invariant.2 ∙ ap (λ (m : ℕ). survivors m (each xs) a.level.0) e)
    (c.rest_on.ensures ∙ ap (λ (m : ℕ). survivors m (each (take (length xs - s) (drop s xs))) a.level.0) (left xs s))
    ∙ ap (λ (m : ℕ). survivors m (each xs) a.level.0) f

pub overflow_add-result : goal.overflow_add-result
overflow_add-result c = let a = c.args in omega (arith, returns c, count_le (survives (each a.lambda.now) a.level.0) (length a.lambda.now))
