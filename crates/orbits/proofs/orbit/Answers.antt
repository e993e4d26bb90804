-- `orbits::orbit` meets its contract. The invariant: each dart before the queue's head had its turn; the measure is the darts that the queue can still take. Assumes nothing.
use mathlib.Core.Path.{◌≡◌, refl, ap, ◌∙◌}
use Prim.Native.Nat.{◌-◌}
use native.Mathlib.Omega.{arith}
use Rattle.maps.specs.Table.{entry}
use Rattle.orbits.specs.Choices.{chosen}
use Rattle.orbits.specs.Search.{State, state, turns}
use Rattle.orbits.proofs.Sets.{room_left}
use Rattle.orbits.proofs.Searches.{pushed_longer, after_turn, after_found, turns_next}
use Rattle.orbits.proofs.orbit.Goals as goal

pub push-tail-requires : goal.push-tail-requires
push-tail-requires c =
    let a = c.args in
    let p = c.requires.ready in
    let z = c.requires.stored in
    (omega (arith, p.first, p.rows.darts), λ h. omega (arith, p.rows.darts, room_left a.reached.now a.search.tail a.search.dart a.search.darts z.few (omega (arith, p.first, p.rows.darts, z.room.reached_long)) p.first h))

pub loop-head-init : goal.loop-head-init
unfolding turns
loop-head-init c =
    let a = c.args in
    let none : a.search.tail - a.search.tail ≡ 0 = omega arith in
    (omega arith, omega (arith, ap (λ (s : State). s.tail) c.push-tail.ensures, pushed_longer (state a.reached.now a.queue.now a.search.tail) a.search.dart), rw none refl)

pub offset_bounds-queue-head : goal.offset_bounds-queue-head
offset_bounds-queue-head c = let l = c.loop-head in let turn = after_turn _ _ _ _ _ _ _ _ c.requires.ready c.requires.stored _ _ (rw c.push-tail.ensures at l.invariant.2) l.invariant.0 l.invariant.1 c.loop-head-test.true in omega (arith, turn.place, turn.dart, c.requires.ready.rows.darts)

pub bounds-queue-head : goal.bounds-queue-head
bounds-queue-head c = let l = c.loop-head in let turn = after_turn _ _ _ _ _ _ _ _ c.requires.ready c.requires.stored _ _ (rw c.push-tail.ensures at l.invariant.2) l.invariant.0 l.invariant.1 c.loop-head-test.true in omega (arith, turn.place, turn.dart, c.requires.ready.rows.darts)

pub bounds-choices-place : goal.bounds-choices-place
bounds-choices-place c = let l = c.loop-head in let turn = after_turn _ _ _ _ _ _ _ _ c.requires.ready c.requires.stored _ _ (rw c.push-tail.ensures at l.invariant.2) l.invariant.0 l.invariant.1 c.loop-head-test.true in omega (arith, turn.place, turn.dart, c.requires.ready.rows.darts)

pub push_neighbours-tail-requires : goal.push_neighbours-tail-requires
push_neighbours-tail-requires c =
    let l = c.loop-head in
    let turn = after_turn _ _ _ _ _ _ _ _ c.requires.ready c.requires.stored _ _ (rw c.push-tail.ensures at l.invariant.2) l.invariant.0 l.invariant.1 c.loop-head-test.true in
    record { two_rows = c.requires.le_n; rows = c.requires.ready.rows; dart = turn.dart; inside = turn.inside; stored = turn.stored }

pub overflow_add-head : goal.overflow_add-head
overflow_add-head c = let l = c.loop-head in let turn = after_turn _ _ _ _ _ _ _ _ c.requires.ready c.requires.stored _ _ (rw c.push-tail.ensures at l.invariant.2) l.invariant.0 l.invariant.1 c.loop-head-test.true in omega (arith, turn.place, turn.dart, c.requires.ready.rows.darts)

pub loop-head-smaller : goal.loop-head-smaller
loop-head-smaller c = let l = c.loop-head in let turn = after_turn _ _ _ _ _ _ _ _ c.requires.ready c.requires.stored _ _ (rw c.push-tail.ensures at l.invariant.2) l.invariant.0 l.invariant.1 c.loop-head-test.true in omega (arith, turn.place, turn.dart, c.requires.ready.rows.darts)

pub loop-head-preserved : goal.loop-head-preserved
loop-head-preserved c =
    let a = c.args in
    let l = c.loop-head in
    let turn = after_turn _ _ _ _ _ _ _ _ c.requires.ready c.requires.stored _ _ (rw c.push-tail.ensures at l.invariant.2) l.invariant.0 l.invariant.1 c.loop-head-test.true in
    let e = c.push_neighbours-tail.ensures in
    (omega (arith, l.invariant.0), omega (arith, turn.next, ap (λ (x : State). x.tail) e), e ∙ turns_next (entry a.search.darts a.table.now) a.search.n.0 (chosen a.choices.now) a.search.tail _ l.head (state l.reached l.queue l.tail) l.invariant.0 l.invariant.2 c.loop-head-test.true)

pub returns : goal.returns
returns c =
    let l = c.loop-head in
    after_found _ _ _ _ _ _ _ _ c.requires.ready c.requires.stored _ _ (rw c.push-tail.ensures at l.invariant.2) l.invariant.0 l.invariant.1 (omega arith)
