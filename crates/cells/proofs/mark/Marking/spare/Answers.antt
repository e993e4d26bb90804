-- `cells::mark::Marking::spare` meets its contract. The invariant: of the pieces that would be marked as a whole, those of the darts passed have the cell of their lowest dart in the set, for whichever dimension the choice is of. Assumes nothing.
use mathlib.Core.Path.{◌≡◌, sym, ◌∙◌}
use mathlib.Core.Bool.{true, false, not}
use Prim.Native.Nat.{zero-le}
use native.Mathlib.Omega.{arith}
use lib.ListN.{length-replicate}
use borrow.Author.Tests.{not-true, not-false}
use Rattle.laws.proofs.Verdicts.{and_both, and_rest}
use Rattle.orbits.specs.Search.{has, Room}
use Rattle.orbits.proofs.Sets.{none_has, queue_empty}
use Rattle.orbits.specs.Explicit.{but}
use Rattle.orbits.proofs.Explicit.{Present, level_ready, level_added}
use Rattle.cells.proofs.Sparing.{sparing_none, sparing_pass, sparing_add, spared}
use Rattle.cells.proofs.mark.Marking.spare.Goals.{then-there-pieces, else-there-pieces}
use Rattle.cells.proofs.mark.Marking.spare.Goals as goal

pub break_pieces-requires : goal.break_pieces-requires
break_pieces-requires c = (c.requires.0, none_has 4096, record { reached_long = length-replicate 4096 false; queue_long = c.requires.1.room.queue_long })

pub loop-d-init : goal.loop-d-init
loop-d-init c =
    let a = c.args in
    let pieces = c.break_pieces.new.pieces in
    let room = c.break_pieces.ensures.room in
    (zero-le, λ δ is closed lacks. sparing_none a.self.now.table.n.0 a.self.now.table.darts a.self.now.table.entries.now δ (has a.reached.now) c.requires.0.level lacks (has pieces) closed c.break_pieces.ensures.gathered, record { reached_long = c.requires.1.room.reached_long; queue_long = room.queue_long }, room)

pub orbit-requires : goal.orbit-requires
orbit-requires c =
    let a = c.args in
    let l = c.loop-d in
    let sparing = l.invariant.1 a.self.now.dimension.0 c.all_but-left.ensures c.requires.1.cells c.requires.1.lacks in
    let there = and_both c.there.result (not (has l.pieces l.d)) c.if-there-pieces.true in
    rw c.begin-search.ensures (record { ready = level_ready a.self.now.table.n.0 a.self.now.table.darts a.self.now.table.entries.now c.requires.0.level c.all_but-left.result (but a.self.now.dimension.0) c.all_but-left.ensures l.d l.reached l.queue (c.loop-d-test.true, sym c.there.ensures ∙ there.0) l.invariant.2 sparing.cells_closed; stored = queue_empty l.invariant.2; le_n = omega (arith, c.requires.0.low) })

pub orbit-requires-then-there-pieces : goal.orbit-requires-then-there-pieces
orbit-requires-then-there-pieces c =
    let a = c.args in
    let l = c.loop-d in
    let queue = c.orbit.new.queue in
    let sparing = l.invariant.1 a.self.now.dimension.0 c.all_but-left.ensures c.requires.1.cells c.requires.1.lacks in
    let there = and_both c.there.result (not (has l.pieces l.d)) c.if-there-pieces.true in
    let room : Room l.pieces queue = record { reached_long = l.invariant.3.reached_long; queue_long = c.orbit.ensures.stored.room.queue_long } in
    rw c.begin-search.ensures (record { ready = level_ready a.self.now.table.n.0 a.self.now.table.darts a.self.now.table.entries.now c.requires.0.level c.every_row-piece.result (λ j. true) c.every_row-piece.ensures l.d l.pieces queue (c.loop-d-test.true, sym c.there.ensures ∙ there.0) room sparing.closed; stored = queue_empty room; le_n = omega (arith, c.requires.0.low) })

pub loop-d-preserved : goal.loop-d-preserved
loop-d-preserved c =
    let a = c.args in
    let l = c.loop-d in
    let there = c.there in
    let N = a.self.now.table.darts in
    let T = a.self.now.table.entries.now in
    elim c.if-there-pieces.branch [
      | then-there-pieces w ↦
          let found = rw w.begin-search.ensures at w.orbit.ensures in
          let tells = and_both there.result (not (has l.pieces l.d)) w.if-there-pieces.true in
          let is : Present a.self.now.table.n.0 N T l.d × (has l.pieces l.d ≡ false) = ((c.loop-d-test.true, sym there.ensures ∙ tells.0), not-true (has l.pieces l.d) tells.1) in
          let again = w.orbit-then-there-pieces in
          let found-again = rw w.begin-search.ensures at again.ensures in
          let cells = w.orbit.new.reached in
          let pieces = again.new.reached in
          let done = level_added a.self.now.table.n.0 N T c.requires.0.level c.every_row-piece.result (λ j. true) c.every_row-piece.ensures l.d l.pieces pieces again.new.queue is.0 found-again.stored.room found-again.added in (
            omega arith,
            λ δ is-but closed lacks.
                let left = level_added a.self.now.table.n.0 N T c.requires.0.level c.all_but-left.result (but δ) is-but l.d l.reached cells w.orbit.new.queue is.0 found.stored.room found.added in
                rw (w.reached-is, w.pieces-is) (sparing_add a.self.now.table.n.0 N T δ (has a.reached.now) c.requires.0.level lacks (has l.reached) (has l.pieces) l.d (l.invariant.1 δ is-but closed lacks) is.0 is.1 (has cells) (has pieces) left done),
            rw (w.reached-is, w.queue-is) (record { reached_long = found.stored.room.reached_long; queue_long = found-again.stored.room.queue_long }),
            rw (w.queue-is, w.pieces-is) found-again.stored.room,
          )
      | else-there-pieces w ↦
          let reached : Present a.self.now.table.n.0 N T l.d → has l.pieces l.d ≡ true = λ p. not-false (has l.pieces l.d) (and_rest there.result (not (has l.pieces l.d)) (there.ensures ∙ p.1) w.if-there-pieces.false) in
          (omega arith, λ δ is-but closed lacks. rw (w.reached-is, w.pieces-is) (sparing_pass a.self.now.table.n.0 N T δ (has a.reached.now) c.requires.0.level lacks (has l.reached) (has l.pieces) l.d (l.invariant.1 δ is-but closed lacks) reached), rw (w.reached-is, w.queue-is) l.invariant.2, rw (w.queue-is, w.pieces-is) l.invariant.3)
    ]

pub returns : goal.returns
returns c =
    let a = c.args in
    let l = c.loop-d in
    let sparing = l.invariant.1 a.self.now.dimension.0 c.all_but-left.ensures c.requires.1.cells c.requires.1.lacks in
    record { room = l.invariant.2; cells = sparing.cells_closed; lacks = spared a.self.now.table.n.0 a.self.now.table.darts a.self.now.table.entries.now a.self.now.dimension.0 (has a.reached.now) c.requires.0.level c.requires.1.lacks (has l.reached) (has l.pieces) l.d (omega arith) sparing }
