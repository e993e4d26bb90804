-- `cells::mark::Marking::break_pieces` meets its contract. The invariant: the set has the pieces of the darts passed that are in the other. Assumes nothing.
use mathlib.Core.Path.{◌≡◌, sym, ◌∙◌}
use mathlib.Core.Bool.{true, ◌&&◌, not}
use native.Mathlib.Omega.{arith}
use borrow.Author.Tests.{not-false}
use Rattle.laws.proofs.Verdicts.{and_both, and_rest}
use Rattle.orbits.specs.Search.{has}
use Rattle.orbits.proofs.Sets.{queue_empty}
use Rattle.orbits.proofs.Explicit.{level_ready, level_added}
use Rattle.cells.proofs.Cells.{gathered_pass, gathered_add}
use Rattle.cells.proofs.mark.Marking.break_pieces.Invariants.{starts}
use Rattle.cells.proofs.mark.Marking.break_pieces.Goals.{then-there-reached, else-there-reached}
use Rattle.cells.proofs.mark.Marking.break_pieces.Goals as goal

pub orbit-requires : goal.orbit-requires
orbit-requires c =
    let a = c.args in
    let l = c.loop-d in
    let there = c.there in
    let t = and_both (there.result && has a.reached.now l.d) (not (has l.pieces l.d)) c.if-there-reached.true in
    let p = and_both there.result (has a.reached.now l.d) t.0 in rw c.begin-search.ensures (record { ready = level_ready a.self.now.table.n.0 a.self.now.table.darts a.self.now.table.entries.now c.requires.0.level c.every_row-choice.result (λ j. true) c.every_row-choice.ensures l.d l.pieces l.queue (c.loop-d-test.true, sym there.ensures ∙ p.0) l.invariant.2 l.invariant.1.closed; stored = queue_empty l.invariant.2; le_n = omega (arith, c.requires.0.low) })

pub loop-d-preserved : goal.loop-d-preserved
loop-d-preserved c =
    let a = c.args in
    let l = c.loop-d in
    let there = c.there in
    let test = starts a.self.now.table.darts a.self.now.table.entries.now a.reached.now in
    let is : test l.d ≡ (there.result && has a.reached.now l.d) = rw there.ensures in
    elim c.if-there-reached.branch [
      | then-there-reached w ↦
          let found = rw w.begin-search.ensures at w.orbit.ensures in
          let t = and_both (there.result && has a.reached.now l.d) (not (has l.pieces l.d)) w.if-there-reached.true in
          let p = and_both there.result (has a.reached.now l.d) t.0 in
          let room = found.stored.room in
          let set = w.orbit.new.reached in
          let added = level_added a.self.now.table.n.0 a.self.now.table.darts a.self.now.table.entries.now c.requires.0.level c.every_row-choice.result (λ j. true) c.every_row-choice.ensures l.d l.pieces set w.orbit.new.queue (c.loop-d-test.true, sym there.ensures ∙ p.0) room found.added in
          (omega arith, rw w.pieces-is (gathered_add a.self.now.table.n.0 a.self.now.table.darts a.self.now.table.entries.now (λ j. true) test (has l.pieces) (has set) l.d l.invariant.1 (is ∙ t.0) c.loop-d-test.true added), rw (w.pieces-is, w.queue-is) room)
      | else-there-reached w ↦
          let reached : test l.d ≡ true → has l.pieces l.d ≡ true = λ e. not-false (has l.pieces l.d) (and_rest (there.result && has a.reached.now l.d) (not (has l.pieces l.d)) (sym is ∙ e) w.if-there-reached.false) in
          (omega arith, rw w.pieces-is (gathered_pass a.self.now.table.n.0 a.self.now.table.darts a.self.now.table.entries.now (λ j. true) test (has l.pieces) l.d l.invariant.1 reached), rw (w.pieces-is, w.queue-is) l.invariant.2)
    ]
