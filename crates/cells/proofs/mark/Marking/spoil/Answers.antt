-- `cells::mark::Marking::spoil` meets its contract. The invariant: the set has the cells of the darts passed that fail. Assumes nothing.
use mathlib.Core.Path.{◌≡◌, sym, ◌∙◌}
use mathlib.Core.Bool.{true, true≢false}
use native.Mathlib.Omega.{arith}
use Rattle.orbits.specs.Search.{has}
use Rattle.orbits.proofs.Sets.{queue_empty}
use Rattle.orbits.specs.Explicit.{but}
use Rattle.orbits.proofs.Explicit.{level_ready, level_added}
use Rattle.cells.specs.Marked.{failing}
use Rattle.cells.proofs.Cells.{fails_tells, gathered_pass, gathered_add, spoilt}
use Rattle.cells.proofs.mark.Marking.spoil.Goals.{then-not-reached-place+then-fails, else-not-reached-place, else-not-reached-place-via-then-not-reached-place+else-fails, else-not-reached-place-via-else-not-reached-place}
use Rattle.cells.proofs.mark.Marking.spoil.Goals as goal

pub orbit-requires : goal.orbit-requires
orbit-requires c =
    let a = c.args in
    let l = c.loop-d in
    let failed = sym c.fails.ensures ∙ c.if-fails.true in
    let there = (fails_tells a.self.now.table.n.0 a.self.now.table.darts a.self.now.table.entries.now a.self.now.dimension.0 l.d failed).1 in rw c.begin-search.ensures (record { ready = level_ready a.self.now.table.n.0 a.self.now.table.darts a.self.now.table.entries.now c.requires.0.level c.all_but-choice.result (but a.self.now.dimension.0) c.all_but-choice.ensures l.d l.reached l.queue (c.loop-d-test.true, there) l.invariant.2 l.invariant.1.closed; stored = queue_empty l.invariant.2; le_n = omega (arith, c.requires.0.low) })

pub loop-d-preserved : goal.loop-d-preserved
loop-d-preserved c =
    let a = c.args in
    let l = c.loop-d in
    let test = failing a.self.now.table.n.0 a.self.now.table.darts a.self.now.table.entries.now a.self.now.dimension.0 in
    elim c.if-not-reached-place.branch [
      | then-not-reached-place+then-fails w ↦
          let found = rw w.begin-search.ensures at w.orbit.ensures in
          let failed = sym w.fails.ensures ∙ w.if-fails.true in
          let there = (fails_tells a.self.now.table.n.0 a.self.now.table.darts a.self.now.table.entries.now a.self.now.dimension.0 l.d failed).1 in
          let room = found.stored.room in
          let set = w.orbit.new.reached in
          let added = level_added a.self.now.table.n.0 a.self.now.table.darts a.self.now.table.entries.now c.requires.0.level c.all_but-choice.result (but a.self.now.dimension.0) c.all_but-choice.ensures l.d l.reached set w.orbit.new.queue (c.loop-d-test.true, there) room found.added in
          (omega arith, rw w.reached-is (gathered_add a.self.now.table.n.0 a.self.now.table.darts a.self.now.table.entries.now (but a.self.now.dimension.0) test (has l.reached) (has set) l.d l.invariant.1 failed c.loop-d-test.true added), rw (w.reached-is, w.queue-is) room)
      | else-not-reached-place w ↦
          let reached : test l.d ≡ true → has l.reached l.d ≡ true = λ e. elim w.else-not-reached-place.branch [
            | else-not-reached-place-via-then-not-reached-place+else-fails v ↦ absurd (true≢false (sym e ∙ sym v.fails.ensures ∙ v.if-fails.false))
            | else-not-reached-place-via-else-not-reached-place v ↦ v.if-not-reached-place.false
          ] in
          (omega arith, rw w.reached-is (gathered_pass a.self.now.table.n.0 a.self.now.table.darts a.self.now.table.entries.now (but a.self.now.dimension.0) test (has l.reached) l.d l.invariant.1 reached), rw (w.reached-is, w.queue-is) l.invariant.2)
    ]

pub returns : goal.returns
returns c =
    let a = c.args in
    let l = c.loop-d in
    let e : l.d ≡ a.self.now.table.darts = omega arith in
    record { room = l.invariant.2; cells = l.invariant.1.closed; lacks = spoilt a.self.now.table.n.0 a.self.now.table.darts a.self.now.table.entries.now a.self.now.dimension.0 c.requires.0.level (has l.reached) (rw e at l.invariant.1) }
