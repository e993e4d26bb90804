-- `cells::mark::Marking::divide` meets its contract. The invariant: of the darts passed, those outside the set lie in cells of two parts. Assumes nothing.
use mathlib.Core.Path.{◌≡◌, sym, ◌∙◌}
use mathlib.Core.Bool.{true, false}
use Prim.Native.Nat.{◌+◌, zero-le}
use native.Mathlib.Omega.{arith}
use lib.ListN.{length-replicate}
use Rattle.maps.specs.Parts.{besides}
use Rattle.maps.specs.Table.{entry}
use Rattle.orbits.specs.Search.{has, Room}
use Rattle.orbits.proofs.Sets.{none_has, queue_empty}
use Rattle.orbits.proofs.Decided.{none}
use Rattle.orbits.specs.Explicit.{but}
use Rattle.orbits.proofs.Explicit.{Present, level_valid, level_ready, level_added}
use Rattle.cells.proofs.Dividing.{undivided_tells, dividing_none, dividing_pass, dividing_two, dividing_one, divided}
use Rattle.cells.proofs.mark.Marking.divide.Goals.{then-undecided+then-parts-over, then-undecided+else-parts-over, else-undecided}
use Rattle.cells.proofs.mark.Marking.divide.Goals as goal

pub loop-d-init : goal.loop-d-init
loop-d-init c =
    let a = c.args in
    let q = c.requires.1 in
    (zero-le, dividing_none a.self.now.table.n.0 a.self.now.table.darts a.self.now.table.entries.now a.self.now.dimension.0 c.requires.0.level c.requires.0.low (has a.reached.now) (has none) q.cells q.lacks (none_has 4096), q.room, record { reached_long = length-replicate 4096 false; queue_long = q.room.queue_long })

pub orbit-requires : goal.orbit-requires
orbit-requires c =
    let a = c.args in
    let l = c.loop-d in
    let told = undivided_tells a.self.now.table.n.0 a.self.now.table.darts a.self.now.table.entries.now a.self.now.dimension.0 (has l.reached) (has l.parts) l.d (sym c.undecided.ensures ∙ c.if-undecided.true) in
    rw c.begin-search.ensures (record { ready = level_ready a.self.now.table.n.0 a.self.now.table.darts a.self.now.table.entries.now c.requires.0.level c.all_but_two-part.result (besides a.self.now.dimension.0) c.all_but_two-part.ensures l.d l.parts l.queue (c.loop-d-test.true, told.0) l.invariant.3 l.invariant.1.parts_closed; stored = queue_empty l.invariant.3; le_n = omega (arith, c.requires.0.low) })

pub bounds-parts-over : goal.bounds-parts-over
bounds-parts-over c =
    let a = c.args in
    let l = c.loop-d in
    let told = undivided_tells a.self.now.table.n.0 a.self.now.table.darts a.self.now.table.entries.now a.self.now.dimension.0 (has l.reached) (has l.parts) l.d (sym c.undecided.ensures ∙ c.if-undecided.true) in
    rw c.at-over.ensures (omega (arith, ((level_valid a.self.now.table.n.0 a.self.now.table.darts a.self.now.table.entries.now c.requires.0.level).inside (a.self.now.dimension.0 + 1) l.d (omega arith) (c.loop-d-test.true, told.0)).0, c.requires.0.level.rows.darts))

pub orbit-requires-then-parts-over : goal.orbit-requires-then-parts-over
orbit-requires-then-parts-over c =
    let a = c.args in
    let l = c.loop-d in
    let queue = c.orbit.new.queue in
    let told = undivided_tells a.self.now.table.n.0 a.self.now.table.darts a.self.now.table.entries.now a.self.now.dimension.0 (has l.reached) (has l.parts) l.d (sym c.undecided.ensures ∙ c.if-undecided.true) in
    let room : Room l.reached queue = record { reached_long = l.invariant.2.reached_long; queue_long = c.orbit.ensures.stored.room.queue_long } in
    rw c.begin-search.ensures (record { ready = level_ready a.self.now.table.n.0 a.self.now.table.darts a.self.now.table.entries.now c.requires.0.level c.all_but-cell.result (but a.self.now.dimension.0) c.all_but-cell.ensures l.d l.reached queue (c.loop-d-test.true, told.0) room l.invariant.1.cells_closed; stored = queue_empty room; le_n = omega (arith, c.requires.0.low) })

pub loop-d-preserved : goal.loop-d-preserved
loop-d-preserved c =
    let a = c.args in
    let l = c.loop-d in
    let N = a.self.now.table.darts in
    let T = a.self.now.table.entries.now in
    let δ = a.self.now.dimension.0 in
    let told : c.undecided.result ≡ true → Present a.self.now.table.n.0 N T l.d × (has l.reached l.d ≡ false) × (has l.parts (entry N T (δ + 1) l.d) ≡ false) =
    λ yes. let w = undivided_tells a.self.now.table.n.0 N T δ (has l.reached) (has l.parts) l.d (sym c.undecided.ensures ∙ yes) in
    ((c.loop-d-test.true, w.0), w.1, w.2) in
    elim c.if-undecided.branch [
      | then-undecided+then-parts-over w ↦
          let found = rw w.begin-search.ensures at w.orbit.ensures in
          let is = told w.if-undecided.true in
          let parts = w.orbit.new.reached in
          let added = level_added a.self.now.table.n.0 N T c.requires.0.level c.all_but_two-part.result (besides δ) c.all_but_two-part.ensures l.d l.parts parts w.orbit.new.queue is.0 found.stored.room found.added in
          let again = w.orbit-then-parts-over in
          let found-again = rw w.begin-search.ensures at again.ensures in
          let cells = again.new.reached in
          let spoilt = level_added a.self.now.table.n.0 N T c.requires.0.level c.all_but-cell.result (but δ) c.all_but-cell.ensures l.d l.reached cells again.new.queue is.0 found-again.stored.room found-again.added in
          let one = dividing_one a.self.now.table.n.0 N T δ c.requires.0.level c.requires.0.low (has l.reached) (has l.parts) l.d l.invariant.1 is.0 is.1 (has parts) added is.2 (rw w.at-over.ensures at w.if-parts-over.true) (has cells) spoilt in
          (omega arith, rw (w.reached-is, w.parts-is) one, rw (w.reached-is, w.queue-is) found-again.stored.room, rw (w.queue-is, w.parts-is) (record { reached_long = found.stored.room.reached_long; queue_long = found-again.stored.room.queue_long }))
      | then-undecided+else-parts-over w ↦
          let found = rw w.begin-search.ensures at w.orbit.ensures in
          let is = told w.if-undecided.true in
          let parts = w.orbit.new.reached in
          let added = level_added a.self.now.table.n.0 N T c.requires.0.level c.all_but_two-part.result (besides δ) c.all_but_two-part.ensures l.d l.parts parts w.orbit.new.queue is.0 found.stored.room found.added in
          let two = dividing_two a.self.now.table.n.0 N T δ c.requires.0.level c.requires.0.low (has l.reached) (has l.parts) l.d l.invariant.1 is.0 is.1 (has parts) added (rw w.at-over.ensures at w.if-parts-over.false) in
          (omega arith, rw (w.reached-is, w.parts-is) two, rw (w.reached-is, w.queue-is) (record { reached_long = l.invariant.2.reached_long; queue_long = found.stored.room.queue_long }), rw (w.queue-is, w.parts-is) found.stored.room)
      | else-undecided w ↦ (omega arith, rw (w.reached-is, w.parts-is) (dividing_pass a.self.now.table.n.0 N T δ c.requires.0.level c.requires.0.low (has l.reached) (has l.parts) l.d l.invariant.1 (sym c.undecided.ensures ∙ w.if-undecided.false)), rw (w.reached-is, w.queue-is) l.invariant.2, rw (w.queue-is, w.parts-is) l.invariant.3)
    ]

pub returns : goal.returns
returns c =
    let a = c.args in
    let l = c.loop-d in
    let e : l.d ≡ a.self.now.table.darts = omega arith in
    record { room = l.invariant.2; cells = l.invariant.1.cells_closed; lacks = divided a.self.now.table.n.0 a.self.now.table.darts a.self.now.table.entries.now a.self.now.dimension.0 c.requires.0.level c.requires.0.low (has l.reached) (has l.parts) (rw e at l.invariant.1) }
