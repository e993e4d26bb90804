-- `counting::level::count_cells` meets its contract. The invariant: the set has the cells of the darts passed, and their lowest darts are counted, for whichever dimension the choice is of. Assumes nothing.
use mathlib.Core.Path.{◌≡◌, sym, subst, ◌∙◌}
use mathlib.Core.Bool.{true, false, not}
use Prim.Native.Nat.{ℕ, zero-le}
use native.Mathlib.Omega.{arith}
use borrow.Author.Tests.{not-true, not-false}
use Rattle.laws.proofs.Verdicts.{and_both, and_rest}
use Rattle.orbits.specs.Search.{has}
use Rattle.orbits.proofs.Sets.{none_has, none_room, queue_empty}
use Rattle.orbits.proofs.Decided.{none}
use Rattle.orbits.specs.Explicit.{but}
use Rattle.orbits.proofs.Explicit.{Present, level_ready, level_added}
use Rattle.counting.proofs.Counts.{Counting, counting_none, counting_pass, counting_add, counting_all}
use Rattle.counting.proofs.level.count_cells.Goals.{then-there-reached, else-there-reached}
use Rattle.counting.proofs.level.count_cells.Goals as goal

pub loop-d-init : goal.loop-d-init
loop-d-init c =
    let a = c.args in
    (zero-le, zero-le, λ i is. counting_none a.table.now.n.0 a.table.now.darts a.table.now.entries.now i (has none) (none_has 4096), none_room)

pub orbit-requires : goal.orbit-requires
orbit-requires c =
    let a = c.args in
    let counting : Counting a.table.now.n.0 a.table.now.darts a.table.now.entries.now a.dimension.0 (has c.loop-d.reached) c.loop-d.d c.loop-d.number =
    c.loop-d.invariant.2 c.args.dimension.0 c.all_but-choice.ensures in
    let told : Present a.table.now.n.0 a.table.now.darts a.table.now.entries.now c.loop-d.d × (has c.loop-d.reached c.loop-d.d ≡ false) =
    let l = c.loop-d in
    let there = c.there in
    let w = and_both there.result (not (has l.reached l.d)) c.if-there-reached.true in
    ((c.loop-d-test.true, sym there.ensures ∙ w.0), not-true (has l.reached l.d) w.1) in
    let l = c.loop-d in rw c.begin-search.ensures (record { ready = level_ready a.table.now.n.0 a.table.now.darts a.table.now.entries.now c.requires.0 c.all_but-choice.result (but a.dimension.0) c.all_but-choice.ensures l.d l.reached l.queue told.0 l.invariant.3 counting.closed; stored = queue_empty l.invariant.3; le_n = c.requires.1 })

pub loop-d-preserved : goal.loop-d-preserved
loop-d-preserved c =
    let a = c.args in
    let l = c.loop-d in
    let there = c.there in
    let N = a.table.now.darts in
    let T = a.table.now.entries.now in
    elim c.if-there-reached.branch [
      | then-there-reached w ↦
          let found = rw w.begin-search.ensures at w.orbit.ensures in
          let is : Present a.table.now.n.0 N T l.d × (has l.reached l.d ≡ false) =
          let v = and_both there.result (not (has l.reached l.d)) w.if-there-reached.true in
          ((c.loop-d-test.true, sym there.ensures ∙ v.0), not-true (has l.reached l.d) v.1) in
          let set = w.orbit.new.reached in (
            omega arith,
            rw w.number-is (omega (arith, l.invariant.1)),
            λ i is-but.
                let added = level_added a.table.now.n.0 N T c.requires.0 c.all_but-choice.result (but i) is-but l.d l.reached set w.orbit.new.queue is.0 found.stored.room found.added in
                rw (w.reached-is, w.number-is) (counting_add a.table.now.n.0 N T i c.requires.0 (has l.reached) l.d l.number (l.invariant.2 i is-but) is.0 is.1 (has set) added),
            rw (w.reached-is, w.queue-is) found.stored.room,
          )
      | else-there-reached w ↦
          let reached : Present a.table.now.n.0 N T l.d → has l.reached l.d ≡ true = λ p. not-false (has l.reached l.d) (and_rest there.result (not (has l.reached l.d)) (there.ensures ∙ p.1) w.if-there-reached.false) in (
            omega arith,
            rw w.number-is (omega (arith, l.invariant.1)),
            λ i is-but. rw (w.reached-is, w.number-is) (counting_pass a.table.now.n.0 N T i c.requires.0 (has l.reached) l.d l.number (l.invariant.2 i is-but) c.loop-d-test.true reached),
            rw (w.reached-is, w.queue-is) l.invariant.3,
          )
    ]

pub returns : goal.returns
returns c =
    let a = c.args in
    let counting : Counting a.table.now.n.0 a.table.now.darts a.table.now.entries.now a.dimension.0 (has c.loop-d.reached) c.loop-d.d c.loop-d.number =
    c.loop-d.invariant.2 c.args.dimension.0 c.all_but-choice.ensures in
    let l = c.loop-d in
    let e : l.d ≡ a.table.now.darts = omega arith in
    counting_all a.table.now.n.0 a.table.now.darts a.table.now.entries.now a.dimension.0 (has l.reached) l.number (subst (λ (k : ℕ). Counting a.table.now.n.0 a.table.now.darts a.table.now.entries.now a.dimension.0 (has l.reached) k l.number) e counting)
