-- `regions::name_orbits` meets its contract. The invariant: the orbits of the darts passed are reached, and their darts are named. Assumes nothing.
use mathlib.Core.Path.{◌≡◌, sym, ◌∙◌}
use mathlib.Core.List.{List}
use Prim.Native.Nat.{ℕ, ◌≤◌, ◌<◌, zero-le}
use lib.ListN.{length, take, length-take}
use lib.Seq.{get_or-take}
use Rattle.regions.specs.Searches.{Given}
use native.Mathlib.Omega.{arith}
use Rattle.orbits.specs.Search.{has}
use Rattle.orbits.proofs.OrbitLaws.{none, none_has, none_room, queue_empty}
use Rattle.regions.proofs.Naming.{naming_none, naming_pass, naming_ready, naming_add}
use Rattle.regions.proofs.name_orbits.Goals.{then-not-reached-at, else-not-reached-at}
use Rattle.regions.proofs.name_orbits.Goals as goal

-- the front of the queue is named, up to its end
given_front : (name end : ℕ) (queue old new : List ℕ) → end ≤ length queue → Given name (take end queue) (length (take end queue)) old new → Given name queue end old new
given_front name end queue old new le g =
    let long : length (take end queue) ≡ end = simp length-take (omega arith) in
    record {
      long = g.long;
      given = λ k l. let e = get_or-take end queue k 0 l in rw (← e) (g.given k (omega arith));
      kept = λ d h. g.kept d (λ k l e. let kl : k < end = omega arith in h k kl (sym (get_or-take end queue k 0 kl) ∙ e));
    }

pub loop-start-init : goal.loop-start-init
loop-start-init c =
    let a = c.args in
    (zero-le, naming_none a.pyramid.now.sizes.n.0 a.pyramid.now.sizes.darts a.pyramid.now.rows.now a.choices.now (has none) a.names.now (none_has 4096) c.requires.1, none_room)

pub orbit-end-requires : goal.orbit-end-requires
orbit-end-requires c =
    let a = c.args in
    let l = c.loop-start in
    rw c.begin-search.ensures (record { ready = naming_ready a.pyramid.now.sizes.n.0 a.pyramid.now.sizes.darts a.pyramid.now.rows.now a.choices.now (has l.reached) l.names l.start l.invariant.1 c.requires.0 c.loop-start-test.true; stored = queue_empty l.invariant.2; le_n = c.requires.2 })

pub loop-start-preserved : goal.loop-start-preserved
loop-start-preserved c =
    let a = c.args in
    let l = c.loop-start in
    elim c.if-not-reached-at.branch [
      | then-not-reached-at w ↦
          let found = rw w.begin-search.ensures at w.orbit-end.ensures in
          let reached = w.orbit-end.new.reached in
          let queue = w.orbit-end.new.queue in
          let names = w.give.new.names in
          let next = naming_add a.pyramid.now.sizes.n.0 a.pyramid.now.sizes.darts a.pyramid.now.rows.now a.choices.now (has l.reached) l.names l.start l.invariant.1 c.requires.0 c.loop-start-test.true w.if-not-reached-at.true (has reached) queue w.orbit-end.result names found.added found.queued (given_front _ _ queue _ _ (omega (arith, found.queued.few, found.stored.room.queue_long, c.requires.0.rows.darts)) w.give.ensures) in
          (omega arith, rw (w.names-is, w.reached-is) next, rw (w.reached-is, w.queue-is) found.stored.room)
      | else-not-reached-at w ↦ (omega arith, rw (w.names-is, w.reached-is) (naming_pass a.pyramid.now.sizes.n.0 a.pyramid.now.sizes.darts a.pyramid.now.rows.now a.choices.now (has l.reached) l.names l.start l.invariant.1 w.if-not-reached-at.false), rw (w.reached-is, w.queue-is) l.invariant.2)
    ]
