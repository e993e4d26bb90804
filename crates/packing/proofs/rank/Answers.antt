-- `packing::rank` meets its contract. The invariant: the darts passed have their ranks, and `below` is the rank of the next. The measure: the darts left. Assumes nothing.
use mathlib.Core.Path.{◌≡◌, refl, sym, ◌∙◌}
use Prim.Native.Nat.{zero-le}
use native.Mathlib.Omega.{arith}
use lib.ListN.{length, length-set}
use borrow.Author.Count.{below_none}
use Rattle.maps.specs.Count.{count}
use Rattle.maps.specs.Table.{each}
use Rattle.maps.specs.Folded.{survives}
use Rattle.maps.specs.NewBase.{rank}
use Rattle.laws.proofs.Counting.{count_le}
use Rattle.laws.proofs.Tables.{listed_of, set_below}
use Rattle.packing.proofs.Packs.{count_on_lem, count_over}
use Rattle.packing.proofs.rank.Goals.{then-stands, else-stands}
use Rattle.packing.proofs.rank.Goals as goal

pub loop-d-init : goal.loop-d-init
unfolding count
loop-d-init c = (zero-le, refl, refl, below_none _)

pub overflow_add-below : goal.overflow_add-below
overflow_add-below c =
    let a = c.args in
    omega (arith, c.loop-d.invariant.1, count_le (survives (each a.lambda.now) a.level.0) c.loop-d.d)

pub loop-d-preserved : goal.loop-d-preserved
loop-d-preserved c =
    let l = c.loop-d in
    let a = c.args in
    let p = survives (each a.lambda.now) a.level.0 in
    let is = c.stands.ensures in (
      omega arith,
      (elim c.if-stands.branch [ then-stands w ↦ omega (arith, w, l.invariant.1, count_on_lem p l.d (sym is ∙ w.if-stands.true)) | else-stands w ↦ omega (arith, w, l.invariant.1, count_over p l.d (sym is ∙ w.if-stands.false)) ]),
      length-set l.ranks l.d l.below ∙ l.invariant.2,
      set_below (rank (each a.lambda.now) a.level.0) l.ranks l.d l.below (omega (arith, l.invariant.2)) l.invariant.3 l.invariant.1,
    )

pub returns : goal.returns
returns c =
    let l = c.loop-d in
    let s = c in
    let e : l.d ≡ length s.args.lambda.now = omega arith in record { answer = rw e at l.invariant.1; ranks_left = listed_of (rank (each s.args.lambda.now) s.args.level.0) (length s.args.lambda.now) l.ranks (omega (arith, l.invariant.2)) (rw e at l.invariant.3) }
