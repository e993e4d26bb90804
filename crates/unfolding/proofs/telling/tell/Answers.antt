-- `unfolding::telling::tell` meets its contract. The invariant: the counts and levels since which of the level stand in the tables, and those of the levels below are told. The measure is the levels left. Assumes nothing.
use mathlib.Core.Path.{◌≡◌, refl, sym, ap, ◌∙◌}
use Prim.Native.Nat.{ℕ, ◌≤◌, zero-le}
use native.Mathlib.Omega.{arith}
use lib.ListN.{length, replicate, get_or-replicate, length-set, length-replicate}
use Rattle.laws.proofs.Tables.{next_row}
use Rattle.answers.specs.Pyramid.{folded}
use Rattle.unfolding.specs.Told.{latest_on}
use Rattle.unfolding.proofs.Levelled.{based}
use Rattle.unfolding.proofs.Tellings.{part_room, part_ready, part_strung, part_fits, here_first, here_next, here_small, here_counts, here_since, place, few, front_long, table_asked, block_long}
use Rattle.unfolding.proofs.telling.tell.Goals as goal

pub string-requires : goal.string-requires
string-requires c =
    let b = based _ c.requires.0.accepts in (omega (arith, b.darts, b.lambda_long), record { none = λ k lk. get_or-replicate 256 k 65535 0 lk; heads = refl; room = refl })

pub slice_bounds-most_reads-end : goal.slice_bounds-most_reads-end
slice_bounds-most_reads-end c = few c.requires.0 c.entries-size.ensures

pub slice_bounds-reads-end : goal.slice_bounds-reads-end
slice_bounds-reads-end c = sym (front_long c.requires.0 c.entries-size.ensures _ (length-replicate {A = ℕ} 20480 1))

pub slice_bounds-most_stands-end : goal.slice_bounds-most_stands-end
slice_bounds-most_stands-end c = few c.requires.0 c.entries-size.ensures

pub slice_bounds-stands-end : goal.slice_bounds-stands-end
slice_bounds-stands-end c = sym (front_long c.requires.0 c.entries-size.ensures _ (length-replicate {A = ℕ} 20480 0))

pub loop-l-init : goal.loop-l-init
loop-l-init c =
    let a = c.args in
    let L = c.requires.0 in
    let is = c.entries-size.ensures in (
      zero-le,
      omega arith,
      front_long L is _ (length-replicate {A = ℕ} 20480 1),
      front_long L is _ (length-replicate {A = ℕ} 20480 0),
      c.fill.ensures.len ∙ c.requires.1,
      c.fill-2.ensures.len ∙ c.requires.2,
      λ K. here_first (folded a.pyramid.now) a.tables.now K is (few L is) _ _,
    )

pub total-requires : goal.total-requires
total-requires c = table_asked c.requires.0 c.entries-size.ensures c.loop-l.reads c.loop-l.invariant.2

pub bounds-counts-l : goal.bounds-counts-l
bounds-counts-l c = let v = c.loop-l.invariant in place c.requires.0 c.loop-l.l v.0 c.loop-l.counts v.4

pub latest-requires : goal.latest-requires
latest-requires c = table_asked c.requires.0 c.entries-size.ensures c.loop-l.stands c.loop-l.invariant.3

pub bounds-since-l : goal.bounds-since-l
bounds-since-l c = let v = c.loop-l.invariant in place c.requires.0 c.loop-l.l v.0 c.loop-l.since v.5

pub slice_bounds-block-end : goal.slice_bounds-block-end
slice_bounds-block-end c =
    let l = c.loop-l in
    omega (arith, part_room _ c.args.tables.now c.requires.0 l.l c.loop-l-test.true c.entries-size.result l.from c.entries-size.ensures l.invariant.1)

pub carry-requires : goal.carry-requires
carry-requires c =
    let L = c.requires.0 in
    let is = c.entries-size.ensures in
    let l = c.loop-l in
    let lt = c.loop-l-test.true in
    let v = l.invariant in
    let T = c.args.tables.now in
    let linked = rw (based _ L.accepts).lambda_long at c.string.ensures in record {
      can_take = (part_ready _ T L l.l lt _ l.from is v.1, part_strung _ T L l.l lt _ l.from is v.1 linked refl);
      reads_len = (v.2 ∙ sym (block_long L is l.l l.from lt v.1), part_fits _ T L l.l lt _ l.from is v.1 l.reads (v.6 L).counts_here);
    }

pub date-requires : goal.date-requires
date-requires c =
    let L = c.requires.0 in
    let is = c.entries-size.ensures in
    let l = c.loop-l in
    let lt = c.loop-l-test.true in
    let v = l.invariant in
    let T = c.args.tables.now in
    let linked = rw (based _ L.accepts).lambda_long at c.string.ensures in record {
      can_take = (part_ready _ T L l.l lt _ l.from is v.1, part_strung _ T L l.l lt _ l.from is v.1 linked refl);
      since_len = v.3 ∙ sym (block_long L is l.l l.from lt v.1);
    }

pub loop-l-preserved : goal.loop-l-preserved
loop-l-preserved c =
    let is = c.entries-size.ensures in
    let a = c.args in
    let l = c.loop-l in
    let lt = c.loop-l-test.true in
    let v = l.invariant in (
      omega (arith, lt),
      omega (arith, v.1, next_row l.l c.entries-size.result),
      c.carry.ensures.long ∙ v.2,
      c.date.ensures.long ∙ v.3,
      length-set l.counts l.l _ ∙ v.4,
      length-set l.since l.l _ ∙ v.5,
      λ K. here_next (folded a.pyramid.now) a.tables.now K l.reads l.stands c.entries-size.result l.from (v.6 K) lt is v.1 c.carry.new.reads c.date.new.since c.carry.ensures c.date.ensures c.total.ensures c.latest.ensures v.4 v.5,
    )

pub returns : goal.returns
returns c =
    let a = c.args in
    let v = c.loop-l.invariant in
    let L = c.requires.0 in
    let top : c.loop-l.l ≡ a.pyramid.now.sizes.h.0 = omega (arith, v.0, c.loop-l-test.false) in record {
      counts_left = here_counts (folded a.pyramid.now) a.tables.now L (v.6 L) top (c.fill.ensures.after (λ y e. e) ∙ ap (λ (x : ℕ). replicate x 0) c.requires.1) v.4 c.total-2.ensures;
      since_left = here_since (folded a.pyramid.now) a.tables.now L (v.6 L) top (c.fill-2.ensures.after (λ y e. e) ∙ ap (λ (x : ℕ). replicate x 0) c.requires.2) v.5 c.latest-2.ensures;
    }

pub overflow_cast-since : goal.overflow_cast-since
overflow_cast-since c =
    let v = c.loop-l.invariant in
    let small : c.latest.result ≤ 32 = here_small _ c.args.tables.now c.requires.0 (v.6 c.requires.0) v.0 c.latest.ensures in
    omega (arith, small)

pub overflow_cast-since-2 : goal.overflow_cast-since-2
overflow_cast-since-2 c =
    let a = c.args in
    let v = c.loop-l.invariant in
    let top : c.loop-l.l ≡ a.pyramid.now.sizes.h.0 = omega (arith, v.0, c.loop-l-test.false) in
    let small : c.latest-2.result ≤ 32 = here_small _ a.tables.now c.requires.0 (v.6 c.requires.0) v.0
    (c.latest-2.ensures ∙ ap (λ (x : ℕ). latest_on a.pyramid.now.sizes.n.0 (length a.pyramid.now.lambda.now) a.pyramid.now.lambda.now x c.loop-l.stands) (sym top)) in
    omega (arith, small)

pub total-requires-2 : goal.total-requires-2
total-requires-2 c = table_asked c.requires.0 c.entries-size.ensures c.loop-l.reads c.loop-l.invariant.2

pub bounds-counts-top : goal.bounds-counts-top
bounds-counts-top c = place c.requires.0 c.args.pyramid.now.sizes.h.0 (omega arith) c.loop-l.counts c.loop-l.invariant.4

pub latest-requires-2 : goal.latest-requires-2
latest-requires-2 c = table_asked c.requires.0 c.entries-size.ensures c.loop-l.stands c.loop-l.invariant.3

pub bounds-since-top : goal.bounds-since-top
bounds-since-top c = place c.requires.0 c.args.pyramid.now.sizes.h.0 (omega arith) c.loop-l.since c.loop-l.invariant.5
