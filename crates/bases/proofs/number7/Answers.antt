-- `bases::number7` meets its contract. Each loop's invariant says that no place before is refused. Assumes nothing.
use mathlib.Core.Path.{◌≡◌, sym, ap, ◌∙◌}
use mathlib.Core.Bool.{true}
use Prim.Native.Nat.{ℕ, ◌≤◌, ◌<◌, zero-le}
use native.Mathlib.Omega.{arith}
use borrow.Author.Count.{below_more}
use Rattle.maps.specs.Table.{entry}
use Rattle.answers.specs.Numbers.{verdict_of}
use Rattle.bases.specs.InTable.{Row, present_if}
use Rattle.bases.proofs.Places.{rows_row, none7, first7, inside}
use Rattle.bases.proofs.number7.Goals as goal

pub not_commuting-requires : goal.not_commuting-requires
not_commuting-requires c =
    let a = c.args in
    let d = c.loop-d.d in
    let row : (k : ℕ) → k ≤ a.table.now.n.0 → Row a.table.now.darts a.table.now.entries.now k = λ k l. rows_row a.table.now.n.0 a.table.now.darts k a.table.now.entries.now c.requires.0 l in
    let dart : (k : ℕ) → k ≤ a.table.now.n.0 → present_if a.explicit a.table.now.darts a.table.now.entries.now d ≡ true → entry a.table.now.darts a.table.now.entries.now k d < a.table.now.darts = λ k l. inside a.explicit a.table.now.n.0 a.table.now.darts a.table.now.entries.now c.requires.1 k d l c.loop-d-test.true in
    record { row_0 = row 0 zero-le; row_i = row c.rows.i (omega arith); row_j = row c.loop-j.j (omega arith); apart = omega arith; dart = c.loop-d-test.true; leads = λ h. (dart c.rows.i (omega arith) h, dart c.loop-j.j (omega arith) h) }

pub loop-j-preserved : goal.loop-j-preserved
loop-j-preserved c =
    let v = c.loop-d.invariant in
    let e : c.loop-d.d ≡ c.args.table.now.darts = omega arith in
    (v.0, omega arith, v.3, below_more _ _ v.4 (λ k l. v.5 k (omega arith)), v.6)

pub rows-preserved : goal.rows-preserved
rows-preserved c = let v = c.loop-j.invariant in (below_more _ _ v.2 (λ f l. v.3 f (omega arith)), v.4)

pub returns-after-rows : goal.returns-after-rows
returns-after-rows c = let a = c.args in let v = c.rows.invariant in ap verdict_of v.1 ∙ sym (none7 a.explicit a.table.now.n.0 a.table.now.darts a.table.now.entries.now (λ i li j lj. v.0 i (omega arith) j (omega arith)))

pub returns-then-not_commuting : goal.returns-then-not_commuting
returns-then-not_commuting c =
    let a = c.args in
    let v = c.loop-d.invariant in
    sym (first7 a.explicit a.table.now.n.0 a.table.now.darts a.table.now.entries.now c.rows.i c.loop-j.j c.loop-d.d (omega arith) (omega arith) c.loop-d-test.true (λ k lk f lf. v.3 k lk f (omega arith)) v.4 v.5 (sym c.not_commuting.ensures ∙ c.if-not_commuting.true))
