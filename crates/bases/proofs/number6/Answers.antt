-- `bases::number6` meets its contract. Assumes nothing.
use mathlib.Core.Path.{sym}
use Prim.Native.Nat.{zero-le}
use borrow.Author.Rules.{rules}
use Rattle.maps.specs.Check.{at6, check6}
use Rattle.bases.specs.InTable.{Row, Leads, not_twice_in}
use Rattle.bases.proofs.Places.{rows_row, due_none, due_first, inside}
use Rattle.bases.proofs.number6.Goals as goal

pub first_due-requires : goal.first_due-requires
first_due-requires c =
    let a = c.args in (
      λ i d li ld.
          let first : Row a.table.now.darts a.table.now.entries.now 0 = rows_row a.table.now.n.0 a.table.now.darts 0 a.table.now.entries.now c.requires.0 zero-le in
          let here : Row a.table.now.darts a.table.now.entries.now i = rows_row a.table.now.n.0 a.table.now.darts i a.table.now.entries.now c.requires.0 li in
          let leads : Leads a.explicit a.table.now.darts a.table.now.entries.now i d = inside a.explicit a.table.now.n.0 a.table.now.darts a.table.now.entries.now c.requires.1 i d li ld in
          search rules,
      c.requires.0.dimension,
    )

pub returns-in-Some : goal.returns-in-Some
unfolding at6 check6
returns-in-Some c =
    let a = c.args in
    sym (due_first 6 a.table.now.darts (λ i. i) (not_twice_in a.explicit a.table.now.darts a.table.now.entries.now) a.table.now.n.0 _ (λ i d b li ld s. search rules) c.in-Some.at c.in-Some.ensures)

pub returns-in-None : goal.returns-in-None
unfolding at6 check6
returns-in-None c =
    let a = c.args in
    sym (due_none 6 a.table.now.darts (λ i. i) (not_twice_in a.explicit a.table.now.darts a.table.now.entries.now) a.table.now.n.0 _ (λ i d b li ld s. search rules) c.in-None.ensures)
