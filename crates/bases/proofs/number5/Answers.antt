-- `bases::number5` meets its contract. Assumes nothing.
use mathlib.Core.Path.{sym}
use Prim.Native.Nat.{zero-le}
use native.Mathlib.Omega.{arith}
use borrow.Author.Rules.{rules}
use Rattle.maps.specs.Check.{at5, check5}
use Rattle.bases.specs.InTable.{Row, strays_in}
use Rattle.bases.proofs.Places.{rows_row, due_none, due_first, base_none}
use Rattle.bases.proofs.number5.Goals as goal

pub returns-then-largest-table : goal.returns-then-largest-table
returns-then-largest-table c = let a = c.args in sym (base_none a.explicit a.table.now.n.0 a.table.now.darts a.table.now.entries.now c.requires (λ k l. omega (arith, c.largest.ensures.above k l)))

pub first_due-requires : goal.first_due-requires
first_due-requires c =
    let a = c.args in (
      λ i d li ld.
          let first : Row a.table.now.darts a.table.now.entries.now 0 = rows_row a.table.now.n.0 a.table.now.darts 0 a.table.now.entries.now c.requires zero-le in
          let here : Row a.table.now.darts a.table.now.entries.now i = rows_row a.table.now.n.0 a.table.now.darts i a.table.now.entries.now c.requires li in
          search rules,
      c.requires.dimension,
    )

pub returns-in-Some : goal.returns-in-Some
unfolding at5 check5
returns-in-Some c =
    let a = c.args in
    sym (due_first 5 a.table.now.darts (λ i. i) (strays_in a.explicit a.table.now.darts a.table.now.entries.now) a.table.now.n.0 _ (λ i d b li ld s. search rules) c.in-Some.at c.in-Some.ensures)

pub returns-in-None : goal.returns-in-None
unfolding at5 check5
returns-in-None c =
    let a = c.args in
    sym (due_none 5 a.table.now.darts (λ i. i) (strays_in a.explicit a.table.now.darts a.table.now.entries.now) a.table.now.n.0 _ (λ i d b li ld s. search rules) c.in-None.ensures)
