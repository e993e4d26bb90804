-- The rows of a table that is lent as one value. Assumes nothing: these are definitions.
use Rattle.std.specs.Prelude.{ℕ}
use Rattle.answers.specs.declared.Table.{Table}
use Rattle.answers.specs.Rows.{Rows}
use Rattle.bases.specs.InTable.{Row}

-- row i lies in it
abbrev pub HasRow : Table → ℕ → Type 0
HasRow t i = Row t.darts t.entries.now i

-- it has its n+1 rows, and no more
abbrev pub HasRows : Table → Type 0
HasRows t = Rows t.n.0 t.darts t.entries.now
