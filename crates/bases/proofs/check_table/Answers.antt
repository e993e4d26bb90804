-- `bases::check_table` meets its contract. Assumes nothing.
use mathlib.Core.Path.{sym, ap, ◌∙◌}
use Rattle.answers.specs.Lent.{lent_of}
use Rattle.answers.proofs.Refusals.{told}
use Rattle.bases.proofs.Places.{lent_rows}
use Rattle.bases.proofs.check_table.Goals as goal

pub map_refused-requires : goal.map_refused-requires
map_refused-requires c = let a = c.args in lent_rows a.table.now.n.0 a.table.now.darts a.table.now.entries.now (sym (told (c.lent.ensures ∙ ap (lent_of a.table.now.n.0 a.table.now.darts 0) c.rows_fit-fit.ensures) c.in_ok-lent.was))
