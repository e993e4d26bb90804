-- `zg_row` meets its contract: the job does, and its answer is flattened. Assumes nothing.
use mathlib.Core.Path.{sym, ◌∙◌}
use Rattle.zompelgors.proofs.Accepted.{row_start}
use Rattle.zompelgors.proofs.zg_row.Goals as goal

pub part_as-requires : goal.part_as-requires
part_as-requires c = let a = c.args in λ e. row_start a.n a.darts a.h a.base.now a.unfolded.now a.level a.involution (sym c.row_refusal.ensures ∙ e)
