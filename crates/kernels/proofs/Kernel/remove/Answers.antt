-- `kernels::Kernel::remove` meets its contract. Assumes nothing.
use Rattle.kernels.proofs.Places.{shape_still}
use Rattle.kernels.proofs.Relinks.{removed_is}
use Rattle.kernels.proofs.Kernel.remove.Goals as goal

pub returns : goal.returns
returns c =
    let r = c in
    removed_is c.requires.ready r.relink.ensures.table_left ((rw c.requires.strung.marks.lambda_long at c.clear.ensures) _ c.requires.strung.string)

pub clear-requires : goal.clear-requires
clear-requires c = rw c.requires.strung.marks.lambda_long ((_, c.requires.strung.string), shape_still c.requires.ready.tested.shape c.relink.ensures.table_left.long)
