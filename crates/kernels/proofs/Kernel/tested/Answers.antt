-- `kernels::Kernel::tested` meets its contract. Assumes nothing.
use Rattle.maps.specs.Table.{entry}
use Rattle.maps.specs.Check.{check9, check10, check_kernel}
use Rattle.answers.proofs.Refusals.{passed_on, told, refused_then}
use Rattle.kernels.specs.Strings.{kernel_row}
use Rattle.kernels.proofs.Kernel.tested.Goals as goal

pub returns-in_err-whole : goal.returns-in_err-whole
unfolding check_kernel
returns-in_err-whole c =
    rw (passed_on c.from_residual.result c.from_residual.ensures.1) (
    let w = c in
    let a = c.args in
    refused_then c.in_err-whole.field-0.0 (check9 (entry a.self.now.darts a.table.now) a.self.now.n.0 a.self.now.darts (kernel_row a.self.now.lambda.now a.self.now.delta.now a.self.now.level.0) a.self.now.level.0)
    (check10 (entry a.self.now.darts a.table.now) a.self.now.n.0 a.self.now.darts (kernel_row a.self.now.lambda.now a.self.now.delta.now a.self.now.level.0) a.self.now.level.0) (told w.whole.ensures c.in_err-whole.was)
    )

pub returns : goal.returns
unfolding check_kernel
returns c = let w = c in rw (← (told w.whole.ensures c.in_ok-whole.was)) c.fitting.ensures
