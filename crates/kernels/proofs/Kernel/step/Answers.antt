-- `kernels::Kernel::step` meets its contract. Assumes nothing.
use mathlib.Core.Path.{◌≡◌}
use Rattle.maps.specs.Verdict.{accepted}
use Rattle.maps.specs.Table.{entry}
use Rattle.maps.specs.Check.{check_kernel}
use Rattle.answers.proofs.Refusals.{told}
use Rattle.kernels.specs.Strings.{kernel_row}
use Rattle.kernels.proofs.Steps.{step_ready}
use Rattle.kernels.proofs.Kernel.step.Goals as goal

pub remove-requires : goal.remove-requires
remove-requires c =
    let passed : let a = c.args in accepted ≡ check_kernel (entry a.self.now.darts a.table.now) a.self.now.n.0 a.self.now.darts (kernel_row a.self.now.lambda.now a.self.now.delta.now a.self.now.level.0) a.self.now.level.0 =
    told c.tested.ensures c.in_ok-tested.was in
    let s = c in record { ready = step_ready s.requires.tested _ (passed); strung = s.requires.strung }
