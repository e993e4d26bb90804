-- `kernels::Kernel::clear` meets its contract: n is the number that is handed on. Assumes nothing.
use Rattle.kernels.proofs.Kernel.clear.Goals as goal

pub returns-in-1 : goal.returns-in-1
returns-in-1 c test w = rw c.in-1.is (c.clear_strung.ensures test w)

pub returns-in-2 : goal.returns-in-2
returns-in-2 c test w = rw c.in-2.is (c.clear_strung-in-2.ensures test w)

pub returns-in-3 : goal.returns-in-3
returns-in-3 c test w = rw c.in-3.is (c.clear_strung-in-3.ensures test w)

pub returns-in-4 : goal.returns-in-4
returns-in-4 c test w = rw c.in-4.is (c.clear_strung-in-4.ensures test w)
