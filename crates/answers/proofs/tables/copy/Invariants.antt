-- `answers::tables::copy` meets its contract. The invariant: the items passed are copied. Assumes nothing.
use mathlib.Core.Path.{◌≡◌}
use lib.ListN.{take}
use Rattle.answers.proofs.tables.copy.Given as goal

abbrev pub invariant-loop-k : goal.invariant-loop-k
invariant-loop-k g l = take l.k l.to ≡ take l.k l.from
