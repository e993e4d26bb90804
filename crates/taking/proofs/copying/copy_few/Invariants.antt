-- `taking::copy_few` meets its contract. The invariant: the entries passed are laid. Assumes nothing.
use Rattle.taking.specs.Parts.{two_from, Laid}
use Rattle.taking.proofs.copying.copy_few.Given as goal

abbrev pub invariant-loop-d : goal.invariant-loop-d
invariant-loop-d l = Laid (two_from l.body 0) 0 l.d l.initial.row l.row
