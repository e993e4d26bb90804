-- `unfolding::telling::tell` meets its contract. The invariant: the counts and levels since which of the level stand in the tables, and those of the levels below are told. The measure is the levels left. Assumes nothing.
use mathlib.Core.Path.{◌≡◌}
use Prim.Native.Nat.{◌-◌, ◌*◌, ◌≤◌}
use lib.ListN.{length}
use Rattle.answers.specs.Pyramid.{folded}
use Rattle.unfolding.specs.Told.{Levels}
use Rattle.unfolding.proofs.Tellings.{Here}
use Rattle.unfolding.proofs.telling.tell.Given as goal

abbrev pub invariant-loop-l : goal.invariant-loop-l
invariant-loop-l l = (l.l ≤ l.top) × (l.from ≡ l.l * l.size) × (length l.reads ≡ l.size) × (length l.stands ≡ l.size) × (length l.counts ≡ 33) × (length l.since ≡ 33) × ((L : Levels (folded l.pyramid) l.tables) → Here (folded l.pyramid) l.tables L l.initial.counts l.initial.since l.counts l.since l.reads l.stands l.l)

abbrev pub decreases-loop-l : goal.decreases-loop-l
decreases-loop-l l = l.top - l.l
