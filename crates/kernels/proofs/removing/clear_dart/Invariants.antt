-- `kernels::removing::clear_dart` meets its contract. The invariant: the dart is cleared in the rows passed. The measure is the rows left. Assumes nothing.
use mathlib.Core.Bool.{◌&&◌}
use Prim.Native.Nat.{◌-◌, ◌≤◌}
use lib.Dec.{eqb, ltb}
use Rattle.kernels.specs.Ready.{Cleared}
use Rattle.kernels.proofs.removing.clear_dart.Given as goal

abbrev pub invariant-loop-i : goal.invariant-loop-i
invariant-loop-i l = (l.i ≤ l.i-end) × Cleared l.darts (λ t k. eqb k l.d && ltb t l.i) l.initial.table l.table

abbrev pub decreases-loop-i : goal.decreases-loop-i
decreases-loop-i l = l.i-end - l.i
