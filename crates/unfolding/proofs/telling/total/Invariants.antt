-- `unfolding::telling::total` meets its contract. The invariant: the rows passed are summed. The measure is the rows left. Assumes nothing.
use mathlib.Core.Path.{◌≡◌}
use mathlib.Core.Bool.{cond}
use mathlib.Core.List.{List}
use Prim.Native.Nat.{ℕ, ◌-◌, ◌*◌, ◌≤◌}
use Rattle.maps.specs.Count.{sum}
use Rattle.maps.specs.Table.{entry, each}
use Rattle.maps.specs.Folded.{survives}
use Rattle.unfolding.proofs.telling.total.Given as goal

-- what the first m rows sum to
abbrev pub Rows : List ℕ → ℕ → List ℕ → ℕ → ℕ → ℕ
Rows lambda l table N m = sum (λ i. sum (λ b. cond (survives (each lambda) l b) (entry N table i b) 0) N) m

abbrev pub invariant-loop-i : goal.invariant-loop-i
invariant-loop-i l = (l.i ≤ l.i-end) × (l.from ≡ l.i * l.darts) × (l.all ≡ Rows l.lambda l.level.0 l.table l.darts l.i) × (l.all ≤ 268435456 * l.i)

abbrev pub decreases-loop-i : goal.decreases-loop-i
decreases-loop-i l = l.i-end - l.i
