-- `bases::number7` meets its contract. Each loop's invariant says that no place before is refused. Assumes nothing.
use mathlib.Core.Path.{◌≡◌}
use mathlib.Core.Bool.{false}
use Prim.Native.Nat.{ℕ, ◌+◌, ◌≤◌, ◌<◌}
use Rattle.std.specs.Prelude.{Ok}
use Rattle.bases.specs.InTable.{not_commuting_in}
use Rattle.bases.proofs.number7.Given as goal

abbrev pub invariant-loop-d : goal.invariant-loop-d
invariant-loop-d l = (l.i < l.i-end) × (l.i + 2 ≤ l.j) × (l.j < l.j-end) × ((k : ℕ) → k < l.i → (f : ℕ) → f < l.i-end → (e : ℕ) → e < l.table.darts → not_commuting_in l.explicit l.table.darts l.table.entries.now k f e ≡ false) × ((f : ℕ) → f < l.j → (e : ℕ) → e < l.table.darts → not_commuting_in l.explicit l.table.darts l.table.entries.now l.i f e ≡ false) × ((e : ℕ) → e < l.d → not_commuting_in l.explicit l.table.darts l.table.entries.now l.i l.j e ≡ false) × (l.found ≡ Ok tt)

abbrev pub invariant-loop-j : goal.invariant-loop-j
invariant-loop-j l = (l.i < l.i-end) × (l.i + 2 ≤ l.j) × ((k : ℕ) → k < l.i → (f : ℕ) → f < l.i-end → (e : ℕ) → e < l.table.darts → not_commuting_in l.explicit l.table.darts l.table.entries.now k f e ≡ false) × ((f : ℕ) → f < l.j → (e : ℕ) → e < l.table.darts → not_commuting_in l.explicit l.table.darts l.table.entries.now l.i f e ≡ false) × (l.found ≡ Ok tt)

abbrev pub invariant-rows : goal.invariant-rows
invariant-rows l = ((k : ℕ) → k < l.i → (f : ℕ) → f < l.i-end → (e : ℕ) → e < l.table.darts → not_commuting_in l.explicit l.table.darts l.table.entries.now k f e ≡ false) × (l.found ≡ Ok tt)
