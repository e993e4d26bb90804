-- Level l as a new base: its survivors renumbered from 0 in rising order, N their count, Λ and h reduced by l. Assumes nothing: these are definitions.
use Rattle.std.specs.Prelude.{Bool, true, false, ◌&&◌, ℕ, zero, suc, ◌-◌, eqb}
use Rattle.maps.specs.Count.{count}
use Rattle.maps.specs.Map.{Involutions}
use Rattle.maps.specs.Folded.{survives, survivors, marks, level}

-- the k-th of the numbers below m that pass the test, in rising order, counted from 0
unfoldable pub kth : (ℕ → Bool) → ℕ → ℕ → ℕ
kth p zero k = 0
kth p (suc m) k = elim (p m && eqb (count p m) k) [ true ↦ m | false ↦ kth p m k ]

-- Scope: 'Start again from a higher level'. The new number of a survivor of level l: how many survivors are below it.
abbrev pub rank : (ℕ → ℕ) → ℕ → ℕ → ℕ
rank Λ l d = count (survives Λ l) d

-- Scope: 'Start again from a higher level'. The old number of a new dart: the k-th survivor of level l in rising order.
abbrev pub old_number : ℕ → (ℕ → ℕ) → ℕ → ℕ → ℕ
old_number N Λ l k = kth (survives Λ l) N k

-- Scope: 'Start again from a higher level'. N becomes the survivors' count.
abbrev pub new_darts : ℕ → (ℕ → ℕ) → ℕ → ℕ
new_darts N Λ l = survivors N Λ l

-- Scope: 'Start again from a higher level'. h is reduced by l.
abbrev pub new_height : ℕ → ℕ → ℕ
new_height h l = h - l

-- Scope: 'Start again from a higher level'. Λ of the old number, reduced by l.
abbrev pub newΛ : ℕ → (ℕ → ℕ) → ℕ → ℕ → ℕ
newΛ N Λ l k = Λ (old_number N Λ l k) - l

-- Scope: 'Start again from a higher level'. Δ of the old number.
abbrev pub newΔ : ℕ → (ℕ → ℕ) → (ℕ → ℕ) → ℕ → ℕ → ℕ
newΔ N Λ Δ l k = Δ (old_number N Λ l k)

-- Scope: 'Start again from a higher level'. Level l is the new base: its involutions under the new numbers.
abbrev pub new_base : Involutions → ℕ → ℕ → ℕ → (ℕ → ℕ) → (ℕ → ℕ) → ℕ → Involutions
new_base a n N h Λ Δ l i k = rank Λ l (level a n N (marks h Λ Δ) l i (old_number N Λ l k))
