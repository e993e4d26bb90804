-- The walk facts for every n, on marks as a kind and a dimension. Assumes nothing.
use mathlib.Core.Bool.{Bool}
use Prim.Native.Nat.{ℕ, ◌≤◌, ◌<◌}
use native.Mathlib.Omega.{arith}
use Rattle.maps.specs.Map.{Involutions, Valid}
use Rattle.maps.specs.Folded.{On}
use Rattle.laws.proofs.Marks.{onto}
use Rattle.facts.proofs.ByKind.{KernelOf, passing_of}
use Rattle.facts.proofs.Towers.{in_kernel, floor, Tower, tower_of, tower_valid}
use Rattle.facts.proofs.TowerFacts.{FactsOf, tower_facts}

-- Kernel `Λ d` takes dart d, contracted or removed, with dimension `δ d`.
module _ (a : Involutions) (n N h : ℕ) (Λ : ℕ → ℕ) (contracted : ℕ → Bool) (δ : ℕ → ℕ) where
  -- the other row between which d is passed
  abbrev pub via : ℕ → ℕ
  via d = onto (contracted d) (δ d)

  -- a valid base, and at each level below h a kernel of that level
  pub record KernelsOf : Type 0 where
    pub base : Valid a n (λ d. d < N)
    pub kernel : (l : ℕ) → l < h → KernelOf (floor a δ via N Λ l) n (On N Λ l) (in_kernel Λ l) contracted δ

  -- walks can pass the kernels, each on the level that those before it leave
  pub tower : KernelsOf → Tower a n N h Λ δ via
  tower k = tower_of a n N Λ δ via k.base h (λ l f t. passing_of (floor a δ via N Λ l) n (On N Λ l) (tower_valid a n N l Λ δ via t l (omega arith)) (in_kernel Λ l) contracted δ (k.kernel l f))

  pub facts_of : KernelsOf → (l : ℕ) → l ≤ h → FactsOf a n N Λ δ via l
  facts_of k = tower_facts a n N Λ δ via h (tower k)
