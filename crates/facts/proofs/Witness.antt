-- Nothing is vacuous for any n: a pyramid of four darts for every n from 1 on, and a walk that passes as many darts as the facts allow. Assumes nothing.
use mathlib.Core.Path.{◌≡◌, refl, sym, ap, ◌∙◌}
use mathlib.Core.Logic.{inl, inr}
use mathlib.Core.Bool.{Bool, true, false, cond, true≢false}
use mathlib.Core.List.{[], ◌∷◌}
use Prim.Native.Nat.{ℕ, zero, ◌+◌, ◌*◌, ◌≤◌, ◌<◌}
use native.Mathlib.Omega.{arith}
use lib.Dec.{eqb, lit<, lit≤}
use borrow.Author.Count.{below_none, below_more}
use borrow.Author.Tests.{ne_eqb}
use Rattle.maps.specs.Count.{count}
use Rattle.maps.specs.Map.{Involutions, Valid}
use Rattle.maps.specs.Table.{each}
use Rattle.maps.specs.Folded.{On, gone, removed_below}
use Rattle.facts.proofs.Runs.{swap, Run, unique}
use Rattle.facts.proofs.ByKind.{KernelOf}
use Rattle.facts.proofs.Towers.{in_kernel, floor}
use Rattle.facts.proofs.TowerFacts.{FactsOf}
use Rattle.facts.proofs.EveryN.{via, KernelsOf, facts_of}

-- what holds of four darts holds of each below 4
four : (P : ℕ → Type 0) → P 0 → P 1 → P 2 → P 3 → (d : ℕ) → d < 4 → P d
four P p₀ p₁ p₂ p₃ = below_more P 3 (below_more P 2 (below_more P 1 (below_more P 0 (below_none P) p₀) p₁) p₂) p₃

-- a_n leads from 0 to 1 and from 2 to 3
abbrev last : ℕ → ℕ
last = each (1 ∷ 0 ∷ 3 ∷ 2 ∷ [])

-- a_(n−1) leads from 1 to 2
abbrev middle : ℕ → ℕ
middle = each (0 ∷ 2 ∷ 1 ∷ 3 ∷ [])

-- Kernel 0 removes 0 and 1, with dimension n−1.
abbrev Λ : ℕ → ℕ
Λ = each (0 ∷ 0 ∷ 1 ∷ 1 ∷ [])

abbrev contracted : ℕ → Bool
contracted d = false

-- n is m + 1
module _ (m : ℕ) where
  -- the other rows lead every dart to itself
  unfoldable pub chain : Involutions
  chain i d = cond (eqb i (m + 1)) (last d) (cond (eqb i m) (middle d) d)

  -- the dimension of every dart
  abbrev pub δ : ℕ → ℕ
  δ d = m

  by_other : (i d : ℕ) → i < m → chain i d ≡ d
  unfolding chain
  by_other i d f = rw (ne_eqb i (m + 1) (λ e. omega arith), ne_eqb i m (λ e. omega arith))

  -- row i is one of three
  row : (P : (ℕ → ℕ) → Type 0) → P last → P middle → P (λ d. d) → (i : ℕ) → P (chain i)
  unfolding chain
  row P p q r i = go (eqb i (m + 1)) (eqb i m)
    where
      go : (x y : Bool) → P (λ d. cond x (last d) (cond y (middle d) d))
      go true y = p
      go false true = q
      go false false = r

  chain_valid : Valid chain (m + 1) (λ d. d < 4)
  chain_valid = record {
    inside = λ i d li. row (λ f. (d : ℕ) → d < 4 → f d < 4) (four _ (lit< tt) (lit< tt) (lit< tt) (lit< tt)) (four _ (lit< tt) (lit< tt) (lit< tt) (lit< tt)) (λ d ld. ld) i d;
    twice = λ i d li. row (λ f. (d : ℕ) → d < 4 → f (f d) ≡ d) (four _ refl refl refl refl) (four _ refl refl refl refl) (λ d ld. refl) i d;
    commute = λ i j d f lj ld. ap (chain j) (by_other i d (omega arith)) ∙ sym (by_other i (chain j d) (omega arith));
  }

  -- every row but a_(n−1) leads from a dart of the kernel to one of the kernel
  kept : (j d : ℕ) → d < 4 → in_kernel Λ 0 d ≡ true → (j ≡ m → ⊥) → in_kernel Λ 0 (chain j d) ≡ true
  unfolding chain
  kept j d ld q ne = rw (ne_eqb j m ne) (go (eqb j (m + 1)) d ld q)
    where
      go : (x : Bool) (d : ℕ) → d < 4 → in_kernel Λ 0 d ≡ true → in_kernel Λ 0 (cond x (last d) d) ≡ true
      go true = four _ (λ q. refl) (λ q. refl) (λ q. absurd (true≢false (sym q))) (λ q. absurd (true≢false (sym q)))
      go false = λ d ld q. q

  chain_kernel : KernelOf chain (m + 1) (On 4 Λ 0) (in_kernel Λ 0) contracted δ
  chain_kernel = record {
    range = λ d p q. omega arith;
    whole = λ d j p q lj ne. (kept j d p.0 q ne, refl, refl);
    removable = λ d p q e f. absurd (omega arith);
    contractible = λ d p q e. absurd (true≢false (sym e));
  }

  -- what `facts-of` asks holds
  pub chain_kernels : KernelsOf chain (m + 1) 4 1 Λ contracted δ
  unfolding floor
  chain_kernels = record { base = chain_valid; kernel = λ l f. let z : l ≡ zero = omega arith in rw z chain_kernel }

  pub chain_facts : FactsOf chain (m + 1) 4 Λ δ (via chain (m + 1) 4 1 Λ contracted δ) 1
  chain_facts = facts_of chain (m + 1) 4 1 Λ contracted δ chain_kernels 1 (lit≤ tt)

-- The walk of dart 2 by a_(n−1) passes 1, 0, 0 and 1 and comes back to 2: two removed darts are passed twice each, and no walk may pass more. Here n is 12, past all that bytes say.
pub chain_reached : (li : 11 ≤ 12) (o : On 4 Λ 1 2) → (((chain_facts 11).course 11 2 li o).passes ≡ 4) × (2 * removed_below 4 Λ 1 ≡ 4)
unfolding chain swap count
chain_reached li o =
    let w = (chain_facts 11).course 11 2 li o in
    let via₁₁ = via (chain 11) 12 4 1 Λ contracted (δ 11) in
    let r : Run (chain 11) (δ 11) via₁₁ (gone Λ 1) 4 11 2 11 2 = ((refl, inl refl, (refl, inr refl, (refl, inl refl, (refl, inr refl, (refl, refl))))), refl) in
    ((unique (chain 11) (δ 11) via₁₁ (gone Λ 1) w.passes 4 11 2 11 (floor (chain 11) (δ 11) via₁₁ 4 Λ 1 11 2) 11 2 w.run r).0, refl)
