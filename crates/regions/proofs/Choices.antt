-- Laws of the rows by which a region goes on: from one dart, and for each dart in a row of choices. Assumes nothing.
use mathlib.Core.Path.{◌≡◌, refl, ap, ◌∙◌}
use mathlib.Core.Bool.{Bool, true, false, ◌&&◌, not}
use mathlib.Core.List.{List}
use Prim.Native.Nat.{ℕ, ◌+◌, ◌-◌, ◌≤◌, ◌<◌}
use native.Mathlib.Omega.{arith}
use lib.ListN.{length, set}
use lib.Seq.{get_or-set_same, get_or-set_other}
use lib.Dec.{eqb, ltb}
use borrow.Author.Count.{below_more}
use borrow.Author.Tests.{eqb-true, eqb-false, eq-eqb, ne_eqb, lt-ltb, le-ltb}
use Rattle.orbits.specs.Choices.{uses, chosen}
use Rattle.regions.specs.Searches.{goes_on, region_rows}

-- Δ = n−1, as the code tests it
one_less : (n delta : ℕ) → 1 ≤ n → eqb delta (n - 1) ≡ eqb (delta + 1) n
one_less n delta l = go (eqb (delta + 1) n) refl
  where
    go : (b : Bool) → eqb (delta + 1) n ≡ b → eqb delta (n - 1) ≡ eqb (delta + 1) n
    go true q = rw q (eq-eqb delta (n - 1) (omega (arith, eqb-true (delta + 1) n q)))
    go false q = let ne : delta + 1 ≡ n → ⊥ = eqb-false (delta + 1) n q in rw q (ne_eqb delta (n - 1) (λ e. omega arith))

module _ (n lambda delta l : ℕ) (one : 1 ≤ n) where
  opens : (b : Bool) → (ltb lambda l && eqb delta (n - 1)) ≡ b → (ltb lambda l && eqb (delta + 1) n) ≡ b
  opens b q = rw (← (one_less n delta one)) q

  -- where a_n is used too, every row is
  pub goes_open : (j : ℕ) → (ltb lambda l && eqb delta (n - 1)) ≡ true → goes_on n lambda delta l j ≡ true
  goes_open j q = go (ltb j n) refl
    where
      go : (b : Bool) → ltb j n ≡ b → goes_on n lambda delta l j ≡ true
      go true r = rw r
      go false r = rw r (opens true q)

  -- elsewhere every row but a_n
  pub goes_shut : (j : ℕ) → j ≤ n → (ltb lambda l && eqb delta (n - 1)) ≡ false → goes_on n lambda delta l j ≡ not (eqb j n)
  goes_shut j lj q = go (eqb j n) refl
    where
      go : (b : Bool) → eqb j n ≡ b → goes_on n lambda delta l j ≡ not (eqb j n)
      go true r = let e : j ≡ n = eqb-true j n r in rw (r, le-ltb j n (omega arith)) (opens false q)
      go false r = let ne : j ≡ n → ⊥ = eqb-false j n r in rw (r, lt-ltb j n (omega arith))

-- the choice of one dart more
pub choices_more : (n : ℕ) (Λ Δ : ℕ → ℕ) (l : ℕ) (choices : List ℕ) (d choice : ℕ) → d < length choices
    → ((k : ℕ) → k < d → (j : ℕ) → j ≤ n → chosen choices j k ≡ region_rows n Λ Δ l j k) → ((j : ℕ) → j ≤ n → uses choice j ≡ region_rows n Λ Δ l j d)
    → (k : ℕ) → k < d + 1 → (j : ℕ) → j ≤ n → chosen (set choices d choice) j k ≡ region_rows n Λ Δ l j k
choices_more n Λ Δ l choices d choice ld before this =
    below_more (λ k. (j : ℕ) → j ≤ n → chosen (set choices d choice) j k ≡ region_rows n Λ Δ l j k) d
    (λ k lk j lj. ap (λ (x : ℕ). uses x j) (get_or-set_other choices d k choice 0 (λ (e : k ≡ d). omega arith)) ∙ before k lk j lj)
    (λ j lj. ap (λ (x : ℕ). uses x j) (get_or-set_same choices d choice 0 ld) ∙ this j lj)
