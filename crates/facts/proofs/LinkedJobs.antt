-- Since which level a link stands, in the words of the jobs. Assumes nothing.
use mathlib.Core.Path.{◌≡◌, refl, sym, ap, ◌∙◌}
use mathlib.Core.Logic.{◌⊎◌, inl, inr}
use mathlib.Core.Bool.{Bool, true, false, cond}
use mathlib.Core.List.{List, reverse}
use Prim.Native.Nat.{ℕ, zero, suc, ◌≤◌, ◌<◌, max}
use native.Mathlib.Omega.{arith}
use lib.Dec.{eqb, leb}
use lib.ListN.{length}
use borrow.Author.Tests.{eqb-true, eqb-false, leb-true, leb-false, le-ltb, ltb-false, not-true}
use Rattle.maps.specs.Verdict.{accepted}
use Rattle.maps.specs.Table.{entry, each}
use Rattle.maps.specs.Folded.{On, gone, survives, marks, level, of_parts, Folded}
use Rattle.maps.specs.Cost.{reads}
use Rattle.maps.specs.Trail.{largest, trail, since, latest}
use Rattle.maps.specs.CheckPyramid.{check_lent}
use Rattle.maps.specs.Read.{found, read_lent, read_since}
use Rattle.maps.specs.Unfold.{unfold_since}
use Rattle.facts.proofs.AcceptedJobs.{accepted_pyramid, accepted_facts, accepted_read, accepted_unfold}
use Rattle.facts.proofs.Levels.{level_valid}
use Rattle.facts.proofs.Links.{Since, stands_since_lem, walk_trail, both_ends}

-- a largest number is at least each of the numbers
pub largest_most : (f : ℕ → ℕ) (m x : ℕ) → x < m → f x ≤ largest f m
unfolding largest
largest_most f zero x l = absurd (omega arith)
largest_most f (suc m) x l = go (eqb x m) refl (λ k. largest_most f m x k)
  where
    go : (b : Bool) → eqb x m ≡ b → (x < m → f x ≤ largest f m) → f x ≤ max (largest f m) (f m)
    go true q ih = let e = eqb-true x m q in rw e (omega arith)
    go false q ih = let ne = eqb-false x m q in omega (arith, ih (omega arith))

-- and is one of them, or 0
pub largest_one : (f : ℕ → ℕ) (m : ℕ) → (largest f m ≡ 0) ⊎ ((x : ℕ) × (x < m) × (largest f m ≡ f x))
unfolding largest
largest_one f zero = inl refl
largest_one f (suc m) = go (leb (largest f m) (f m)) refl (largest_one f m)
  where
    go : (b : Bool) → leb (largest f m) (f m) ≡ b → (largest f m ≡ 0) ⊎ ((x : ℕ) × (x < m) × (largest f m ≡ f x)) → (max (largest f m) (f m) ≡ 0) ⊎ ((x : ℕ) × (x < suc m) × (max (largest f m) (f m) ≡ f x))
    go true q ih = let l = leb-true (largest f m) (f m) q in inr (m, omega arith, omega arith)
    go false q (inl z) = let l = leb-false (largest f m) (f m) q in inl (omega arith)
    go false q (inr r) = let l = leb-false (largest f m) (f m) q in inr (r.0, omega (arith, r.1), omega (arith, r.2))

-- a pyramid that the check has accepted
module _ (P : Folded) (table : List ℕ) (e : check_lent P table ≡ accepted) (l : ℕ) (k : l ≤ P.h) where
  open P use {n, N, h, rows, lambda, delta}

  abbrev a : ℕ → ℕ → ℕ
  a = entry N rows

  abbrev Λ : ℕ → ℕ
  Λ = each lambda

  abbrev Δ : ℕ → ℕ
  Δ = each delta

  -- a reading's level is the lowest on which the dart already has this neighbour: from it up to the level asked the neighbour is the same, below it another
  pub accepted_since : (i d : ℕ) → i ≤ n → On N Λ l d → (read_since P l i d ≡ since a N Λ Δ l i d) × Since a n N h Λ Δ l i d
  unfolding read_since
  accepted_since i d li o = (rw (accepted_read P table e l k i d li o), stands_since_lem a n N h Λ Δ (accepted_pyramid P table e) l k i d li o)

  -- the darts passed are one fewer than the entries read
  pub accepted_trail : (i d : ℕ) → i ≤ n → On N Λ l d → read_lent P l i d ≡ found (level a n N (marks h Λ Δ) l i d) (suc (length (trail a N Λ Δ l i d)))
  accepted_trail i d li o =
      let y = accepted_pyramid P table e in
      let w = walk_trail a n N h Λ Δ y l k i d li o in
      let f = (accepted_facts P table e l k).ends i d li o in
      let c : reads a n N h Λ Δ l i d ≡ suc (length (trail a N Λ Δ l i d)) = cc (sym f ∙ w) in
      accepted_read P table e l k i d li o ∙ ap (found (level a n N (marks h Λ Δ) l i d)) c

  -- an unfolding's is the largest of its readings'
  pub accepted_latest : unfold_since P l table ≡ latest a N Λ Δ l n
  unfolding unfold_since
  accepted_latest = rw (accepted_unfold P table e l k)

  pub latest_most : (i d : ℕ) → i ≤ n → On N Λ l d → since a N Λ Δ l i d ≤ latest a N Λ Δ l n
  unfolding latest
  latest_most i d li o =
      let row : ℕ → ℕ = λ i. largest (λ b. cond (survives Λ l b) (since a N Λ Δ l i b) 0) N in
      let one = largest_most (λ b. cond (survives Λ l b) (since a N Λ Δ l i b) 0) N d o.0 in
      let here : since a N Λ Δ l i d ≤ row i = rw (le-ltb (Λ d) l o.1) at one in
      omega (arith, here, largest_most row (suc n) i (omega arith))

  -- it is that of one of them, or 0
  pub latest_one : (latest a N Λ Δ l n ≡ 0) ⊎ ((i : ℕ) × (d : ℕ) × (i ≤ n) × On N Λ l d × (latest a N Λ Δ l n ≡ since a N Λ Δ l i d))
  unfolding latest
  latest_one = outer (largest_one (λ i. largest (λ b. cond (survives Λ l b) (since a N Λ Δ l i b) 0) N) (suc n))
    where
      row : ℕ → ℕ
      row i = largest (λ b. cond (survives Λ l b) (since a N Λ Δ l i b) 0) N

      inner : (i : ℕ) → i ≤ n → latest a N Λ Δ l n ≡ row i → (row i ≡ 0) ⊎ ((b : ℕ) × (b < N) × (row i ≡ cond (survives Λ l b) (since a N Λ Δ l i b) 0))
          → (latest a N Λ Δ l n ≡ 0) ⊎ ((i : ℕ) × (d : ℕ) × (i ≤ n) × On N Λ l d × (latest a N Λ Δ l n ≡ since a N Λ Δ l i d))
      inner i li p (inl z) = inl (p ∙ z)
      inner i li p (inr r) = go (survives Λ l r.0) refl
        where
          go : (x : Bool) → survives Λ l r.0 ≡ x → (latest a N Λ Δ l n ≡ 0) ⊎ ((i : ℕ) × (d : ℕ) × (i ≤ n) × On N Λ l d × (latest a N Λ Δ l n ≡ since a N Λ Δ l i d))
          go true q = inr (i, r.0, li, (r.1, ltb-false (Λ r.0) l (not-true (gone Λ l r.0) q)), p ∙ r.2 ∙ rw q)
          go false q = inl (p ∙ r.2 ∙ rw q)

      outer : (latest a N Λ Δ l n ≡ 0) ⊎ ((i : ℕ) × (i < suc n) × (latest a N Λ Δ l n ≡ row i)) → (latest a N Λ Δ l n ≡ 0) ⊎ ((i : ℕ) × (d : ℕ) × (i ≤ n) × On N Λ l d × (latest a N Λ Δ l n ≡ since a N Λ Δ l i d))
      outer (inl z) = inl z
      outer (inr r) = inner r.0 (omega (arith, r.1)) r.2 (largest_one (λ b. cond (survives Λ l b) (since a N Λ Δ l r.0 b) 0) N)

  -- What the readings of the two ends of a link tell: each finds the other, with the same count and since the same level, past the same darts in the reverse order; the count is one more than the darts passed.
  pub record BothEnds (i d : ℕ) : Type 0 where
    pub other : ℕ
    pub count : ℕ
    pub there : read_lent P l i d ≡ found other count
    pub back : read_lent P l i other ≡ found d count
    pub same_since : read_since P l i other ≡ read_since P l i d
    pub reversed : trail a N Λ Δ l i other ≡ reverse (trail a N Λ Δ l i d)
    pub counted : count ≡ suc (length (trail a N Λ Δ l i d))

  pub accepted_both_ends : (i d : ℕ) → i ≤ n → On N Λ l d → BothEnds i d
  accepted_both_ends i d li o =
      let y = accepted_pyramid P table e in
      let s = both_ends a n N h Λ Δ y l k i d li o in
      let other : ℕ = level a n N (marks h Λ Δ) l i d in
      let there-on : On N Λ l other = (level_valid a n N h Λ Δ y l k).inside i d li o in
      let w = walk_trail a n N h Λ Δ y l k i d li o in
      let v = walk_trail a n N h Λ Δ y l k i other li there-on in
      let same_count : s.count ≡ suc (length (trail a N Λ Δ l i d)) = cc (sym s.there ∙ w) in
      let back-dart : level a n N (marks h Λ Δ) l i other ≡ d = cc (sym v ∙ s.back) in
      let back_count : suc (length (trail a N Λ Δ l i other)) ≡ s.count = cc (sym v ∙ s.back) in
      record {
        other = other;
        count = s.count;
        there = rw same_count (accepted_trail i d li o);
        back = accepted_trail i other li there-on ∙ ap (λ (x : ℕ). found x (suc (length (trail a N Λ Δ l i other)))) back-dart ∙ ap (found d) back_count;
        same_since = (accepted_since i other li there-on).0 ∙ s.same_since ∙ sym (accepted_since i d li o).0;
        reversed = s.reversed;
        counted = same_count;
      }
