-- Each dart stands in one queue, once: searches over one set of flags together queue no more darts than there are to be reached. Assumes nothing.
use mathlib.Core.Path.{◌≡◌, refl, sym, ap, ◌∙◌}
use mathlib.Core.Logic.{inl, inr}
use mathlib.Core.Bool.{Bool, true, false, ◌&&◌, not, true≢false}
use mathlib.Core.List.{List, [], ◌∷◌}
use Prim.Native.Nat.{ℕ, zero, suc, ◌+◌, ◌-◌, ◌≤◌, ◌<◌}
use native.Mathlib.Omega.{arith}
use lib.ListN.{get_or}
use lib.Dec.{ltb}
use borrow.Author.Tests.{ltb-true, ltb-false}
use Rattle.maps.specs.Count.{one, count, sum}
use Rattle.maps.specs.Map.{Involutions}
use Rattle.laws.proofs.Counting.{Mem, pigeon, gather, mem_gather, nodup_gather, length_gather, sum_const, count_le}
use Rattle.orbits.specs.Search.{State, has}
use Rattle.orbits.specs.Orbits.{Closed, Queued, Found}
use Rattle.orbits.proofs.Orbits.{closed_orbit}
use Rattle.turns.specs.Queues.{Run, queued_in}
use Rattle.turns.proofs.Counts.{count_within}

-- the darts that are in a set and were not before
fresh : (old new : ℕ → Bool) (m : ℕ) → ((d : ℕ) → old d ≡ true → new d ≡ true) → count (λ d. new d && not (old d)) m + count old m ≡ count new m
unfolding count
fresh old new zero kept = omega arith
fresh old new (suc m) kept = omega (arith, fresh old new m kept, go (old m) refl (new m) refl)
  where
    go : (x : Bool) → old m ≡ x → (y : Bool) → new m ≡ y → one (new m && not (old m)) + one (old m) ≡ one (new m)
    go true p true q = rw (p, q)
    go true p false q = absurd (true≢false (sym (kept m p) ∙ q))
    go false p true q = rw (p, q)
    go false p false q = rw (p, q)

-- the darts from one place of a queue on
abbrev taken : List ℕ → ℕ → ℕ → List ℕ
taken queue begin m = gather (λ k. get_or queue (begin + k) 0 ∷ []) m

module _ (N : ℕ) (old new : ℕ → Bool) (queue : List ℕ) (begin end : ℕ) (q : Queued N old new queue begin end) where
  -- where such a dart stands
  place : (x : ℕ) → Mem x (taken queue begin (end - begin)) → (k : ℕ) × (k < end - begin) × (x ≡ get_or queue (begin + k) 0)
  place x m = let r = mem_gather (λ k. get_or queue (begin + k) 0 ∷ []) (end - begin) x m in (r.0, r.1, elim r.2 [ inl e ↦ e | inr e ↦ absurd e ])

  apart : (j k x : ℕ) → j < end - begin → k < end - begin → Mem x (get_or queue (begin + j) 0 ∷ []) → Mem x (get_or queue (begin + k) 0 ∷ []) → j ≡ k
  apart j k x lj lk (inl e) (inl f) = go (ltb j k) refl (ltb k j) refl
    where
      go : (v : Bool) → ltb j k ≡ v → (w : Bool) → ltb k j ≡ w → j ≡ k
      go true p w r = absurd (q.once (begin + j) (begin + k) (omega arith) (omega (arith, ltb-true j k p)) (omega arith) (sym e ∙ f))
      go false p true r = absurd (q.once (begin + k) (begin + j) (omega arith) (omega (arith, ltb-true k j r)) (omega arith) (sym f ∙ e))
      go false p false r = omega (arith, ltb-false j k p, ltb-false k j r)
  apart j k x lj lk (inr e) f = absurd e
  apart j k x lj lk (inl e) (inr f) = absurd f

  -- as many darts are new as stand in the queue
  queued_fresh : end - begin ≤ count (λ d. new d && not (old d)) N
  queued_fresh =
      let few = pigeon (taken queue begin (end - begin)) (λ d. new d && not (old d)) N
      (nodup_gather (λ k. get_or queue (begin + k) 0 ∷ []) (end - begin) (λ j l. (λ m. m, tt)) apart)
      (λ x m. let r = place x m in let w = q.each (begin + r.0) (omega arith) (omega (arith, r.1)) in rw r.2 (w.0, rw (w.1, w.2) refl)) in
      omega (arith, few, length_gather (λ k. get_or queue (begin + k) 0 ∷ []) (end - begin), sum_const 1 (end - begin))

-- one search: so many flags are turned as darts are queued
pub search_queued : {n N : ℕ} {a : Involutions} {uses : ℕ → ℕ → Bool} {start : ℕ} {s t : State} → Found n N a uses start s t → (t.tail - s.tail) + count (has s.reached) N ≤ count (has t.reached) N
search_queued {n} {N} {a} {uses} {start} {s} {t} f =
    omega (arith, queued_fresh N (has s.reached) (has t.reached) t.queue s.tail t.tail f.queued, fresh (has s.reached) (has t.reached) N f.added.kept)

module _ {n N : ℕ} {a : Involutions} {uses : ℕ → ℕ → ℕ → Bool} {start : ℕ → ℕ} {before after : ℕ → State} where
  -- all together: so many flags are turned as darts are queued, since none is turned back
  turned : (m : ℕ) → Run n N a uses start before after (suc m) → sum (queued_in before after) (suc m) + count (has (before 0).reached) N ≤ count (has (after m).reached) N
  unfolding sum
  turned zero r = omega (arith, search_queued (r.found 0 (omega arith)))
  turned (suc m) r =
      let shorter : Run n N a uses start before after (suc m) = record { found = λ k l. r.found k (omega arith); handed = λ k l. r.handed k (omega arith) } in
      omega (arith, turned m shorter, search_queued (r.found (suc m) (omega arith)), ap (λ (x : List Bool). count (has x) N) (r.handed m (omega arith)))

  -- no more darts are queued than there are
  pub run_queued : (m : ℕ) → Run n N a uses start before after m → sum (queued_in before after) m ≤ N
  unfolding sum
  run_queued zero r = omega arith
  run_queued (suc m) r = omega (arith, turned m r, count_le (has (after m).reached) N)

  -- where no flag is turned outside a set, no more than it has
  module _ (within : ℕ → Bool) where
    reached_within : (m : ℕ) → Run n N a uses start before after (suc m) → ((k : ℕ) → k < suc m → within (start k) ≡ true) → ((k : ℕ) → k < suc m → Closed a n (uses k) within)
        → ((d : ℕ) → has (before 0).reached d ≡ true → within d ≡ true) → (d : ℕ) → has (after m).reached d ≡ true → within d ≡ true
    reached_within zero r starts closed first d e = elim ((r.found 0 (omega arith)).added.only d e) [
      | inl o ↦ first d o
      | inr o ↦ closed_orbit a n (uses 0) within (closed 0 (omega arith)) (start 0) d (starts 0 (omega arith)) o
    ]
    reached_within (suc m) r starts closed first d e =
        let shorter : Run n N a uses start before after (suc m) = record { found = λ k l. r.found k (omega arith); handed = λ k l. r.handed k (omega arith) } in
        elim ((r.found (suc m) (omega arith)).added.only d e) [
          | inl o ↦ reached_within m shorter (λ k l. starts k (omega arith)) (λ k l. closed k (omega arith)) first d (rw (r.handed m (omega arith)) at o)
          | inr o ↦ closed_orbit a n (uses (suc m)) within (closed (suc m) (omega arith)) (start (suc m)) d (starts (suc m) (omega arith)) o
        ]

    pub run_within : (m : ℕ) → Run n N a uses start before after m → ((k : ℕ) → k < m → within (start k) ≡ true) → ((k : ℕ) → k < m → Closed a n (uses k) within)
        → ((d : ℕ) → has (before 0).reached d ≡ true → within d ≡ true) → sum (queued_in before after) m ≤ count within N
    unfolding sum
    run_within zero r starts closed first = omega arith
    run_within (suc m) r starts closed first = omega (arith, turned m r, count_within (has (after m).reached) within N (λ d l. reached_within m r starts closed first d))
