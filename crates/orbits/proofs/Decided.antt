-- An orbit is a set that can be computed: the search ends, so that each dart is in it or not. Assumes nothing.
use mathlib.Core.Path.{◌≡◌, refl, sym, ap, ◌∙◌}
use mathlib.Core.Logic.{◌⊎◌, inl, inr}
use mathlib.Core.Bool.{Bool, true, false, true≢false}
use mathlib.Core.List.{List}
use Prim.Native.Nat.{ℕ, zero, suc, ◌+◌, ◌≤◌, ◌<◌, zero-le}
use native.Mathlib.Omega.{arith}
use lib.ListN.{replicate}
use lib.Dec.{ltb}
use borrow.Author.Tests.{ltb-true, ltb-false}
use Rattle.maps.specs.Orbit.{Orbit}
use Rattle.maps.specs.Table.{entry}
use Rattle.orbits.specs.Search.{State, state, has, Stored, pushed, turns}
use Rattle.orbits.specs.Orbits.{Ready, Found}
use Rattle.orbits.proofs.Sets.{none_has, none_room, queue_empty}
use Rattle.orbits.proofs.Searches.{after, after_turn, after_found, turns_next}

-- no dart is reached before the search
abbrev pub none : List Bool
none = replicate 4096 false

module _ (n N : ℕ) (table : List ℕ) (uses : ℕ → ℕ → Bool) (start : ℕ) (p : Ready n N table uses start (has none)) where
  -- the state when the head has come to place k
  abbrev reaches : ℕ → State
  reaches k = after n N table uses start none (replicate 4096 0) 0 k

  abbrev Ends : State → Type 0
  Ends t = Found n N (entry N table) uses start (state none (replicate 4096 0) 0) t

  -- a search that isn't at its end has a turn more, and takes a place of the queue with it
  ends_or : (k : ℕ) → k ≤ (reaches k).tail → Ends (reaches k) ⊎ ((k < N) × (k + 1 ≤ (reaches (k + 1)).tail))
  ends_or k behind = go (ltb k (reaches k).tail) refl
    where
      empty : Stored N (state none (replicate 4096 0) 0)
      empty = queue_empty none_room

      go : (b : Bool) → ltb k (reaches k).tail ≡ b → Ends (reaches k) ⊎ ((k < N) × (k + 1 ≤ (reaches (k + 1)).tail))
      go true q =
          let more = ltb-true k (reaches k).tail q in
          let t = after_turn n N table uses start none (replicate 4096 0) 0 p empty k (reaches k) refl zero-le behind more in
          let e = turns_next (entry N table) n uses 0 (pushed (state none (replicate 4096 0) 0) start) k (reaches k) zero-le refl more in
          inr (t.place, omega (arith, t.next, ap (λ (s : State). s.tail) e))
      go false q = inl (after_found n N table uses start none (replicate 4096 0) 0 p empty k (reaches k) refl zero-le behind (ltb-false k (reaches k).tail q))

  -- so it ends, since there are N places
  ends : (left k : ℕ) → N ≤ k + left → k ≤ (reaches k).tail → (t : State) × Ends t
  ends zero k l behind = elim (ends_or k behind) [ inl f ↦ (reaches k, f) | inr w ↦ absurd (omega (arith, w.0)) ]
  ends (suc left) k l behind = elim (ends_or k behind) [ inl f ↦ (reaches k, f) | inr w ↦ ends left (k + 1) (omega arith) w.1 ]

  -- a set that has the orbit and nothing else
  pub orbit_set : (within : ℕ → Bool) × ((d : ℕ) → Orbit (entry N table) n uses start d → within d ≡ true) × ((d : ℕ) → within d ≡ true → Orbit (entry N table) n uses start d)
  unfolding turns
  orbit_set =
      let r = ends N 0 (omega arith) zero-le in
      let w = r.1.added in
      (has r.0.reached, w.whole, λ d h. elim (w.only d h) [ inl o ↦ absurd (true≢false (sym o ∙ none_has 4096 d)) | inr o ↦ o ])
