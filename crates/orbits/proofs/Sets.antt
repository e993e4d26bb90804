-- Laws of sets and queues as they are stored: one dart more, none at all, and room. Assumes nothing.
use mathlib.Core.Path.{◌≡◌, refl, sym, ap, ◌∙◌}
use mathlib.Core.Logic.{◌⊎◌, inl, inr}
use mathlib.Core.Bool.{Bool, true, false}
use mathlib.Core.List.{List}
use Prim.Native.Nat.{ℕ, suc, ◌+◌, ◌≤◌, ◌<◌, zero-le}
use native.Mathlib.Omega.{arith}
use lib.ListN.{length, get_or, set, replicate, length-replicate, get_or-replicate, get_or-eq_default}
use lib.Seq.{get_or-set_same, get_or-set_other}
use lib.Dec.{eqb, ltb}
use borrow.Author.Tests.{ltb-true, ltb-false, eqb-true, eqb-false, eq-eqb}
use Rattle.maps.specs.Count.{count}
use Rattle.laws.proofs.Counting.{minus, minus_other, count_same, count_minus, count_le}
use Rattle.orbits.specs.Search.{has, state, Room, Stored}

-- a set with one dart more
module _ (list : List Bool) (i : ℕ) where
  pub set_keeps : i < length list → (x : ℕ) → has list x ≡ true → has (set list i true) x ≡ true
  set_keeps l x h = go (eqb x i) refl
    where
      go : (b : Bool) → eqb x i ≡ b → has (set list i true) x ≡ true
      go true q = rw (eqb-true x i q) (get_or-set_same list i true false l)
      go false q = get_or-set_other list i x true false (eqb-false x i q) ∙ h

  pub set_only : (x : ℕ) → has (set list i true) x ≡ true → (has list x ≡ true) ⊎ (x ≡ i)
  set_only x h = go (eqb x i) refl
    where
      go : (b : Bool) → eqb x i ≡ b → (has list x ≡ true) ⊎ (x ≡ i)
      go true q = inr (eqb-true x i q)
      go false q = inl (sym (get_or-set_other list i x true false (eqb-false x i q)) ∙ h)

  pub set_count : (N : ℕ) → i < length list → i < N → has list i ≡ false → count (has (set list i true)) N ≡ suc (count (has list) N)
  set_count N l f h =
      sym (count_minus (has (set list i true)) i N f (get_or-set_same list i true false l)) ∙ ap suc (count_same (minus (has (set list i true)) i) (has list) N (λ y k. go y (eqb y i) refl))
    where
      go : (y : ℕ) (b : Bool) → eqb y i ≡ b → minus (has (set list i true)) i y ≡ has list y
      go y true q = let e : y ≡ i = eqb-true y i q in rw (e, eq-eqb i i refl, get_or-set_same list i true false l) (sym h)
      go y false q = let ne : y ≡ i → ⊥ = eqb-false y i q in minus_other (has (set list i true)) i y ne ∙ get_or-set_other list i y true false ne

-- a queue that is no longer than the darts reached are many has room for one that is not reached
pub room_left : (reached : List Bool) (tail d N : ℕ) → tail ≤ count (has reached) N → d < length reached → d < N → has reached d ≡ false → tail < N
room_left reached tail d N few l f h = omega (arith, set_count reached d N l f h, count_le (has (set reached d true)) N)

-- a queue with one dart more: what is known of its places
pub set_last : (P : ℕ → ℕ → Type 0) (queue : List ℕ) (tail d : ℕ) → tail < length queue → ((k : ℕ) → k < tail → P k (get_or queue k 0)) → P tail d → (k : ℕ) → k < tail + 1 → P k (get_or (set queue tail d) k 0)
set_last P queue tail d l h p k f = go (eqb k tail) refl
  where
    go : (b : Bool) → eqb k tail ≡ b → P k (get_or (set queue tail d) k 0)
    go true q = rw (eqb-true k tail q, get_or-set_same queue tail d 0 l) p
    go false q = let ne : k ≡ tail → ⊥ = eqb-false k tail q in rw (get_or-set_other queue tail k d 0 ne) (h k (omega arith))

-- where it is none of the darts from a place on, each of these stands once
pub set_once : (from : ℕ) (queue : List ℕ) (tail d : ℕ) → tail < length queue → ((k m : ℕ) → from ≤ k → k < m → m < tail → get_or queue k 0 ≡ get_or queue m 0 → ⊥) → ((k : ℕ) → from ≤ k → k < tail → get_or queue k 0 ≡ d → ⊥)
    → (k m : ℕ) → from ≤ k → k < m → m < tail + 1 → get_or (set queue tail d) k 0 ≡ get_or (set queue tail d) m 0 → ⊥
set_once from queue tail d l once other k m lf lk lm e = go (eqb m tail) refl (get_or-set_other queue tail k d 0 (λ (x : k ≡ tail). omega arith))
  where
    go : (b : Bool) → eqb m tail ≡ b → get_or (set queue tail d) k 0 ≡ get_or queue k 0 → ⊥
    go true q f = other k lf (omega (arith, eqb-true m tail q)) (sym f ∙ e ∙ rw (eqb-true m tail q) (get_or-set_same queue tail d 0 l))
    go false q f = let ne : m ≡ tail → ⊥ = eqb-false m tail q in once k m lf lk (omega arith) (sym f ∙ e ∙ get_or-set_other queue tail m d 0 ne)

-- and each dart that stood in it has its place
pub set_place : (from : ℕ) (queue : List ℕ) (tail d e : ℕ) → (k : ℕ) × (from ≤ k) × (k < tail) × (get_or queue k 0 ≡ e) → (k : ℕ) × (from ≤ k) × (k < tail + 1) × (get_or (set queue tail d) k 0 ≡ e)
set_place from queue tail d e w = (w.0, w.1, omega (arith, w.2), get_or-set_other queue tail w.0 d 0 (λ (x : w.0 ≡ tail). omega (arith, w.2)) ∙ w.3)

-- a set of nothing, and room for it
pub none_has : (m x : ℕ) → has (replicate m false) x ≡ false
none_has m x = go (ltb x m) refl
  where
    go : (b : Bool) → ltb x m ≡ b → has (replicate m false) x ≡ false
    go true q = get_or-replicate m x false false (ltb-true x m q)
    go false q = get_or-eq_default (replicate m false) false (omega (arith, ltb-false x m q, length-replicate m false))

pub none_room : Room (replicate 4096 false) (replicate 4096 0)
none_room = record { reached_long = length-replicate 4096 false; queue_long = length-replicate {A = ℕ} 4096 0 }

-- and a search with an empty queue, whatever is reached
pub queue_empty : {N : ℕ} {reached : List Bool} {queue : List ℕ} → Room reached queue → Stored N (state reached queue 0)
queue_empty z = record { room = z; few = zero-le }
