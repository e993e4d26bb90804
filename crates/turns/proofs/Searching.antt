-- One search turns so many flags as it queues darts, all of them within a set that the rows used do not lead out of. Assumes nothing.
use mathlib.Core.Path.{◌≡◌, refl, ap, ◌∙◌}
use mathlib.Core.Logic.{◌⊎◌, inl, inr}
use mathlib.Core.Bool.{Bool, true, false, cond}
use mathlib.Core.List.{List}
use Prim.Native.Nat.{ℕ, zero, suc, ◌+◌, ◌*◌, ◌≤◌, ◌<◌}
use native.Mathlib.Nat.{mul_comm}
use native.Mathlib.Omega.{arith}
use lib.ListN.{length, get_or, set, length-set}
use lib.Dec.{ltb}
use borrow.Author.Tests.{ltb-true}
use Rattle.maps.specs.Count.{count}
use Rattle.maps.specs.Map.{Involutions}
use Rattle.laws.proofs.Counting.{sum_const}
use Rattle.orbits.specs.Search.{State, has, state, Room, pushed, spread, turns}
use Rattle.orbits.specs.Orbits.{Found}
use Rattle.orbits.proofs.Sets.{set_only, set_count, set_last, room_left}
use Rattle.turns.specs.Searches.{searched, search_reads}
use Rattle.turns.proofs.Counts.{sum_at_most}

-- rows used lead from a dart within to a dart within
abbrev pub Leads : Involutions → ℕ → ℕ → (ℕ → Bool) → (ℕ → ℕ → Bool) → Type 0
Leads a n N within uses = (j d : ℕ) → j ≤ n → d < N → within d ≡ true → uses j d ≡ true → (a j d < N) × (within (a j d) ≡ true)

module _ (N : ℕ) (within : ℕ → Bool) (old : List Bool) where
  -- so many flags are turned as darts stand in the queue, and all these are within
  pub record Adding (t : State) : Type 0 where
    pub room : Room t.reached t.queue
    pub few : t.tail + count (has old) N ≡ count (has t.reached) N
    pub inside : (k : ℕ) → k < t.tail → (get_or t.queue k 0 < N) × (within (get_or t.queue k 0) ≡ true)
    pub only : (x : ℕ) → has t.reached x ≡ true → (has old x ≡ true) ⊎ (within x ≡ true)

  adding_pushed : N ≤ 4096 → (t : State) → Adding t → (d : ℕ) → d < N → within d ≡ true → Adding (pushed t d)
  unfolding pushed
  adding_pushed lN t g d ld w = go (has t.reached d) refl
    where
      go : (b : Bool) → has t.reached d ≡ b → Adding (cond b t (state (set t.reached d true) (set t.queue t.tail d) (t.tail + 1)))
      go true q = g
      go false q =
          let lr : d < length t.reached = omega (arith, g.room.reached_long) in
          let lq : t.tail < length t.queue = omega (arith, g.room.queue_long, g.few, room_left t.reached t.tail d N (omega (arith, g.few)) lr ld q) in
          record {
            room = record { reached_long = length-set t.reached d true ∙ g.room.reached_long; queue_long = length-set t.queue t.tail d ∙ g.room.queue_long };
            few = omega (arith, g.few, set_count t.reached d N lr ld q);
            inside = set_last (λ k (e : ℕ). (e < N) × (within e ≡ true)) t.queue t.tail d lq g.inside (ld, w);
            only = λ x e. elim (set_only t.reached d x e) [ inl r ↦ g.only x r | inr r ↦ inr (ap within r ∙ w) ];
          }

  module _ (a : Involutions) (n : ℕ) (uses : ℕ → ℕ → Bool) (lN : N ≤ 4096) (leads : Leads a n N within uses) where
    adding_spread : (d : ℕ) → d < N → within d ≡ true → (t : State) → Adding t → (m : ℕ) → m ≤ suc n → Adding (spread a (λ j. uses j d) d t m)
    unfolding spread
    adding_spread d ld w t g zero l = g
    adding_spread d ld w t g (suc m) l = go (uses m d) refl (adding_spread d ld w t g m (omega arith))
      where
        go : (b : Bool) → uses m d ≡ b → Adding (spread a (λ j. uses j d) d t m) → Adding (cond b (pushed (spread a (λ j. uses j d) d t m) (a m d)) (spread a (λ j. uses j d) d t m))
        go true q r = let o = leads m d (omega arith) ld w q in adding_pushed lN (spread a (λ j. uses j d) d t m) r (a m d) o.0 o.1
        go false q r = r

    adding_turns : (t : State) → Adding t → (k : ℕ) → Adding (turns a n uses 0 t k)
    unfolding turns
    adding_turns t g zero = g
    adding_turns t g (suc k) = go (turns a n uses 0 t k) (adding_turns t g k)
      where
        go : (s : State) → Adding s → Adding (cond (ltb (0 + k) s.tail) (spread a (λ j. uses j (get_or s.queue (0 + k) 0)) (get_or s.queue (0 + k) 0) s (suc n)) s)
        go s r = pick (ltb (0 + k) s.tail) refl
          where
            pick : (b : Bool) → ltb (0 + k) s.tail ≡ b → Adding (cond b (spread a (λ j. uses j (get_or s.queue (0 + k) 0)) (get_or s.queue (0 + k) 0) s (suc n)) s)
            pick true q = let o = r.inside (0 + k) (ltb-true (0 + k) s.tail q) in adding_spread (get_or s.queue (0 + k) 0) o.0 o.1 s r (suc n) (omega arith)
            pick false q = r

    -- a search from a dart within
    pub search_adds : (queue : List ℕ) (d : ℕ) → Room old queue → d < N → within d ≡ true → Adding (searched a n N uses old queue d)
    unfolding searched
    search_adds queue d z ld w =
        let first : Adding (state old queue 0) = record { room = z; few = omega arith; inside = λ k l. absurd (omega arith); only = λ x e. inl e } in
        adding_turns (pushed (state old queue 0) d) (adding_pushed lN (state old queue 0) first d ld w) N

    -- it reads r entries for each dart that it queues, where no dart has more rows used
    pub search_reads_lem : (r : ℕ) → ((d : ℕ) → d < N → count (λ j. uses j d) (suc n) ≤ r) → (t : State) → Adding t → search_reads n uses t ≤ r * t.tail
    unfolding search_reads
    search_reads_lem r most t g = omega (arith, sum_at_most (λ k. count (λ j. uses j (get_or t.queue k 0)) (suc n)) (λ k. r) t.tail (λ k l. most (get_or t.queue k 0) (g.inside k l).0), sum_const r t.tail, mul_comm r t.tail)

-- a search that begins with its queue is what the contract of `orbit` says that it leaves
pub orbit_searched : {n N : ℕ} {a : Involutions} {uses : ℕ → ℕ → Bool} {d : ℕ} {reached : List Bool} {queue : List ℕ} {t : State} → Found n N a uses d (state reached queue 0) t → t ≡ searched a n N uses reached queue d
unfolding searched
orbit_searched f = f.is
