-- Laws of a search by a queue: it has room, it adds the orbit, each dart once, and after its last turn it has the whole orbit. Assumes nothing.
use mathlib.Core.Path.{◌≡◌, refl, sym, ap, ◌∙◌}
use mathlib.Core.Logic.{◌⊎◌, inl, inr}
use mathlib.Core.Bool.{Bool, true, false, cond, true≢false}
use mathlib.Core.List.{List}
use Prim.Native.Nat.{ℕ, zero, suc, ◌+◌, ◌-◌, ◌≤◌, ◌<◌}
use native.Mathlib.Omega.{arith}
use lib.ListN.{length, get_or, set, length-set}
use lib.Seq.{get_or-set_same, get_or-set_other}
use lib.Dec.{eqb, ltb}
use borrow.Author.Tests.{ltb-true, ltb-false, lt-ltb, le-ltb, eqb-true, eqb-false}
use Rattle.maps.specs.Map.{Involutions}
use Rattle.maps.specs.Orbit.{Orbit, here, further}
use Rattle.maps.specs.Table.{entry}
use Rattle.laws.proofs.Counting.{count_le}
use Rattle.orbits.specs.Search.{State, has, state, Stored, pushed, spread, turns}
use Rattle.orbits.specs.Orbits.{Closed, Inside, Ready, Added, Queued, Found}
use Rattle.orbits.proofs.Orbits.{closed_orbit}
use Rattle.orbits.proofs.Sets.{set_keeps, set_only, set_count, room_left, set_last, set_once, set_place}

-- nothing that was reached or stood in the queue is lost
record Grown (s t : State) : Type 0 where
  longer : s.tail ≤ t.tail
  queued : (k : ℕ) → k < s.tail → get_or t.queue k 0 ≡ get_or s.queue k 0
  kept : (d : ℕ) → has s.reached d ≡ true → has t.reached d ≡ true

grown_none : (s : State) → Grown s s
grown_none s = record { longer = omega arith; queued = λ k l. refl; kept = λ d h. h }

grown_twice : (s t u : State) → Grown s t → Grown t u → Grown s u
grown_twice s t u g h = record { longer = omega (arith, g.longer, h.longer); queued = λ k l. h.queued k (omega (arith, g.longer)) ∙ g.queued k l; kept = λ d e. h.kept d (g.kept d e) }

-- dart d stands last in the queue
abbrev joined : State → ℕ → State
joined s d = state (set s.reached d true) (set s.queue s.tail d) (s.tail + 1)

-- what holds of the state as it is where d is reached, and with d in the queue where it is not, holds of the state with d pushed
pushed_cases : (P : State → Type 0) (s : State) (d : ℕ) → (has s.reached d ≡ true → P s) → (has s.reached d ≡ false → P (joined s d)) → P (pushed s d)
unfolding pushed
pushed_cases P s d old new = go (has s.reached d) refl
  where
    go : (b : Bool) → has s.reached d ≡ b → P (cond b s (joined s d))
    go true q = old q
    go false q = new q

pub pushed_longer : (s : State) (d : ℕ) → s.tail ≤ (pushed s d).tail
pushed_longer s d = pushed_cases (λ t. s.tail ≤ t.tail) s d (λ q. omega arith) (λ q. omega arith)

-- one dart pushed
module _ (N : ℕ) (lN : N ≤ 4096) (s : State) (z : Stored N s) (d : ℕ) (ld : d < N) where
  below_room : d < length s.reached
  below_room = omega (arith, z.room.reached_long)

  joined_stored : has s.reached d ≡ false → Stored N (joined s d)
  joined_stored q = record {
    room = record { reached_long = length-set s.reached d true ∙ z.room.reached_long; queue_long = length-set s.queue s.tail d ∙ z.room.queue_long };
    few = omega (arith, z.few, set_count s.reached d N below_room ld q);
  }

  pub pushed_stored : Stored N (pushed s d)
  pushed_stored = pushed_cases (Stored N) s d (λ q. z) joined_stored

  pushed_grown : Grown s (pushed s d)
  pushed_grown = pushed_cases (Grown s) s d (λ q. grown_none s) (λ q. record {
    longer = omega arith;
    queued = λ k l. get_or-set_other s.queue s.tail k d 0 (λ (e : k ≡ s.tail). omega arith);
    kept = set_keeps s.reached d below_room;
  })

  pushed_has : has (pushed s d).reached d ≡ true
  pushed_has = pushed_cases (λ t. has t.reached d ≡ true) s d (λ q. q) (λ q. get_or-set_same s.reached d true false below_room)

-- the neighbours of a dart pushed
module _ (a : Involutions) (uses : ℕ → Bool) (d : ℕ) (s : State) where
  -- what each push keeps, all of them keep
  spread_keeps : (P : State → Type 0) (m : ℕ) → ((j : ℕ) → j < m → uses j ≡ true → (t : State) → P t → P (pushed t (a j d))) → P s → P (spread a uses d s m)
  unfolding spread
  spread_keeps P zero step p = p
  spread_keeps P (suc m) step p = go (uses m) refl (spread_keeps P m (λ j l. step j (omega arith)) p)
    where
      go : (b : Bool) → uses m ≡ b → P (spread a uses d s m) → P (cond b (pushed (spread a uses d s m) (a m d)) (spread a uses d s m))
      go true u r = step m (omega arith) u (spread a uses d s m) r
      go false u r = r

  module _ (n N : ℕ) (lN : N ≤ 4096) (inside : (j : ℕ) → j ≤ n → uses j ≡ true → a j d < N) (z : Stored N s) where
    spread_stored : (m : ℕ) → m ≤ suc n → Stored N (spread a uses d s m)
    spread_stored m l = spread_keeps (Stored N) m (λ j lj u t r. pushed_stored N lN t r (a j d) (inside j (omega arith) u)) z

    -- each neighbour by a row used is reached
    spread_has : (m : ℕ) → m ≤ suc n → (j : ℕ) → j < m → uses j ≡ true → has (spread a uses d s m).reached (a j d) ≡ true
    unfolding spread
    spread_has zero l j k u = absurd (omega arith)
    spread_has (suc m) l j k u = go (uses m) refl (eqb j m) refl (λ f. spread_has m (omega arith) j f u)
      where
        go : (b : Bool) → uses m ≡ b → (e : Bool) → eqb j m ≡ e → (j < m → has (spread a uses d s m).reached (a j d) ≡ true)
            → has (cond b (pushed (spread a uses d s m) (a m d)) (spread a uses d s m)).reached (a j d) ≡ true
        go true p true q ih = rw (eqb-true j m q) (pushed_has N lN (spread a uses d s m) (spread_stored m (omega arith)) (a m d) (inside m (omega arith) p))
        go true p false q ih = let ne : j ≡ m → ⊥ = eqb-false j m q in (pushed_grown N lN (spread a uses d s m) (spread_stored m (omega arith)) (a m d) (inside m (omega arith) p)).kept (a j d) (ih (omega arith))
        go false p true q ih = absurd (true≢false (sym u ∙ ap uses (eqb-true j m q) ∙ p))
        go false p false q ih = let ne : j ≡ m → ⊥ = eqb-false j m q in ih (omega arith)

-- a search from start, that began with the set old and a queue filled up to a place
module _ (a : Involutions) (n N : ℕ) (uses : ℕ → ℕ → Bool) (start : ℕ) (old : ℕ → Bool) (first : List ℕ) (from : ℕ) where
  -- From that place on the queue has darts of the orbit that are reached now and were not before, each once; what is reached was in the set or is there.
  record Reaching (s : State) : Type 0 where
    stored : Stored N s
    longer : from ≤ s.tail
    before : (k : ℕ) → k < from → get_or s.queue k 0 ≡ get_or first k 0
    found : (k : ℕ) → k < s.tail → from ≤ k → let d = get_or s.queue k 0 in (d < N) × Orbit a n uses start d × (old d ≡ false) × (has s.reached d ≡ true)
    once : (k m : ℕ) → from ≤ k → k < m → m < s.tail → get_or s.queue k 0 ≡ get_or s.queue m 0 → ⊥
    kept : (d : ℕ) → old d ≡ true → has s.reached d ≡ true
    only : (d : ℕ) → has s.reached d ≡ true → (old d ≡ true) ⊎ ((k : ℕ) × (from ≤ k) × (k < s.tail) × (get_or s.queue k 0 ≡ d))

  -- and all neighbours of the darts before the queue's head are reached
  record Searched (s : State) (head : ℕ) : Type 0 where
    reaching : Reaching s
    first_has : has s.reached start ≡ true
    ahead : from ≤ head
    behind : head ≤ s.tail
    done : (k j : ℕ) → from ≤ k → k < head → j ≤ n → uses j (get_or s.queue k 0) ≡ true → has s.reached (a j (get_or s.queue k 0)) ≡ true

  -- a dart of the orbit that is not reached yet joins the queue
  reaching_joined : N ≤ 4096 → (s : State) → Reaching s → (d : ℕ) → d < N → Orbit a n uses start d → has s.reached d ≡ false → Reaching (joined s d)
  reaching_joined lN s h d ld o q =
      let z = h.stored in
      let lr = below_room N lN s z d ld in
      let lq : s.tail < length s.queue = omega (arith, z.room.queue_long, room_left s.reached s.tail d N z.few lr ld q) in
      record {
        stored = joined_stored N lN s z d ld q;
        longer = omega (arith, h.longer);
        before = λ k l. get_or-set_other s.queue s.tail k d 0 (λ (e : k ≡ s.tail). omega (arith, h.longer)) ∙ h.before k l;
        found = set_last (λ k (e : ℕ). from ≤ k → (e < N) × Orbit a n uses start e × (old e ≡ false) × (has (set s.reached d true) e ≡ true)) s.queue s.tail d lq
            (λ k l lf. let f = h.found k l lf in (f.0, f.1, f.2, set_keeps s.reached d lr (get_or s.queue k 0) f.3))
            (λ lf. (ld, o, new (old d) refl, get_or-set_same s.reached d true false lr));
        once = set_once from s.queue s.tail d lq h.once (λ k lf l e. true≢false (sym (h.found k l lf).3 ∙ ap (has s.reached) e ∙ q));
        kept = λ e r. set_keeps s.reached d lr e (h.kept e r);
        only = λ e r. last e lq (set_only s.reached d e r);
      }
    where
      new : (b : Bool) → old d ≡ b → old d ≡ false
      new true e = absurd (true≢false (sym (h.kept d e) ∙ q))
      new false e = e

      last : (e : ℕ) → s.tail < length s.queue → (has s.reached e ≡ true) ⊎ (e ≡ d) → (old e ≡ true) ⊎ ((k : ℕ) × (from ≤ k) × (k < s.tail + 1) × (get_or (set s.queue s.tail d) k 0 ≡ e))
      last e lq (inl r) = elim (h.only e r) [ inl u ↦ inl u | inr w ↦ inr (set_place from s.queue s.tail d e w) ]
      last e lq (inr r) = inr (s.tail, h.longer, omega arith, get_or-set_same s.queue s.tail d 0 lq ∙ sym r)

  module _ (lN : N ≤ 4096) (inside : Inside a n N uses start) where
    reaching_pushed : (s : State) → Reaching s → (d : ℕ) → d < N → Orbit a n uses start d → Reaching (pushed s d)
    reaching_pushed s h d ld o = pushed_cases Reaching s d (λ q. h) (reaching_joined lN s h d ld o)

    -- the search begins with start in the queue
    searched_first : (reached : List Bool) → Stored N (state reached first from) → ((d : ℕ) → old d ≡ has reached d) → start < N → Searched (pushed (state reached first from) start) from
    searched_first reached z is ls =
        let h : Reaching (state reached first from) = record { stored = z; longer = omega arith; before = λ k l. refl; found = λ k l lf. absurd (omega arith); once = λ k m lf lk lm. absurd (omega arith); kept = λ d e. sym (is d) ∙ e; only = λ d e. inl (is d ∙ e) } in
        let r = reaching_pushed (state reached first from) h start ls here in
        record {
          reaching = r;
          first_has = pushed_has N lN (state reached first from) z start ls;
          ahead = omega arith;
          behind = r.longer;
          done = λ k j lf l. absurd (omega arith);
        }

    -- goes on with the neighbours of the dart at the head
    searched_next : (s : State) (head : ℕ) → Searched s head → head < s.tail → Searched (spread a (λ j. uses j (get_or s.queue head 0)) (get_or s.queue head 0) s (suc n)) (suc head)
    searched_next s head h l =
        let g = grown.1 in
        record {
          reaching = grown.0;
          first_has = g.kept start h.first_has;
          ahead = omega (arith, h.ahead);
          behind = omega (arith, g.longer);
          done = λ k j lf lk lj u. let e = g.queued k (omega arith) in rw e (go k j lf lk lj (rw e at u) (eqb k head) refl);
        }
      where
        d : ℕ
        d = get_or s.queue head 0

        next : State
        next = spread a (λ j. uses j d) d s (suc n)

        at : (j : ℕ) → j ≤ n → uses j d ≡ true → a j d < N
        at j lj u = inside d j (h.reaching.found head l h.ahead).1 lj u

        grown : Reaching next × Grown s next
        grown =
            spread_keeps a (λ j. uses j d) d s (λ t. Reaching t × Grown s t) (suc n)
            (λ j lj u t w.
            let ld = at j (omega arith) u in
            (reaching_pushed t w.0 (a j d) ld (further d j (h.reaching.found head l h.ahead).1 (omega arith) u), grown_twice s t (pushed t (a j d)) w.1 (pushed_grown N lN t w.0.stored (a j d) ld)))
            (h.reaching, grown_none s)

        go : (k j : ℕ) → from ≤ k → k < suc head → j ≤ n → uses j (get_or s.queue k 0) ≡ true → (b : Bool) → eqb k head ≡ b → has next.reached (a j (get_or s.queue k 0)) ≡ true
        go k j lf lk lj u true q =
            let e : k ≡ head = eqb-true k head q in
            rw e (spread_has a (λ j. uses j d) d s n N lN at h.reaching.stored (suc n) (omega arith) j (omega arith) (rw e at u))
        go k j lf lk lj u false q = let ne : k ≡ head → ⊥ = eqb-false k head q in grown.1.kept (a j (get_or s.queue k 0)) (h.done k j lf (omega arith) lj u)

    -- after each turn that there is, one dart more of the queue is done
    turns_searched : (s : State) → Searched s from → (k : ℕ) → from + k ≤ (turns a n uses from s k).tail → Searched (turns a n uses from s k) (from + k)
    unfolding turns
    turns_searched s h zero l = let e : from + 0 ≡ from = omega arith in rw e h
    turns_searched s h (suc k) l = let e : from + suc k ≡ suc (from + k) = omega arith in rw e (go (ltb (from + k) (turns a n uses from s k).tail) refl l (λ m. turns_searched s h k m))
      where
        next : State → State
        next t = spread a (λ j. uses j (get_or t.queue (from + k) 0)) (get_or t.queue (from + k) 0) t (suc n)

        go : (b : Bool) → ltb (from + k) (turns a n uses from s k).tail ≡ b → from + suc k ≤ (cond b (next (turns a n uses from s k)) (turns a n uses from s k)).tail → (from + k ≤ (turns a n uses from s k).tail → Searched (turns a n uses from s k) (from + k))
            → Searched (cond b (next (turns a n uses from s k)) (turns a n uses from s k)) (suc (from + k))
        go true q f ih = let m = ltb-true (from + k) (turns a n uses from s k).tail q in searched_next (turns a n uses from s k) (from + k) (ih (omega arith)) m
        go false q f ih = absurd (omega (arith, ltb-false (from + k) (turns a n uses from s k).tail q))

    -- and where all are, the orbit is added
    searched_added : (s : State) → Closed a n uses old → Searched s s.tail → Added a n uses start old (has s.reached)
    searched_added s c h =
        let r = h.reaching in
        let closed : Closed a n uses (has s.reached) = λ d j e lj u. elim (r.only d e) [ inl o ↦ r.kept (a j d) (c d j o lj u) | inr w ↦ rw w.3 at (h.done w.0 j w.1 w.2 lj (rw w.3 u)) ] in
        record {
          kept = r.kept;
          whole = λ d o. closed_orbit a n uses (has s.reached) closed start d h.first_has o;
          only = λ d e. elim (r.only d e) [ inl o ↦ inl o | inr w ↦ inr (rw w.3 at (r.found w.0 w.2 w.1).1) ];
          closed = closed;
        }

    searched_queued : (s : State) (head : ℕ) → Searched s head → Queued N old (has s.reached) s.queue from s.tail
    searched_queued s head h =
        let r = h.reaching in
        record {
          few = omega (arith, r.stored.few, count_le (has s.reached) N);
          each = λ k lf l. let f = r.found k l lf in (f.0, f.2, f.3);
          once = r.once;
          every = λ d o e. elim (r.only d e) [ inl w ↦ absurd (true≢false (sym w ∙ o)) | inr w ↦ w ];
        }

-- the turns, one after the other
module _ (a : Involutions) (n : ℕ) (uses : ℕ → ℕ → Bool) (from : ℕ) (s : State) where
  pub turns_next : (head : ℕ) (t : State) → from ≤ head → t ≡ turns a n uses from s (head - from) → head < t.tail → spread a (λ j. uses j (get_or t.queue head 0)) (get_or t.queue head 0) t (suc n) ≡ turns a n uses from s (head + 1 - from)
  unfolding turns
  turns_next head t lf e l =
      let next : head + 1 - from ≡ suc (head - from) = omega arith in
      let place : from + (head - from) ≡ head = omega arith in
      rw (next, place, ← e, lt-ltb head t.tail l)

  -- where every dart of the queue had its turn, nothing more comes
  turns_end : (k : ℕ) → (turns a n uses from s k).tail ≤ from + k → (m : ℕ) → k ≤ m → turns a n uses from s m ≡ turns a n uses from s k
  unfolding turns
  turns_end k f zero l = let e : k ≡ 0 = omega arith in rw e
  turns_end k f (suc m) l = go (eqb k (suc m)) refl (λ h. turns_end k f m h)
    where
      go : (b : Bool) → eqb k (suc m) ≡ b → (k ≤ m → turns a n uses from s m ≡ turns a n uses from s k) → turns a n uses from s (suc m) ≡ turns a n uses from s k
      go true q ih = rw (eqb-true k (suc m) q)
      go false q ih = let ne : k ≡ suc m → ⊥ = eqb-false k (suc m) q in rw (ih (omega arith), le-ltb (from + m) (turns a n uses from s k).tail (omega arith))

-- the dart at the head has its place in the queue, its rows lead inside, and after its turn the queue has a place more at least
pub record Turn (n N : ℕ) (table : List ℕ) (uses : ℕ → ℕ → Bool) (head d : ℕ) (t : State) : Type 0 where
  pub place : head < N
  pub dart : d < N
  pub inside : (j : ℕ) → j ≤ n → uses j d ≡ true → entry N table j d < N
  pub stored : Stored N t
  pub next : head + 1 ≤ (spread (entry N table) (λ j. uses j d) d t (suc n)).tail

-- a search that has what it asks, and its state t when the head has come to a place
module _ (n N : ℕ) (table : List ℕ) (uses : ℕ → ℕ → Bool) (start : ℕ) (reached : List Bool) (queue : List ℕ) (from : ℕ) where
  abbrev pub after : ℕ → State
  after head = turns (entry N table) n uses from (pushed (state reached queue from) start) (head - from)

  module _ (p : Ready n N table uses start (has reached)) (z : Stored N (state reached queue from)) (head : ℕ) (t : State) (is : t ≡ after head) (ahead : from ≤ head) (behind : head ≤ t.tail) where
    place : from + (head - from) ≡ head
    place = omega arith

    after_searched : Searched (entry N table) n N uses start (has reached) queue from t head
    after_searched =
        let first = searched_first (entry N table) n N uses start (has reached) queue from p.rows.darts p.inside reached z (λ d. refl) p.first in
        let all = turns_searched (entry N table) n N uses start (has reached) queue from p.rows.darts p.inside (pushed (state reached queue from) start) first (head - from) (rw (place, ← is) behind) in
        rw is (rw place at all)

    after_queued : Queued N (has reached) (has t.reached) t.queue from t.tail
    after_queued = searched_queued (entry N table) n N uses start (has reached) queue from p.rows.darts p.inside t head after_searched

    pub after_turn : head < t.tail → Turn n N table uses head (get_or t.queue head 0) t
    after_turn l =
        let r = after_searched.reaching in
        let f = r.found head l ahead in
        let next = (searched_next (entry N table) n N uses start (has reached) queue from p.rows.darts p.inside t head after_searched l).behind in
        record { place = omega (arith, after_queued.few); dart = f.0; inside = λ j lj u. p.inside (get_or t.queue head 0) j f.1 lj u; stored = r.stored; next = omega arith }

    pub after_found : t.tail ≤ head → Found n N (entry N table) uses start (state reached queue from) t
    after_found l =
        let e : head ≡ t.tail = omega arith in
        record {
          is = is ∙ sym (turns_end (entry N table) n uses from (pushed (state reached queue from) start) (head - from) (rw (place, ← is) l) N (omega (arith, after_queued.few)));
          stored = after_searched.reaching.stored;
          added = searched_added (entry N table) n N uses start (has reached) queue from p.rows.darts p.inside t p.closed (rw e at after_searched);
          queued = after_queued;
          before = after_searched.reaching.before;
        }
