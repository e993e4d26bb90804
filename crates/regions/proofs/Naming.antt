-- Laws of the search for names, in rising order: a dart that is not reached at its turn is the lowest of its orbit, and the name of all of it. Assumes nothing.
use mathlib.Core.Path.{◌≡◌, refl, sym, ap, ◌∙◌}
use mathlib.Core.Logic.{inl, inr}
use mathlib.Core.Bool.{Bool, true, false, true≢false}
use mathlib.Core.List.{List}
use Prim.Native.Nat.{ℕ, ◌+◌, ◌≤◌, ◌<◌, zero-le}
use native.Mathlib.Omega.{arith}
use lib.ListN.{length, get_or, set, length-set}
use lib.Seq.{get_or-set_same, get_or-set_other}
use lib.Dec.{eqb, ltb}
use borrow.Author.Count.{below_more}
use borrow.Author.Tests.{eqb-true, eqb-false, ltb-true, ltb-false}
use Rattle.maps.specs.Orbit.{Orbit, here}
use Rattle.maps.specs.Table.{entry, each}
use Rattle.orbits.specs.Choices.{chosen}
use Rattle.orbits.specs.Orbits.{Closed, Ready, Added, Queued}
use Rattle.orbits.proofs.OrbitLaws.{orbit_join, closed_orbit, orbit_present, orbit_back}
use Rattle.regions.specs.Searches.{Leads, LowestIn, Lowests, Given}

-- names given to the darts of a queue, one after the other
module _ (name : ℕ) (queue old : List ℕ) where
  pub given_none : Given name queue 0 old old
  given_none = record { long = refl; given = λ k l. absurd (omega arith); kept = λ d f. refl }

  pub given_more : (k : ℕ) (new : List ℕ) → Given name queue k old new → get_or queue k 0 < length new → Given name queue (k + 1) old (set new (get_or queue k 0) name)
  given_more k new g l = record {
    long = length-set new (get_or queue k 0) name ∙ g.long;
    given = below_more (λ m. each (set new (get_or queue k 0) name) (get_or queue m 0) ≡ name) k (λ m lm. go m lm (eqb (get_or queue m 0) (get_or queue k 0)) refl) (get_or-set_same new (get_or queue k 0) name 0 l);
    kept = λ d f. get_or-set_other new (get_or queue k 0) d name 0 (λ e. f k (omega arith) (sym e)) ∙ g.kept d (λ m lm. f m (omega arith));
  }
    where
      go : (m : ℕ) → m < k → (b : Bool) → eqb (get_or queue m 0) (get_or queue k 0) ≡ b → each (set new (get_or queue k 0) name) (get_or queue m 0) ≡ name
      go m lm true q = rw (eqb-true (get_or queue m 0) (get_or queue k 0) q) (get_or-set_same new (get_or queue k 0) name 0 l)
      go m lm false q = get_or-set_other new (get_or queue k 0) (get_or queue m 0) name 0 (eqb-false (get_or queue m 0) (get_or queue k 0) q) ∙ g.given m lm

-- the orbits of the darts below k are reached, and nothing else is; the darts reached have their names
pub record Naming (n N : ℕ) (rows choices : List ℕ) (within : ℕ → Bool) (names : List ℕ) (k : ℕ) : Type 0 where
  pub long : length names ≡ N
  pub closed : Closed (entry N rows) n (chosen choices) within
  pub inside : (d : ℕ) → within d ≡ true → d < N
  pub passed : (d : ℕ) → d < k → within d ≡ true
  pub named : (d : ℕ) → within d ≡ true → LowestIn (entry N rows) n (chosen choices) d (each names d)

module _ (n N : ℕ) (rows choices : List ℕ) where
  -- no dart is reached at first
  pub naming_none : (within : ℕ → Bool) (names : List ℕ) → ((d : ℕ) → within d ≡ false) → length names ≡ N → Naming n N rows choices within names 0
  naming_none within names empty long = record {
    long = long;
    closed = λ d j h. absurd (true≢false (sym h ∙ empty d));
    inside = λ d h. absurd (true≢false (sym h ∙ empty d));
    passed = λ d l. absurd (omega arith);
    named = λ d h. absurd (true≢false (sym h ∙ empty d));
  }

  -- at last every dart has its name
  pub naming_all : (within : ℕ → Bool) (names : List ℕ) → Naming n N rows choices within names N → Lowests (entry N rows) n N (chosen choices) names
  naming_all within names s = record { long = s.long; lowest = λ d ld. s.named d (s.passed d ld) }

  module _ (within : ℕ → Bool) (names : List ℕ) (k : ℕ) (s : Naming n N rows choices within names k) where
    -- a dart that is reached is passed over
    pub naming_pass : within k ≡ true → Naming n N rows choices within names (k + 1)
    naming_pass h = record { long = s.long; closed = s.closed; inside = s.inside; passed = below_more (λ d. within d ≡ true) k s.passed h; named = s.named }

    module _ (p : Leads n N rows choices) (lk : k < N) where
      -- any other is searched from
      pub naming_ready : Ready n N rows (chosen choices) k within
      naming_ready = record {
        rows = p.rows;
        first = lk;
        inside = λ d j o lj u. p.two_way.inside j d lj (orbit_present (entry N rows) n (chosen choices) (λ d. d < N) p.two_way k d lk o) u;
        closed = s.closed;
      }

      module _ (out : within k ≡ false) where
        back : (d : ℕ) → Orbit (entry N rows) n (chosen choices) k d → Orbit (entry N rows) n (chosen choices) d k
        back d o = orbit_back (entry N rows) n (chosen choices) (λ d. d < N) p.two_way k d lk o

        -- it is the lowest of its orbit, since a lower one would have reached it
        first_lowest : (d : ℕ) → Orbit (entry N rows) n (chosen choices) k d → k ≤ d
        first_lowest d o = go (ltb d k) refl
          where
            go : (b : Bool) → ltb d k ≡ b → k ≤ d
            go true q = absurd (true≢false (sym (closed_orbit (entry N rows) n (chosen choices) within s.closed d k (s.passed d (ltb-true d k q)) (back d o)) ∙ out))
            go false q = ltb-false d k q

        -- and of each dart that it reaches
        orbit_lowest : (d : ℕ) → Orbit (entry N rows) n (chosen choices) k d → LowestIn (entry N rows) n (chosen choices) d k
        orbit_lowest d o = record { reached = back d o; least = λ e q. first_lowest e (orbit_join (entry N rows) n (chosen choices) k d e o q) }

        -- so it is given as a name to the darts that the search adds
        pub naming_add : (within' : ℕ → Bool) (queue : List ℕ) (end : ℕ) (names' : List ℕ) → Added (entry N rows) n (chosen choices) k within within' → Queued N within within' queue 0 end → Given k queue end names names' → Naming n N rows choices within' names' (k + 1)
        naming_add within' queue end names' w queued g = record {
          long = g.long ∙ s.long;
          closed = w.closed;
          inside = λ d h. elim (w.only d h) [ inl o ↦ s.inside d o | inr o ↦ orbit_present (entry N rows) n (chosen choices) (λ d. d < N) p.two_way k d lk o ];
          passed = below_more (λ d. within' d ≡ true) k (λ d l. w.kept d (s.passed d l)) (w.whole k here);
          named = λ d h. go d h (within d) refl;
        }
          where
            go : (d : ℕ) → within' d ≡ true → (b : Bool) → within d ≡ b → LowestIn (entry N rows) n (chosen choices) d (each names' d)
            go d h true q =
                let same : each names' d ≡ each names d = g.kept d (λ m lm e. true≢false (sym q ∙ ap within (sym e) ∙ (queued.each m zero-le lm).1)) in
                rw same (s.named d q)
            go d h false q =
                let at = queued.every d q h in
                let is : each names' d ≡ k = ap (each names') (sym at.3) ∙ g.given at.0 at.2 in
                rw is (elim (w.only d h) [ inl o ↦ absurd (true≢false (sym o ∙ q)) | inr o ↦ orbit_lowest d o ])
