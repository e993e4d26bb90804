-- Laws of counting cells in rising order: a dart that no cell before it has is the lowest of its own. Assumes nothing.
use mathlib.Core.Path.{◌≡◌, refl, sym, ap, subst, ◌∙◌}
use mathlib.Core.Logic.{inl, inr}
use mathlib.Core.Bool.{Bool, true, false, cond, true≢false}
use mathlib.Core.List.{List}
use Prim.Native.Nat.{ℕ, ◌+◌, ◌≤◌, ◌<◌}
use native.Mathlib.Numerals.{add-one}
use native.Mathlib.Omega.{arith}
use lib.Dec.{ltb}
use lib.ListN.{length, get_or, set}
use lib.Seq.{get_or-set_same, get_or-set_other}
use borrow.Author.Count.{below_more}
use borrow.Author.Tests.{ltb-true, ltb-false, lt-ltb, le-ltb}
use Rattle.maps.specs.Count.{one, count}
use Rattle.maps.specs.Map.{Valid}
use Rattle.maps.specs.Cell.{Cell}
use Rattle.maps.specs.Orbit.{here}
use Rattle.maps.specs.Table.{entry}
use Rattle.maps.specs.Explicit.{present}
use Rattle.maps.specs.Census.{Lowest, CellCount}
use Rattle.laws.proofs.Counting.{count_same}
use Rattle.orbits.specs.Orbits.{Closed, Added}
use Rattle.orbits.proofs.Orbits.{closed_orbit}
use Rattle.orbits.specs.Explicit.{ExplicitLevel, but}
use Rattle.orbits.proofs.Explicit.{Present, level_valid}
use Rattle.orbits.proofs.Cells.{cell_orbit, orbit_cell, cell_present, cell_back}

-- a test known below k, and at k
abbrev and_at : (ℕ → Bool) → ℕ → Bool → ℕ → Bool
and_at p k b d = cond (ltb d k) (p d) b

-- counts one more where it holds at k
count_at_lem : (p : ℕ → Bool) (k : ℕ) (b : Bool) → count (and_at p k b) (k + 1) ≡ count p k + one b
unfolding count
count_at_lem p k b = rw (add-one k, le-ltb k k (omega arith), count_same (and_at p k b) p k (λ y l. rw (lt-ltb y k l)))

module _ (n N : ℕ) (table : List ℕ) (i : ℕ) where
  abbrev P : ℕ → Type 0
  P = Present n N table

  -- dart d is present, and the lowest of its cell
  abbrev Low : ℕ → Type 0
  Low d = (present N table d ≡ true) × Lowest (entry N table) n i d

  -- the set has the cells of the darts below k, and those of them that are the lowest of their cell are counted
  pub record Counting (within : ℕ → Bool) (k number : ℕ) : Type 0 where
    pub closed : Closed (entry N table) n (λ j d. but i j) within
    pub passed : (d : ℕ) → d < k → P d → within d ≡ true
    pub source : (e : ℕ) → within e ≡ true → (b : ℕ) × P b × (b < k) × Cell (entry N table) n i b e
    pub counted : ℕ → Bool
    pub only : (d : ℕ) → d < k → counted d ≡ true → Low d
    pub every : (d : ℕ) → d < k → Low d → counted d ≡ true
    pub is : number ≡ count counted k

  -- it begins with no dart
  pub counting_none : (within : ℕ → Bool) → ((d : ℕ) → within d ≡ false) → Counting within 0 0
  unfolding count
  counting_none within empty = record {
    closed = λ d j h. absurd (true≢false (sym h ∙ empty d));
    passed = λ d l. absurd (omega arith);
    source = λ e h. absurd (true≢false (sym h ∙ empty e));
    counted = λ d. false;
    only = λ d l. absurd (omega arith);
    every = λ d l. absurd (omega arith);
    is = refl;
  }

  module _ (level : ExplicitLevel n N table) (within : ℕ → Bool) (k number : ℕ) (s : Counting within k number) where
    v : Valid (entry N table) n P
    v = level_valid n N table level

    later : (e : ℕ) → (b : ℕ) × P b × (b < k) × Cell (entry N table) n i b e → (b : ℕ) × P b × (b < k + 1) × Cell (entry N table) n i b e
    later e w = (w.0, w.1, omega (arith, w.2), w.3)

    -- what is counted below k stands
    only_more : (b : Bool) → (b ≡ true → Low k) → (d : ℕ) → d < k + 1 → and_at s.counted k b d ≡ true → Low d
    only_more b at-k = below_more (λ d. and_at s.counted k b d ≡ true → Low d) k (λ d l q. s.only d l (rw (lt-ltb d k l) at q)) (λ q. at-k (rw (le-ltb k k (omega arith)) at q))

    every_more : (b : Bool) → (Low k → b ≡ true) → (d : ℕ) → d < k + 1 → Low d → and_at s.counted k b d ≡ true
    every_more b at-k = below_more (λ d. Low d → and_at s.counted k b d ≡ true) k (λ d l w. rw (lt-ltb d k l) (s.every d l w)) (λ w. rw (le-ltb k k (omega arith)) (at-k w))

    -- a dart that is reached is not the lowest of its cell
    reached_not : P k → within k ≡ true → Lowest (entry N table) n i k → ⊥
    reached_not p q low =
        let w = s.source k q in
        omega (arith, w.2, low w.0 (cell_back (entry N table) n i P v w.0 k w.1 w.3))

    -- it is passed over, as an absent one is
    pub counting_pass : k < N → (P k → within k ≡ true) → Counting within (k + 1) number
    counting_pass lk f =
        let none : count s.counted k + one false ≡ count s.counted k = omega arith in
        record {
          closed = s.closed;
          passed = below_more (λ d. P d → within d ≡ true) k s.passed f;
          source = λ e h. later e (s.source e h);
          counted = and_at s.counted k false;
          only = only_more false (λ q. absurd (true≢false (sym q)));
          every = every_more false (λ w. absurd (reached_not (lk, w.0) (f (lk, w.0)) w.1));
          is = s.is ∙ sym (count_at_lem s.counted k false ∙ none);
        }

    module _ (p : P k) (out : within k ≡ false) where
      -- any other is the lowest
      begins : Lowest (entry N table) n i k
      begins d c = go (ltb d k) refl
        where
          go : (b : Bool) → ltb d k ≡ b → k ≤ d
          go true q =
              let there = cell_present (entry N table) n i P v k d p c in
              let back = cell_orbit (entry N table) n i d k (cell_back (entry N table) n i P v k d p c) in
              absurd (true≢false (sym (closed_orbit (entry N table) n (λ j d. but i j) within s.closed d k (s.passed d (ltb-true d k q) there) back) ∙ out))
          go false q = ltb-false d k q

      -- it is counted, and its cell added
      pub counting_add : (within' : ℕ → Bool) → Added (entry N table) n (λ j d. but i j) k within within' → Counting within' (k + 1) (number + 1)
      counting_add within' w = record {
        closed = w.closed;
        passed = below_more (λ d. P d → within' d ≡ true) k (λ d l h. w.kept d (s.passed d l h)) (λ h. w.whole k here);
        source = λ e h. elim (w.only e h) [ inl o ↦ later e (s.source e o) | inr o ↦ (k, p, omega arith, orbit_cell (entry N table) n i k e o) ];
        counted = and_at s.counted k true;
        only = only_more true (λ q. (p.1, begins));
        every = every_more true (λ h. refl);
        is = ap (λ (x : ℕ). x + 1) s.is ∙ sym (count_at_lem s.counted k true);
      }

  -- at the end every cell is counted
  pub counting_all : (within : ℕ → Bool) (number : ℕ) → Counting within N number → CellCount (entry N table) n N (present N table) i number
  counting_all within number s = record { counted = s.counted; only = s.only; every = λ d l p low. s.every d l (p, low); is = s.is }

-- a row of counts with one more: what holds of the numbers below k and of the new one holds below k + 1
pub row_more : (Q : ℕ → ℕ → Type 0) (row : List ℕ) (k number : ℕ) → k < length row → ((x : ℕ) → x < k → Q x (get_or row x 0)) → Q k number → (x : ℕ) → x < k + 1 → Q x (get_or (set row k number) x 0)
row_more Q row k number lk below q = below_more (λ x. Q x (get_or (set row k number) x 0)) k
    (λ x l. subst (Q x) (sym (get_or-set_other row k x number 0 (λ e. omega arith))) (below x l))
    (subst (Q k) (sym (get_or-set_same row k number 0 lk)) q)

-- and the places above are as they were
pub row_rest : (row : List ℕ) (k number : ℕ) → ((x : ℕ) → k ≤ x → x < 5 → get_or row x 0 ≡ 0) → (x : ℕ) → k + 1 ≤ x → x < 5 → get_or (set row k number) x 0 ≡ 0
row_rest row k number rest x l f = get_or-set_other row k x number 0 (λ e. omega arith) ∙ rest x (omega arith) f
