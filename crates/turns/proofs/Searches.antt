-- Each dart stands in one queue, once: what marking, census and region names queue and read in all their searches together. Assumes nothing.
use mathlib.Core.Path.{◌≡◌, refl, sym, ◌∙◌}
use mathlib.Core.Logic.{inl, inr}
use mathlib.Core.Bool.{Bool, true, false, cond, ◌&&◌, ◌||◌, not, true≢false}
use mathlib.Core.List.{List}
use Prim.Native.Nat.{ℕ, zero, suc, ◌+◌, ◌*◌, ◌≤◌, ◌<◌}
use native.Mathlib.Nat.{mul-add, mul-le-mul_left}
use native.Mathlib.Omega.{arith}
use lib.ListN.{length, length-replicate}
use lib.Dec.{eqb, ltb}
use Rattle.maps.specs.Count.{count, sum}
use Rattle.maps.specs.Map.{Involutions}
use Rattle.maps.specs.Table.{entry}
use Rattle.maps.specs.Folded.{survives, survivors, marks, level, Folded, base, lambda_of, delta_of}
use Rattle.maps.specs.Accepted.{Accepted}
use Rattle.maps.specs.CheckPyramid.{table_at}
use Rattle.maps.specs.Explicit.{present}
use Rattle.laws.proofs.Counting.{count_le, count_same, count_minus, sum_const}
use Rattle.laws.proofs.Verdicts.{and_both}
use Rattle.facts.proofs.Stored.{stored_present}
use Rattle.orbits.specs.Search.{has, Room}
use Rattle.orbits.specs.Explicit.{ExplicitLevel, but}
use Rattle.orbits.proofs.Sets.{none_has}
use Rattle.orbits.proofs.Explicit.{level_valid}
use Rattle.orbits.specs.Choices.{chosen}
use Rattle.regions.specs.Searches.{Leads as Asked}
use Rattle.cells.specs.Marked.{failing, undivided}
use Rattle.counting.proofs.Levels.{survivors_valid, table_explicit}
use Rattle.turns.specs.Searches.{none, Work, begun, anew, searched, each_dart, in_first, in_second, name_step, count_step, counted_cells, queued_on, read_on, named_orbits, spoil_step, divide_step, piece_step, spare_step, spoiled, divided, spared}
use Rattle.turns.proofs.Counts.{count_within, sum_at_most}
use Rattle.turns.proofs.Searching.{Leads, search_adds, search_reads_lem}

-- what every step keeps, a loop over all darts keeps
each_keeps : (P : Work → Type 0) (step : Work → ℕ → Work) (w : Work) (m : ℕ) → ((v : Work) (d : ℕ) → d < m → P v → P (step v d)) → P w → P (each_dart step w m)
unfolding each_dart
each_keeps P step w zero f p = p
each_keeps P step w (suc m) f p = f (each_dart step w m) m (omega arith) (each_keeps P step w m (λ v d l. f v d (omega arith)) p)

-- `within` is the set of darts that may be reached; r rows are used of a dart at most; so many darts were queued for second sets that are gone
module _ (N : ℕ) (within : ℕ → Bool) (r before : ℕ) where
  pub record Fine (w : Work) : Type 0 where
    pub first_room : Room w.first w.queue
    pub second_room : Room w.second w.queue
    pub first_few : w.firsts ≤ count (has w.first) N
    pub second_few : w.seconds ≤ count (has w.second) N
    pub first_in : (x : ℕ) → has w.first x ≡ true → within x ≡ true
    pub second_in : (x : ℕ) → has w.second x ≡ true → within x ≡ true
    pub reads : w.entries ≤ r * (before + w.firsts + w.seconds)

  -- no more are queued for each set than are within
  fine_firsts : (w : Work) → Fine w → w.firsts ≤ count within N
  fine_firsts w g = omega (arith, g.first_few, count_within (has w.first) within N (λ x l. g.first_in x))

  fine_seconds : (w : Work) → Fine w → w.seconds ≤ count within N
  fine_seconds w g = omega (arith, g.second_few, count_within (has w.second) within N (λ x l. g.second_in x))

  -- one search more
  module _ (a : Involutions) (n : ℕ) (uses : ℕ → ℕ → Bool) (lN : N ≤ 4096) (leads : Leads a n N within uses) (most : (d : ℕ) → d < N → count (λ j. uses j d) (suc n) ≤ r) where
    fine_first : (w : Work) (d : ℕ) → d < N → within d ≡ true → Fine w → Fine (in_first a n N uses w d)
    unfolding in_first
    fine_first w d ld i g =
        let t = searched a n N uses w.first w.queue d in
        let s = search_adds N within w.first a n uses lN leads w.queue d g.first_room ld i in
        let e : before + (w.firsts + t.tail) + w.seconds ≡ before + w.firsts + w.seconds + t.tail = omega arith in
        record {
          first_room = s.room;
          second_room = record { reached_long = g.second_room.reached_long; queue_long = s.room.queue_long };
          first_few = omega (arith, g.first_few, s.few);
          second_few = g.second_few;
          first_in = λ x h. elim (s.only x h) [ inl o ↦ g.first_in x o | inr o ↦ o ];
          second_in = g.second_in;
          reads = rw (e, mul-add r (before + w.firsts + w.seconds) t.tail) (omega (arith, g.reads, search_reads_lem N within w.first a n uses lN leads r most t s));
        }

    fine_second : (w : Work) (d : ℕ) → d < N → within d ≡ true → Fine w → Fine (in_second a n N uses w d)
    unfolding in_second
    fine_second w d ld i g =
        let t = searched a n N uses w.second w.queue d in
        let s = search_adds N within w.second a n uses lN leads w.queue d g.second_room ld i in
        let e : before + w.firsts + (w.seconds + t.tail) ≡ before + w.firsts + w.seconds + t.tail = omega arith in
        record {
          first_room = record { reached_long = g.first_room.reached_long; queue_long = s.room.queue_long };
          second_room = s.room;
          first_few = g.first_few;
          second_few = omega (arith, g.second_few, s.few);
          first_in = g.first_in;
          second_in = λ x h. elim (s.only x h) [ inl o ↦ g.second_in x o | inr o ↦ o ];
          reads = rw (e, mul-add r (before + w.firsts + w.seconds) t.tail) (omega (arith, g.reads, search_reads_lem N within w.second a n uses lN leads r most t s));
        }

-- it begins with nothing
fine_begun : (N : ℕ) (within : ℕ → Bool) (r : ℕ) (queue : List ℕ) → length queue ≡ 4096 → Fine N within r 0 (begun queue)
fine_begun N within r queue z =
    let room : Room none queue = record { reached_long = length-replicate 4096 false; queue_long = z } in
    let empty : (x : ℕ) → has none x ≡ true → within x ≡ true = λ x h. absurd (true≢false (sym h ∙ none_has 4096 x)) in
    record { first_room = room; second_room = room; first_few = omega arith; second_few = omega arith; first_in = empty; second_in = empty; reads = omega arith }

-- a second set made anew
fine_anew : (N : ℕ) (within : ℕ → Bool) (r before : ℕ) (w : Work) → Fine N within r before w → Fine N within r (before + w.seconds) (anew w)
fine_anew N within r before w g =
    let e : before + w.seconds + w.firsts + 0 ≡ before + w.firsts + w.seconds = omega arith in
    record {
      first_room = g.first_room;
      second_room = record { reached_long = length-replicate 4096 false; queue_long = g.first_room.queue_long };
      first_few = g.first_few;
      second_few = omega arith;
      first_in = g.first_in;
      second_in = λ x h. absurd (true≢false (sym h ∙ none_has 4096 x));
      reads = rw e g.reads;
    }

-- what a marking queues and reads, from what there is after `divide` and at the end
pub record MarkingWork (N n : ℕ) (half whole : Work) : Type 0 where
  -- in the queues of spoil, divide and spare together
  pub cells : whole.firsts ≤ N
  -- in the queues of parts
  pub parts : half.seconds ≤ N
  -- in the queues of pieces
  pub pieces : whole.seconds ≤ N
  -- entries that the searches read
  pub entries : whole.entries ≤ suc n * (3 * N)

-- an explicit level
module _ (n N : ℕ) (table : List ℕ) (level : ExplicitLevel n N table) (cell part every : ℕ → ℕ → Bool) where
  -- whichever rows are used, they lead from a dart present to one present
  level_leads : (uses : ℕ → ℕ → Bool) → Leads (entry N table) n N (present N table) uses
  level_leads uses j d lj ld w u = (level_valid n N table level).inside j d lj (ld, w)

  -- of which there are n + 1 at most
  any_rows : (uses : ℕ → ℕ → Bool) → (d : ℕ) → d < N → count (λ j. uses j d) (suc n) ≤ suc n
  any_rows uses d ld = count_le (λ j. uses j d) (suc n)

  abbrev Held : ℕ → Work → Type 0
  Held before = Fine N (present N table) (suc n) before

  first : (uses : ℕ → ℕ → Bool) (before : ℕ) (w : Work) (d : ℕ) → d < N → present N table d ≡ true → Held before w → Held before (in_first (entry N table) n N uses w d)
  first uses before = fine_first N (present N table) (suc n) before (entry N table) n uses level.rows.darts (level_leads uses) (any_rows uses)

  second : (uses : ℕ → ℕ → Bool) (before : ℕ) (w : Work) (d : ℕ) → d < N → present N table d ≡ true → Held before w → Held before (in_second (entry N table) n N uses w d)
  second uses before = fine_second N (present N table) (suc n) before (entry N table) n uses level.rows.darts (level_leads uses) (any_rows uses)

  -- a dart whose own test fails is present
  failing_present : (δ d : ℕ) → failing n N table δ d ≡ true → present N table d ≡ true
  failing_present δ d q =
      let a = entry N table in
      let test = not (eqb (a (δ + 2) (a (δ + 1) d)) (a (δ + 1) (a (δ + 2) d))) in
      (and_both (present N table d) test (and_both (ltb (δ + 1) n) (present N table d && test) q).1).0

  spoil_held : (δ before : ℕ) (w : Work) (d : ℕ) → d < N → Held before w → Held before (spoil_step n N table cell part every δ w d)
  unfolding spoil_step
  spoil_held δ before w d ld g = go (has w.first d) (failing n N table δ d) refl
    where
      go : (x y : Bool) → failing n N table δ d ≡ y → Held before (cond (not x) (cond y (in_first (entry N table) n N cell w d) w) w)
      go true y q = g
      go false true q = first cell before w d ld (failing_present δ d q) g
      go false false q = g

  divide_held : (δ before : ℕ) (w : Work) (d : ℕ) → d < N → Held before w → Held before (divide_step n N table cell part every δ w d)
  unfolding divide_step
  divide_held δ before w d ld g = go (undivided N table δ (has w.first) (has w.second) d) refl
    where
      v : Work
      v = in_second (entry N table) n N part w d

      both : present N table d ≡ true → (y : Bool) → Held before (cond y (in_first (entry N table) n N cell v d) v)
      both p true = first cell before v d ld p (second part before w d ld p g)
      both p false = second part before w d ld p g

      go : (x : Bool) → undivided N table δ (has w.first) (has w.second) d ≡ x → Held before (cond x (cond (has v.second (entry N table (δ + 1) d)) (in_first (entry N table) n N cell v d) v) w)
      go true q = both (and_both (present N table d) (not (has w.first d || has w.second d) && not (has w.second (entry N table (δ + 1) d))) q).0 (has v.second (entry N table (δ + 1) d))
      go false q = g

  piece_held : (before : ℕ) (w : Work) (d : ℕ) → d < N → Held before w → Held before (piece_step n N table cell part every w d)
  unfolding piece_step
  piece_held before w d ld g = go (present N table d) refl (has w.first d && not (has w.second d))
    where
      go : (x : Bool) → present N table d ≡ x → (y : Bool) → Held before (cond (x && y) (in_second (entry N table) n N every w d) w)
      go true q true = second every before w d ld q g
      go true q false = g
      go false q y = g

  spare_held : (before : ℕ) (w : Work) (d : ℕ) → d < N → Held before w → Held before (spare_step n N table cell part every w d)
  unfolding spare_step
  spare_held before w d ld g = go (present N table d) refl (not (has w.second d))
    where
      go : (x : Bool) → present N table d ≡ x → (y : Bool) → Held before (cond (x && y) (in_second (entry N table) n N every (in_first (entry N table) n N cell w d) d) w)
      go true q true = second every before (in_first (entry N table) n N cell w d) d ld q (first cell before w d ld q g)
      go true q false = g
      go false q y = g

  -- it searches over no second set
  spoil_quiet : (δ : ℕ) (w : Work) (d : ℕ) → (spoil_step n N table cell part every δ w d).seconds ≡ w.seconds
  unfolding spoil_step in_first
  spoil_quiet δ w d = go (has w.first d) (failing n N table δ d)
    where
      go : (x y : Bool) → (cond (not x) (cond y (in_first (entry N table) n N cell w d) w) w).seconds ≡ w.seconds
      go true y = refl
      go false true = refl
      go false false = refl

  -- whichever rows are taken for those of a cell, of a part and of a piece
  pub marking_queues : (queue : List ℕ) (δ : ℕ) → length queue ≡ 4096 → MarkingWork N n (divided n N table cell part every queue δ) (spared n N table cell part every queue δ)
  marking_queues queue δ z =
      let P = present N table in
      let S = spoiled n N table cell part every queue δ in
      let D = divided n N table cell part every queue δ in
      let s = each_keeps (λ v. Held 0 v × (v.seconds ≡ 0)) (spoil_step n N table cell part every δ) (begun queue) N
      (λ v d ld g. (spoil_held δ 0 v d ld g.0, spoil_quiet δ v d ∙ g.1)) (fine_begun N P (suc n) queue z, refl) in
      let d = each_keeps (Held (0 + S.seconds)) (divide_step n N table cell part every δ) (anew S) N (divide_held δ (0 + S.seconds)) (fine_anew N P (suc n) 0 S s.0) in
      let before = 0 + S.seconds + D.seconds in
      let p = each_keeps (Held before) (piece_step n N table cell part every) (anew D) N (piece_held before) (fine_anew N P (suc n) (0 + S.seconds) D d) in
      let q = each_keeps (Held before) (spare_step n N table cell part every) (each_dart (piece_step n N table cell part every) (anew D) N) N (spare_held before) p in
      let W = spared n N table cell part every queue δ in
      let f : W.firsts ≤ N = omega (arith, fine_firsts N P (suc n) before W q, count_le P N) in
      let g : W.seconds ≤ N = omega (arith, fine_seconds N P (suc n) before W q, count_le P N) in
      let e : D.seconds ≤ N = omega (arith, fine_seconds N P (suc n) (0 + S.seconds) D d, count_le P N) in
      record { cells = f; parts = e; pieces = g; entries = omega (arith, q.reads, mul-le-mul_left {m = before + W.firsts + W.seconds} {n = 3 * N} (suc n) (omega (arith, s.1))) }

-- one search more over the first set leaves the second alone
first_quiet : (a : Involutions) (n N : ℕ) (uses : ℕ → ℕ → Bool) (w : Work) (d : ℕ) → (in_first a n N uses w d).seconds ≡ w.seconds
unfolding in_first
first_quiet a n N uses w d = refl

-- the cells of one dimension of an explicit level counted, where no dart has more than r rows used
module _ (n N : ℕ) (table : List ℕ) (level : ExplicitLevel n N table) (cell : ℕ → ℕ → Bool) (r : ℕ) (most : (d : ℕ) → d < N → count (λ j. cell j d) (suc n) ≤ r) where
  abbrev Kept : Work → Type 0
  Kept w = Fine N (present N table) r 0 w × (w.seconds ≡ 0)

  count_kept : (w : Work) (d : ℕ) → d < N → Kept w → Kept (count_step n N table cell w d)
  unfolding count_step
  count_kept w d ld g = go (present N table d) refl (not (has w.first d))
    where
      go : (x : Bool) → present N table d ≡ x → (y : Bool) → Kept (cond (x && y) (in_first (entry N table) n N cell w d) w)
      go true q true = (
        fine_first N (present N table) r 0 (entry N table) n cell level.rows.darts (λ j e lj le i u. (level_valid n N table level).inside j e lj (le, i)) most w d ld q g.0,
        first_quiet (entry N table) n N cell w d ∙ g.1,
      )
      go true q false = g
      go false q y = g

  -- no more darts are queued than are present, and r entries read for each
  pub count_queues : (queue : List ℕ) → length queue ≡ 4096 → ((counted_cells n N table cell queue).firsts ≤ count (present N table) N) × ((counted_cells n N table cell queue).entries ≤ r * count (present N table) N)
  count_queues queue z =
      let W = counted_cells n N table cell queue in
      let k = each_keeps Kept (count_step n N table cell) (begun queue) N count_kept (fine_begun N (present N table) r queue z, refl) in
      let f = fine_firsts N (present N table) r 0 W k.0 in
      (f, omega (arith, k.0.reads, mul-le-mul_left {m = 0 + W.firsts + W.seconds} {n = count (present N table) N} r (omega (arith, k.1))))

all_count : (m : ℕ) → count (λ j. true) m ≡ m
unfolding count
all_count zero = refl
all_count (suc m) = omega (arith, all_count m)

-- every row but one
but_count : (n i : ℕ) → i ≤ n → count (but i) (suc n) ≡ n
but_count n i l = omega (arith, count_minus (λ j. true) i (suc n) (omega arith) refl, all_count (suc n))

-- a census of an accepted pyramid: on each level, for each dimension i, by every row but a_i
module _ (f : Folded) (table : List ℕ) (p : Accepted f table) (queue : ℕ → ℕ → List ℕ) (z : (l i : ℕ) → length (queue l i) ≡ 4096)
    (cell : ℕ → ℕ → ℕ → Bool) (is : (i j d : ℕ) → i ≤ f.n → j ≤ f.n → d < f.N → cell i j d ≡ but i j) where
  open f use {n, N, h}

  present_count : (l : ℕ) → l ≤ h → count (present N (table_at f l)) N ≡ survivors N (lambda_of f) l
  present_count l k =
      let L = level (base f) n N (marks h (lambda_of f) (delta_of f)) l in
      count_same (present N (table_at f l)) (survives (lambda_of f) l) N (stored_present L n N (survives (lambda_of f) l) (omega (arith, p.darts.1)) (survivors_valid (base f) n N h (lambda_of f) (delta_of f) p.pyramid l k))

  -- one dimension
  dimension_work : (l i : ℕ) → l ≤ h → i ≤ n → ((counted_cells n N (table_at f l) (cell i) (queue l i)).firsts ≤ survivors N (lambda_of f) l) × ((counted_cells n N (table_at f l) (cell i) (queue l i)).entries ≤ n * survivors N (lambda_of f) l)
  dimension_work l i k li =
      rw (present_count l k) at (count_queues n N (table_at f l) (table_explicit f table p l k) (cell i) n
      (λ d ld. omega (arith, but_count n i li, count_same (λ j. cell i j d) (but i) (suc n) (λ j lj. is i j d li (omega arith) ld))) (queue l i) (z l i))

  pub census_level : (l : ℕ) → l ≤ h → (queued_on f cell queue l ≤ suc n * survivors N (lambda_of f) l) × (read_on f cell queue l ≤ suc n * (n * survivors N (lambda_of f) l))
  census_level l k =
      let S = survivors N (lambda_of f) l in
      let W : ℕ → Work = λ i. counted_cells n N (table_at f l) (cell i) (queue l i) in (
        omega (arith, sum_at_most (λ i. (W i).firsts) (λ i. S) (suc n) (λ i li. (dimension_work l i k (omega arith)).0), sum_const S (suc n)),
        omega (arith, sum_at_most (λ i. (W i).entries) (λ i. n * S) (suc n) (λ i li. (dimension_work l i k (omega arith)).1), sum_const (n * S) (suc n)),
      )

  -- all levels together: (n+1) darts queued, and n(n+1) entries read, for each survivor of each level
  pub census_queues : (sum (queued_on f cell queue) (suc h) ≤ sum (λ l. suc n * survivors N (lambda_of f) l) (suc h)) × (sum (read_on f cell queue) (suc h) ≤ sum (λ l. suc n * (n * survivors N (lambda_of f) l)) (suc h))
  census_queues = (
    sum_at_most (queued_on f cell queue) (λ l. suc n * survivors N (lambda_of f) l) (suc h) (λ l k. (census_level l (omega arith)).0),
    sum_at_most (read_on f cell queue) (λ l. suc n * (n * survivors N (lambda_of f) l)) (suc h) (λ l k. (census_level l (omega arith)).1),
  )

-- region names: the orbits of all darts of the base, by the rows of their choices, which lead to darts
module _ (n N : ℕ) (table choices : List ℕ) (asked : Asked n N table choices) where
  name_fine : (w : Work) (d : ℕ) → d < N → Fine N (λ x. true) (suc n) 0 w × (w.seconds ≡ 0) → Fine N (λ x. true) (suc n) 0 (name_step (entry N table) n N (chosen choices) w d) × ((name_step (entry N table) n N (chosen choices) w d).seconds ≡ 0)
  unfolding name_step
  name_fine w d ld g = go (has w.first d)
    where
      next : Work
      next = in_first (entry N table) n N (chosen choices) w d

      go : (x : Bool) → Fine N (λ x. true) (suc n) 0 (cond (not x) next w) × ((cond (not x) next w).seconds ≡ 0)
      go true = g
      go false = (
        fine_first N (λ x. true) (suc n) 0 (entry N table) n (chosen choices) asked.rows.darts (λ j e lj le i u. (asked.two_way.inside j e lj le u, refl)) (λ e le. count_le (λ j. chosen choices j e) (suc n)) w d ld refl g.0,
        first_quiet (entry N table) n N (chosen choices) w d ∙ g.1,
      )

  -- each dart is queued once, and so named once
  pub regions_queues : (queue : List ℕ) → length queue ≡ 4096 → ((named_orbits (entry N table) n N (chosen choices) queue).firsts ≤ N) × ((named_orbits (entry N table) n N (chosen choices) queue).entries ≤ suc n * N)
  regions_queues queue z =
      let W = named_orbits (entry N table) n N (chosen choices) queue in
      let k = each_keeps (λ w. Fine N (λ x. true) (suc n) 0 w × (w.seconds ≡ 0)) (name_step (entry N table) n N (chosen choices)) (begun queue) N name_fine (fine_begun N (λ x. true) (suc n) queue z, refl) in
      let f : W.firsts ≤ N = omega (arith, fine_firsts N (λ x. true) (suc n) 0 W k.0, count_le (λ x. true) N) in
      (f, omega (arith, k.0.reads, mul-le-mul_left {m = 0 + W.firsts + W.seconds} {n = N} (suc n) (omega (arith, k.1))))
