-- Start again from a higher level: level l of an accepted pyramid, renumbered, is the base of an accepted pyramid, whose levels are the old ones. Assumes nothing.
use mathlib.Core.Path.{◌≡◌, refl, sym, ap, ◌∙◌}
use mathlib.Core.Bool.{Bool, true, false, not}
use Prim.Native.Nat.{ℕ, suc, ◌+◌, ◌-◌, ◌≤◌, ◌<◌}
use native.Mathlib.Omega.{arith}
use lib.Dec.{ltb}
use borrow.Author.Tests.{ltb-true, ltb-false, lt-ltb, le-ltb, le-leb, not-true, not-false}
use Rattle.maps.specs.Verdict.{accepted}
use Rattle.maps.specs.Count.{sum}
use Rattle.maps.specs.Map.{Involutions}
use Rattle.maps.specs.Folded.{On, gone, survives, survivors, removed_below, marks, level}
use Rattle.maps.specs.Cost.{reads, cost}
use Rattle.maps.specs.Pyramid.{Pyramid}
use Rattle.maps.specs.Sizes.{number1, number2, number3, sizes}
use Rattle.laws.proofs.Counting.{count_same, count_le}
use Rattle.facts.proofs.Levels.{level_valid}
use Rattle.laws.proofs.Sizes.{sizes_sized}
use Rattle.facts.proofs.Facts.{Facts, facts}
use Rattle.maps.specs.NewBase.{rank, old_number, new_darts, new_height, newΛ, newΔ, new_base}
use Rattle.packing.proofs.Numbering.{sum_at_most, count_both, count_passes, kth_is, kth_rank, kth_rises, sum_renumbered, count_renumbered}
use Rattle.starting_again.proofs.Renumbering.{Renumbered, on_old, on_new, alike, renumbered_pyramid}
use Rattle.starting_again.proofs.FewerReads.{fewer_reads}

-- rank and old number, between the survivors of level l and the numbers below their count
module _ (N : ℕ) (Λ : ℕ → ℕ) (l : ℕ) where
  -- a dart of level l passes the test of its survivors
  surviving : (d : ℕ) → l ≤ Λ d → survives Λ l d ≡ true
  surviving d f = rw (le-ltb (Λ d) l f)

  -- an old number is that of a survivor
  pub old_on : (k : ℕ) → k < new_darts N Λ l → On N Λ l (old_number N Λ l k)
  old_on k f =
      let r = kth_is (survives Λ l) N k f in
      let d = old_number N Λ l k in
      (r.below, ltb-false (Λ d) l (not-true (gone Λ l d) r.passes))

  -- a survivor's rank is a new number
  pub rank_below : (d : ℕ) → On N Λ l d → rank Λ l d < new_darts N Λ l
  rank_below d o = count_passes (survives Λ l) d N (surviving d o.1) o.0

  -- they are inverse to each other
  pub rank_old : (k : ℕ) → k < new_darts N Λ l → rank Λ l (old_number N Λ l k) ≡ k
  rank_old k f = (kth_is (survives Λ l) N k f).ranked

  -- the other way
  pub old_rank : (d : ℕ) → On N Λ l d → old_number N Λ l (rank Λ l d) ≡ d
  old_rank d o = kth_rank (survives Λ l) N d o.0 (surviving d o.1)

  -- both rise
  pub rank_rises : (d e : ℕ) → On N Λ l d → d < e → rank Λ l d < rank Λ l e
  rank_rises d e o f = count_passes (survives Λ l) d e (surviving d o.1) f

  -- the other way
  pub old_rises : (j k : ℕ) → j < k → k < new_darts N Λ l → old_number N Λ l j < old_number N Λ l k
  old_rises j k f g = kth_rises (survives Λ l) N j k f g

  -- a level above l has the survivors that it had
  pub survivors_kept : (k : ℕ) → survivors (new_darts N Λ l) (newΛ N Λ l) k ≡ survivors N Λ (l + k)
  survivors_kept k =
      count_same (survives (newΛ N Λ l) k) (λ x. survives Λ (l + k) (old_number N Λ l x)) (new_darts N Λ l) (λ x f. ap not (lower x (old_on x f).1))
      ∙ count_renumbered (survives Λ l) (survives Λ (l + k)) N (λ d ld q. ap not (lt-ltb (Λ d) (l + k) (omega (arith, ltb-true (Λ d) l (not-false (gone Λ l d) q)))))
    where
      lower : (x : ℕ) → l ≤ Λ (old_number N Λ l x) → gone (newΛ N Λ l) k x ≡ gone Λ (l + k) (old_number N Λ l x)
      lower x f = go (gone Λ (l + k) (old_number N Λ l x)) refl
        where
          go : (b : Bool) → gone Λ (l + k) (old_number N Λ l x) ≡ b → ltb (Λ (old_number N Λ l x) - l) k ≡ b
          go true q = let z = ltb-true (Λ (old_number N Λ l x)) (l + k) q in lt-ltb (Λ (old_number N Λ l x) - l) k (omega arith)
          go false q = let z = ltb-false (Λ (old_number N Λ l x)) (l + k) q in le-ltb (Λ (old_number N Λ l x) - l) k (omega arith)

  -- and of the darts removed below it those of the levels below l are left out
  pub removed_fewer : (k : ℕ) → removed_below (new_darts N Λ l) (newΛ N Λ l) k + removed_below N Λ l ≡ removed_below N Λ (l + k)
  removed_fewer k =
      omega (
        arith,
        survivors_kept k,
        count_both (gone (newΛ N Λ l) k) (new_darts N Λ l),
        count_both (gone Λ l) N,
        count_both (gone Λ (l + k)) N,
      )

-- What starting again from level l gives.
pub record StartedAgain (a : Involutions) (n N h : ℕ) (Λ Δ : ℕ → ℕ) (l : ℕ) : Type 0 where
  -- an accepted pyramid
  pub pyramid : Pyramid (new_base a n N h Λ Δ l) n (new_darts N Λ l) (new_height h l) (newΛ N Λ l) (newΔ N Λ Δ l)
  -- its level k has the survivors of the old level l + k, under their new numbers
  pub on : (k d : ℕ) → On N Λ (l + k) d → On (new_darts N Λ l) (newΛ N Λ l) k (rank Λ l d)
  pub old_on : (k d : ℕ) → On (new_darts N Λ l) (newΛ N Λ l) k d → On N Λ (l + k) (old_number N Λ l d)
  pub as_many : (k : ℕ) → survivors (new_darts N Λ l) (newΛ N Λ l) k ≡ survivors N Λ (l + k)
  -- and it is that level: the neighbour of the rank is the rank of the neighbour
  pub neighbour : (k i d : ℕ) → l + k ≤ h → i ≤ n → On N Λ (l + k) d
      → level (new_base a n N h Λ Δ l) n (new_darts N Λ l) (marks (new_height h l) (newΛ N Λ l) (newΔ N Λ Δ l)) k i (rank Λ l d) ≡ rank Λ l (level a n N (marks h Λ Δ) (l + k) i d)
  -- demand 3, with reads counted in the new base
  pub facts : (k : ℕ) → l + k ≤ h → Facts (new_base a n N h Λ Δ l) n (new_darts N Λ l) (new_height h l) (newΛ N Λ l) (newΔ N Λ Δ l) k
  -- a walk reads no more entries than the old walk of the same dart, and so does a whole level
  pub no_more : (k i d : ℕ) → l + k ≤ h → i ≤ n → On N Λ (l + k) d
      → reads (new_base a n N h Λ Δ l) n (new_darts N Λ l) (new_height h l) (newΛ N Λ l) (newΔ N Λ Δ l) k i (rank Λ l d) ≤ reads a n N h Λ Δ (l + k) i d
  pub no_dearer : (k : ℕ) → l + k ≤ h → cost (new_base a n N h Λ Δ l) n (new_darts N Λ l) (new_height h l) (newΛ N Λ l) (newΔ N Λ Δ l) k ≤ cost a n N h Λ Δ (l + k)

module _ (a : Involutions) (n N h : ℕ) (Λ Δ : ℕ → ℕ) (y : Pyramid a n N h Λ Δ) (l : ℕ) (low : l ≤ h) where
  abbrev a' : Involutions
  a' = new_base a n N h Λ Δ l

  abbrev N' : ℕ
  N' = new_darts N Λ l

  abbrev h' : ℕ
  h' = new_height h l

  abbrev Λ' : ℕ → ℕ
  Λ' = newΛ N Λ l

  abbrev Δ' : ℕ → ℕ
  Δ' = newΔ N Λ Δ l

  abbrev old : ℕ → ℕ
  old = old_number N Λ l

  -- a neighbour on level l is a survivor of level l
  met : (i d : ℕ) → i ≤ n → d < N' → On N Λ l (level a n N (marks h Λ Δ) l i (old d))
  met i d li ld = (level_valid a n N h Λ Δ y l low).inside i (old d) li (old_on N Λ l d ld)

  -- the new pyramid has level l for its base
  pub again_renumbered : Renumbered a n N h Λ Δ l a' N' h' Λ' Δ' old
  again_renumbered = record {
    height = omega arith;
    there = λ d ld. (old_on N Λ l d ld).0;
    one_to_one = λ d e ld le z. sym (rank_old N Λ l d ld) ∙ ap (rank Λ l) z ∙ rank_old N Λ l e le;
    inside = λ i d li ld. rank_below N Λ l (level a n N (marks h Λ Δ) l i (old d)) (met i d li ld);
    neighbour = λ i d li ld. old_rank N Λ l (level a n N (marks h Λ Δ) l i (old d)) (met i d li ld);
    lambda = λ d ld. omega (arith, (old_on N Λ l d ld).1);
    delta = λ d ld. refl;
  }

  -- a survivor of level l + k is one of level l
  down : (k d : ℕ) → On N Λ (l + k) d → On N Λ l d
  down k d o = (o.0, omega (arith, o.1))

  -- survivors correspond
  again_on : (k d : ℕ) → On N Λ (l + k) d → On N' Λ' k (rank Λ l d)
  again_on k d o =
      let e = old_rank N Λ l d (down k d o) in
      on_new a n N h Λ Δ y l a' N' h' Λ' Δ' old again_renumbered k (rank Λ l d) (rank_below N Λ l d (down k d o)) (rw e o.1)

  -- the neighbour of the rank is the rank of the neighbour
  again_neighbour : (k i d : ℕ) → l + k ≤ h → i ≤ n → On N Λ (l + k) d → level a' n N' (marks h' Λ' Δ') k i (rank Λ l d) ≡ rank Λ l (level a n N (marks h Λ Δ) (l + k) i d)
  again_neighbour k i d f li o =
      let s = alike a n N h Λ Δ y l a' N' h' Λ' Δ' old again_renumbered k (omega arith) in
      let o' = again_on k d o in
      let x = level a' n N' (marks h' Λ' Δ') k i (rank Λ l d) in
      sym (rank_old N Λ l x (s.valid.inside i (rank Λ l d) li o').0)
      ∙ ap (rank Λ l) (s.neighbour i (rank Λ l d) li o' ∙ ap (level a n N (marks h Λ Δ) (l + k) i) (old_rank N Λ l d (down k d o)))

  -- no more reads than from the same dart before
  again_reads : (k i d : ℕ) → l + k ≤ h → i ≤ n → On N Λ (l + k) d → reads a' n N' h' Λ' Δ' k i (rank Λ l d) ≤ reads a n N h Λ Δ (l + k) i d
  again_reads k i d f li o =
      let e = old_rank N Λ l d (down k d o) in
      rw e at (fewer_reads a n N h Λ Δ y l a' N' h' Λ' Δ' old again_renumbered k (omega arith) i (rank Λ l d) li (again_on k d o))

  -- a dart that is not on the level has no walk
  no_reads : (a : Involutions) (n N h : ℕ) (Λ Δ : ℕ → ℕ) (l i b : ℕ) → gone Λ l b ≡ true → reads a n N h Λ Δ l i b ≡ 0
  unfolding reads
  no_reads a n N h Λ Δ l i b q = rw q

  -- row by row, in the old numbers
  row_cost : (k i : ℕ) → l + k ≤ h → i ≤ n → sum (λ b. reads a' n N' h' Λ' Δ' k i b) N' ≤ sum (λ b. reads a n N h Λ Δ (l + k) i b) N
  row_cost k i f li =
      omega (
        arith,
        sum_at_most (λ b. reads a' n N' h' Λ' Δ' k i b) (λ b. reads a n N h Λ Δ (l + k) i (old b)) N' (λ b lb. one b lb (gone Λ' k b) refl),
        sum_renumbered (survives Λ l) (λ b. reads a n N h Λ Δ (l + k) i b) N (λ d ld q.
            no_reads a n N h Λ Δ (l + k) i d (lt-ltb (Λ d) (l + k) (omega (arith, ltb-true (Λ d) l (not-false (gone Λ l d) q))))),
      )
    where
      one : (b : ℕ) → b < N' → (x : Bool) → gone Λ' k b ≡ x → reads a' n N' h' Λ' Δ' k i b ≤ reads a n N h Λ Δ (l + k) i (old b)
      one b lb true q = omega (arith, no_reads a' n N' h' Λ' Δ' k i b q)
      one b lb false q = fewer_reads a n N h Λ Δ y l a' N' h' Λ' Δ' old again_renumbered k (omega arith) i b li (lb, ltb-false (Λ' b) k q)

  -- all rows together
  again_cost : (k : ℕ) → l + k ≤ h → cost a' n N' h' Λ' Δ' k ≤ cost a n N h Λ Δ (l + k)
  unfolding cost
  again_cost k f =
      sum_at_most (λ i. sum (λ b. reads a' n N' h' Λ' Δ' k i b) N') (λ i. sum (λ b. reads a n N h Λ Δ (l + k) i b) N) (suc n) (λ i li. row_cost k i f (omega arith))

  -- the new pyramid is accepted
  pub again_pyramid : Pyramid a' n N' h' Λ' Δ'
  again_pyramid = renumbered_pyramid a n N h Λ Δ y l a' N' h' Λ' Δ' old again_renumbered

  -- every later level is the old one under the new numbers, and demand 3 counts reads in the new base
  pub started_again : StartedAgain a n N h Λ Δ l
  started_again = record {
    pyramid = again_pyramid;
    on = again_on;
    old_on = λ k d o. on_old a n N h Λ Δ y l a' N' h' Λ' Δ' old again_renumbered k d o;
    as_many = survivors_kept N Λ l;
    neighbour = again_neighbour;
    facts = λ k f. facts a' n N' h' Λ' Δ' again_pyramid k (omega arith);
    no_more = again_reads;
    no_dearer = again_cost;
  }

-- its sizes are not refused, where level l has a dart
pub again_sizes : (n N h : ℕ) (Λ : ℕ → ℕ) (l : ℕ) → sizes n N h ≡ accepted → 1 ≤ new_darts N Λ l → sizes n (new_darts N Λ l) (new_height h l) ≡ accepted
unfolding sizes number1 number2 number3
again_sizes n N h Λ l e some =
    let s = sizes_sized n N h e in
    let m = new_darts N Λ l in
    let f : m ≤ 4096 = omega (arith, count_le (survives Λ l) N, s.darts) in
    rw (le-leb 1 n s.one_dimension, le-leb n 4 s.dimension, le-leb 1 m some, le-leb m 4096 f, le-ltb 32 (new_height h l) (omega (arith, s.height)))
