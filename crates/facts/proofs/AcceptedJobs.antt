-- What a caller may use once the pyramid check has accepted, in the words of the jobs' contracts. Assumes nothing.
use mathlib.Core.Path.{◌≡◌, refl, ap}
use mathlib.Core.Bool.{Bool, true, false, ◌&&◌}
use mathlib.Core.List.{List}
use Prim.Native.Nat.{ℕ, suc, ◌+◌, ◌*◌, ◌≤◌, ◌<◌}
use native.Mathlib.Omega.{arith}
use borrow.Author.Tests.{ltb-false, lt-ltb, le-ltb, not-true}
use Rattle.maps.specs.Verdict.{accepted, ◌then◌, scan}
use Rattle.maps.specs.Count.{sum}
use Rattle.maps.specs.Table.{entry, each}
use Rattle.maps.specs.Folded.{On, gone, survives, survivors, removed_below, marks, level, level_table, of_parts, Folded}
use Rattle.maps.specs.Walk.{walk_at}
use Rattle.maps.specs.Cost.{reads, cost}
use Rattle.maps.specs.Pyramid.{Pyramid}
use Rattle.maps.specs.Check.{check_pyramid}
use Rattle.maps.specs.Sizes.{number4, number11, number13, has_length, sizes}
use Rattle.maps.specs.CheckPyramid.{left_behind, check_lent, check_leaves}
use Rattle.maps.specs.MarksBack.{at_marks8}
use Rattle.maps.specs.Read.{found, question, read_lent, read_lent_by_levels}
use Rattle.maps.specs.Unfold.{dart_of, at_walk, unfold_lent, unfold_total, unfold_leaves}
use Rattle.laws.proofs.Verdicts.{then_accepted, scan_all, and_both}
use Rattle.laws.proofs.Sizes.{Sized, sizes_sized, lengths_exact}
use Rattle.laws.proofs.Tables.{explicit_same}
use Rattle.facts.proofs.Checks.{check_pyramid_lem}
use Rattle.facts.proofs.Facts.{Facts, facts}

-- a pyramid that the check has accepted
module _ (P : Folded) (table : List ℕ) (e : check_lent P table ≡ accepted) where
  open P use {n, N, h, rows, lambda, delta}

  abbrev a : ℕ → ℕ → ℕ
  a = entry N rows

  abbrev Λ : ℕ → ℕ
  Λ = each lambda

  abbrev Δ : ℕ → ℕ
  Δ = each delta

  abbrev lengths : Bool
  lengths = has_length rows (suc n * N) && (has_length lambda N && (has_length delta N && has_length table (suc n * N)))

  pub parts : (sizes n N h ≡ accepted) × (number4 lengths ≡ accepted) × (check_pyramid a n N h Λ Δ ≡ accepted)
  unfolding check_lent
  parts =
      let r = then_accepted (sizes n N h) (number4 lengths then check_pyramid a n N h Λ Δ) e in
      let s = then_accepted (number4 lengths) (check_pyramid a n N h Λ Δ) r.1 in
      (r.0, s.0, s.1)

  sized : Sized n N h
  sized = sizes_sized n N h parts.0

  -- it is an accepted pyramid, so all of the walk facts hold of it
  pub accepted_pyramid : Pyramid a n N h Λ Δ
  accepted_pyramid = let s = sized in check_pyramid_lem a n N h Λ Δ (omega arith) parts.2

  pub accepted_facts : (l : ℕ) → l ≤ h → Facts a n N h Λ Δ l
  accepted_facts l k = facts a n N h Λ Δ accepted_pyramid l k

  -- the lent table holds the explicit level h
  pub accepted_table : check_leaves P table ≡ level_table a n N h Λ Δ h
  unfolding check_leaves left_behind
  accepted_table = rw e

  -- the lengths that were found exact
  pub exact : (has_length rows (suc n * N) ≡ true) × (has_length lambda N ≡ true) × (has_length delta N ≡ true) × (has_length table (suc n * N) ≡ true)
  exact =
      let r = and_both (has_length rows (suc n * N)) (has_length lambda N && (has_length delta N && has_length table (suc n * N))) (lengths_exact lengths parts.1) in
      let s = and_both (has_length lambda N) (has_length delta N && has_length table (suc n * N)) r.1 in
      let t = and_both (has_length delta N) (has_length table (suc n * N)) s.1 in
      (r.0, s.0, t.0, t.1)

  module _ (l : ℕ) (k : l ≤ h) where
    -- a question in range is not refused before the walk
    pub asked : (i d : ℕ) → i ≤ n → On N Λ l d → question P l i d ≡ accepted
    unfolding question number4 number11 number13
    asked i d li o =
        let x = exact in
        rw (parts.0, x.0, x.1, x.2, le-ltb h l k, le-ltb n i li, lt-ltb d N o.0, accepted_pyramid.allowed d o.0, le-ltb (Λ d) l o.1)

    -- the reading is the level's neighbour, with the walk's count
    pub accepted_read : (i d : ℕ) → i ≤ n → On N Λ l d → read_lent P l i d ≡ found (level a n N (marks h Λ Δ) l i d) (reads a n N h Λ Δ l i d)
    unfolding read_lent
    accepted_read i d li o = rw (asked i d li o, (accepted_facts l k).ends i d li o)

    -- by levels the same
    pub accepted_by_levels : (i d : ℕ) → i ≤ n → On N Λ l d → read_lent_by_levels P l i d ≡ read_lent P l i d
    unfolding read_lent read_lent_by_levels
    accepted_by_levels i d li o = rw ((accepted_facts l k).alike i d li o)

    on : (d : ℕ) → d < N → survives Λ l d ≡ true → On N Λ l d
    on d ld q = (ld, ltb-false (Λ d) l (not-true (gone Λ l d) q))

    at_accepted : (i d : ℕ) → i ≤ n → d < N → at_walk P l i d ≡ accepted
    unfolding at_walk
    at_accepted i d li ld = go (survives Λ l d) refl
      where
        go : (x : Bool) → survives Λ l d ≡ x → at_walk P l i d ≡ accepted
        go true q = rw (q, at_walk, (accepted_facts l k).ends i d li (on d ld q))
        go false q = rw (q, at_walk)

    -- unfolding refuses no level of it
    pub accepted_unfold : unfold_lent P l table ≡ accepted
    unfolding unfold_lent number4 number11 at_marks8
    accepted_unfold =
        let x = exact in
        rw (
          parts.0,
          x.0,
          x.1,
          x.2,
          x.3,
          le-ltb h l k,
          scan_all N (at_marks8 n h (each lambda) (each delta) l) (λ d ld. rw (accepted_pyramid.allowed d ld)),
          scan_all (suc n) (λ i. scan N (at_walk P l i)) (λ i li. scan_all N (at_walk P l i) (λ d ld. at_accepted i d (omega arith) ld)),
        )

    -- unfold's table is the explicit level
    pub accepted_unfolded : unfold_leaves P l table ≡ level_table a n N h Λ Δ l
    unfolding unfold_leaves
    accepted_unfolded =
        rw accepted_unfold
        (explicit_same (λ i d. dart_of (walk_at P l i d)) (level a n N (marks h Λ Δ) l) n N (survives Λ l) (survives Λ l) (λ d ld. refl)
        (λ i d li ld q. ap dart_of ((accepted_facts l k).ends i d li (on d ld q))))

    -- its total is the sum of the single readings' counts, and obeys the bound
    pub accepted_total : (unfold_total P l table ≡ sum (λ i. sum (λ d. reads a n N h Λ Δ l i d) N) (suc n))
        × (unfold_total P l table ≤ suc n * survivors N Λ l + 2 * removed_below N Λ l)
    unfolding unfold_total cost
    accepted_total = rw accepted_unfold (refl, (accepted_facts l k).bound)
