-- Laws of a whole census: row after row of counts, and the sums beside them. Assumes nothing.
use mathlib.Core.Path.{◌≡◌, refl, sym, ap, subst, ◌∙◌}
use mathlib.Core.Logic.{inl, inr}
use mathlib.Core.Bool.{Bool, true, false}
use mathlib.Core.List.{List, []}
use Prim.Native.Nat.{ℕ, zero, suc, ◌+◌, ◌-◌, ◌≤◌, ◌<◌}
use native.Mathlib.Omega.{arith}
use lib.ListN.{length, get_or, set, replicate, length-set, length-replicate, get_or-replicate}
use lib.Seq.{get_or-set_same, get_or-set_other}
use lib.Dec.{eqb, ltb}
use lib.IntN.{ℤ}
use borrow.Author.Tests.{eqb-true, eqb-false, ltb-true, ltb-false}
use Rattle.maps.specs.Folded.{survives, marks, level, Folded, base, lambda_of, delta_of}
use Rattle.maps.specs.Accepted.{Accepted}
use Rattle.maps.specs.Verdict.{Verdict, accepted, refused}
use Rattle.maps.specs.CheckPyramid.{check_lent, check_leaves, table_at}
use Rattle.maps.specs.Census.{CellCount, alternating, count_at, CensusTaken, CensusLeaves}
use Rattle.laws.proofs.Counting.{count_le}
use Rattle.facts.proofs.AcceptedJobs.{accepted_table}
use Rattle.facts.proofs.ExactJobs.{check_accepts}
use Rattle.answers.specs.Numbers.{refusal_of}
use Rattle.answers.specs.declared.Refusal.{Refusal}
use Rattle.answers.proofs.Refusals.{refusal_refuses}
use Rattle.orbits.specs.Explicit.{ExplicitLevel}
use Rattle.climbing.specs.Climb.{climb_to_leaves}
use Rattle.counting.specs.Counts.{LevelCounted, zeroed, Counted, Few, Summed}
use Rattle.counting.proofs.Levels.{table_explicit, table_accepted, table_climbed, table_counted}
use Rattle.counting.proofs.Alternating.{alternating_unused, alternating_zero}

-- a row of no count
abbrev none : List ℕ
none = replicate 5 0

module _ (P : Folded) where
  open P use {n, N, h}

  -- it begins with no count
  pub counted_none : Counted P zeroed 0
  unfolding zeroed
  counted_none = record {
    rows_long = length-replicate 33 none;
    row_long = λ l ll. ap length (get_or-replicate 33 l none [] ll) ∙ length-replicate 5 zero;
    cells = λ l i ll. absurd (omega arith);
    unused = λ l i ll li f. ap (λ (r : List ℕ). get_or r i 0) (get_or-replicate 33 l none [] ll) ∙ get_or-replicate 5 i zero zero li;
  }

  module _ (table : List ℕ) (p : Accepted P table) (counts : List (List ℕ)) (k : ℕ) (lk : k ≤ h) (s : Counted P counts k) (row : List ℕ)
      (c : LevelCounted n N (table_at P k) row) where
    -- what holds of the new row and of the others holds of each
    by_row : (Q : List ℕ → Type 0) (l : ℕ) → (l ≡ k → Q row) → ((l ≡ k → ⊥) → Q (get_or counts l [])) → Q (get_or (set counts k row) l [])
    by_row Q l f g = go (eqb l k) refl
      where
        go : (b : Bool) → eqb l k ≡ b → Q (get_or (set counts k row) l [])
        go true q =
            let e : l ≡ k = eqb-true l k q in
            subst Q (sym (ap (λ (x : ℕ). get_or (set counts k row) x []) e ∙ get_or-set_same counts k row [] (omega (arith, s.rows_long, p.height)))) (f e)
        go false q = let ne = eqb-false l k q in subst Q (sym (get_or-set_other counts k l row [] ne)) (g ne)

    -- the counts of one level more
    pub counted_row : Counted P (set counts k row) (k + 1)
    counted_row = record {
      rows_long = length-set counts k row ∙ s.rows_long;
      row_long = λ l ll. by_row (λ r. length r ≡ 5) l (λ e. c.long) (λ ne. s.row_long l ll);
      cells = λ l i ll li.
          by_row (λ r. CellCount (level (base P) n N (marks h (lambda_of P) (delta_of P)) l) n N (survives (lambda_of P) l) i (get_or r i 0)) l
          (λ e. subst (λ (x : ℕ). CellCount (level (base P) n N (marks h (lambda_of P) (delta_of P)) x) n N (survives (lambda_of P) x) i (get_or row i 0)) (sym e) (table_counted P table p k lk i (get_or row i 0) (c.cells i li)))
          (λ ne. s.cells l i (omega arith) li);
      unused = λ l i ll li f.
          by_row (λ r. get_or r i 0 ≡ 0) l
          (λ e. elim f [ inl m ↦ absurd (omega arith) | inr m ↦ c.unused i m li ])
          (λ ne. s.unused l i ll li (elim f [ inl m ↦ inl (omega arith) | inr m ↦ inr m ]));
    }

  -- a level climbed to
  module _ (table : List ℕ) (p : Accepted P table) (k : ℕ) (lk : k ≤ h) (next : List ℕ) (is : next ≡ climb_to_leaves P k) where
    -- its table is the explicit level
    pub climbed_table : next ≡ table_at P k
    climbed_table = is ∙ table_climbed P table p k lk

    -- and can be counted
    pub climbed_explicit : ExplicitLevel n N next
    climbed_explicit = rw climbed_table (table_explicit P table p k lk)

  module _ (table : List ℕ) (p : Accepted P table) (counts : List (List ℕ)) (s : Counted P counts (h + 1)) where
    -- no count is above the number of darts
    pub counted_few : Few counts
    counted_few = record { rows_long = s.rows_long; row_long = s.row_long; few = λ l i ll li. go l i ll li (ltb h l) refl (ltb n i) refl }
      where
        go : (l i : ℕ) → l < 33 → i < 5 → (b : Bool) → ltb h l ≡ b → (b' : Bool) → ltb n i ≡ b' → count_at counts l i ≤ 4096
        go l i ll li true q b' r = omega (arith, s.unused l i ll li (inl (omega (arith, ltb-true h l q))))
        go l i ll li false q true r = omega (arith, s.unused l i ll li (inr (ltb-true n i r)))
        go l i ll li false q false r =
            let c = s.cells l i (omega (arith, ltb-false h l q)) (ltb-false n i r) in
            omega (arith, c.is, count_le c.counted N, p.darts.1)

    -- the unused places of a row are no part of its sum
    pub counted_used : (l : ℕ) → l ≤ h → alternating (count_at counts l) 5 ≡ alternating (count_at counts l) (suc n)
    counted_used l ll =
        let e : suc n + (4 - n) ≡ 5 = omega (arith, p.dimension.1) in
        let u = alternating_unused (count_at counts l) (suc n) (4 - n) (λ i f g. s.unused l i (omega (arith, p.height)) (omega arith) (inr (omega arith))) in
        rw e at u

    -- with the sums it is the census
    pub counted_census : (sums : List ℤ) → Summed counts sums → CensusTaken P counts sums
    counted_census sums w = record {
      rows_long = s.rows_long;
      row_long = s.row_long;
      sums_long = w.long;
      census = record {
        cells = λ l i ll li. s.cells l i (omega arith) li;
        unused = λ l i ll li f. s.unused l i ll li (elim f [ inl m ↦ inl (omega arith) | inr m ↦ inr m ]);
        sum = λ l ll. w.sum l (omega (arith, p.height)) ∙ counted_used l ll;
        unused_sum = λ l ll f. w.sum l ll ∙ alternating_zero (count_at counts l) 5 (λ i li. s.unused l i ll li (inl (omega arith)));
      };
    }

  -- and a census has these counts
  pub taken_counted : (counts : List (List ℕ)) (sums : List ℤ) → CensusTaken P counts sums → Counted P counts (h + 1)
  taken_counted counts sums k = record {
    rows_long = k.rows_long;
    row_long = k.row_long;
    cells = λ l i ll li. k.census.cells l i (omega arith) li;
    unused = λ l i ll li f. k.census.unused l i ll li (elim f [ inl m ↦ inl (omega arith) | inr m ↦ inr m ]);
  }

-- what the job leaves
module _ (P : Folded) (table : List ℕ) (found : List (List ℕ)) (found-sums : List ℤ) where
  open P use {h}

  abbrev verdict : Verdict
  verdict = check_lent P table

  -- refused, counts and sums are as found
  pub census_refused : (r : Refusal) → refusal_of r ≡ verdict → CensusLeaves P verdict found found-sums found found-sums
  census_refused r e =
      let x = refusal_refuses r in
      let f : verdict ≡ refused x.number x.level x.involution x.dart = sym e ∙ x.is in
      rw f (refl, refl)

  -- accepted, the census
  module _ (e : accepted ≡ verdict) where
    pub accepts : Accepted P table
    accepts = check_accepts P table (sym e)

    -- the table of the check serves the first level
    pub left_accepted : (left : List ℕ) → left ≡ check_leaves P table → Accepted P left
    left_accepted left q = rw (q ∙ accepted_table P table (sym e)) (table_accepted P table accepts h (omega arith))

    -- the level that is climbed to last is that of the check
    pub left_table : (after : List ℕ) → after ≡ table_at P h → after ≡ check_leaves P table
    left_table after q = q ∙ sym (accepted_table P table (sym e))

    pub census_left : (counts : List (List ℕ)) (sums : List ℤ) → Counted P counts (h + 1) → Summed counts sums → CensusLeaves P verdict found found-sums counts sums
    census_left counts sums s w = let f : verdict ≡ accepted = sym e in rw f (counted_census P table accepts counts s sums w)
