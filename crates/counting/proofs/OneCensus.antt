-- What a census tells: it leaves one outcome, and no level has more cells of a dimension than survivors. Assumes nothing.
use mathlib.Core.Path.{◌≡◌, refl, sym, ◌∙◌}
use mathlib.Core.Logic.{inl, inr}
use mathlib.Core.Bool.{Bool, true, false}
use mathlib.Core.List.{List, []}
use Prim.Native.Nat.{ℕ, zero, suc, ◌+◌, ◌*◌, ◌/◌, ◌%◌, ◌≤◌, ◌<◌}
use native.Mathlib.Omega.{arith}
use lib.ListN.{get_or}
use lib.Seq.{ext_get_or}
use lib.Dec.{ltb}
use lib.IntN.{ℤ, pos}
use borrow.Author.Tests.{ltb-true, ltb-false}
use Rattle.maps.specs.Count.{one, count}
use Rattle.maps.specs.Map.{Involutions}
use Rattle.maps.specs.Folded.{survives, survivors, marks, level, Folded, base, lambda_of, delta_of}
use Rattle.maps.specs.Verdict.{Verdict, accepted, refused}
use Rattle.maps.specs.Census.{CellCount, Census, count_at, count_in, sum_at, CensusTaken, CensusLeaves, CensusPut, CensusPutLeaves}
use Rattle.laws.proofs.Counting.{count_same}
use Rattle.laws.proofs.Tables.{place}
use Rattle.counting.proofs.Alternating.{alternating_same}

-- a map has one number of i-cells
pub count_one : (a : Involutions) (n N : ℕ) (present : ℕ → Bool) (i c c' : ℕ) → CellCount a n N present i c → CellCount a n N present i c' → c ≡ c'
count_one a n N present i c c' k k' = k.is ∙ count_same k.counted k'.counted N (λ d l. go d l (k.counted d) refl (k'.counted d) refl) ∙ sym k'.is
  where
    go : (d : ℕ) → d < N → (x : Bool) → k.counted d ≡ x → (y : Bool) → k'.counted d ≡ y → k.counted d ≡ k'.counted d
    go d l true q y r = let w = k.only d l q in q ∙ sym (k'.every d l w.0 w.1)
    go d l false q true r = let w = k'.only d l r in k.every d l w.0 w.1 ∙ sym r
    go d l false q false r = q ∙ sym r

-- a test that holds of fewer
count_fewer : (p q : ℕ → Bool) (m : ℕ) → ((d : ℕ) → d < m → p d ≡ true → q d ≡ true) → count p m ≤ count q m
unfolding count
count_fewer p q zero h = omega arith
count_fewer p q (suc m) h = go (p m) refl (count_fewer p q m (λ d l. h d (omega arith)))
  where
    go : (b : Bool) → p m ≡ b → count p m ≤ count q m → count p m + one (p m) ≤ count q m + one (q m)
    go true e ih = rw (e, h m (omega arith) e) (omega arith)
    go false e ih = rw e (omega arith)

-- no more cells than darts present
pub count_present : (a : Involutions) (n N : ℕ) (present : ℕ → Bool) (i c : ℕ) → CellCount a n N present i c → c ≤ count present N
count_present a n N present i c k = omega (arith, k.is, count_fewer k.counted present N (λ d l q. (k.only d l q).0))

module _ (a : Involutions) (n N h : ℕ) (Λ Δ : ℕ → ℕ) where
  -- no more than survivors
  pub census_few : (counts : ℕ → ℕ → ℕ) (sums : ℕ → ℤ) → Census a n N h Λ Δ counts sums → (l i : ℕ) → l ≤ h → i ≤ n → counts l i ≤ survivors N Λ l
  census_few counts sums k l i ll li = count_present (level a n N (marks h Λ Δ) l) n N (survives Λ l) i (counts l i) (k.cells l i ll li)

  -- any two censuses are equal at every place of the table
  module _ (counts counts' : ℕ → ℕ → ℕ) (sums sums' : ℕ → ℤ) (k : Census a n N h Λ Δ counts sums) (k' : Census a n N h Λ Δ counts' sums') where
    same_counts : (l i : ℕ) → l ≤ h → i ≤ n → counts l i ≡ counts' l i
    same_counts l i ll li = count_one (level a n N (marks h Λ Δ) l) n N (survives Λ l) i (counts l i) (counts' l i) (k.cells l i ll li) (k'.cells l i ll li)

    -- so are their counts
    pub census_one : (l i : ℕ) → l < 33 → i < 5 → counts l i ≡ counts' l i
    census_one l i ll li = go (ltb h l) refl (ltb n i) refl
      where
        go : (b : Bool) → ltb h l ≡ b → (b' : Bool) → ltb n i ≡ b' → counts l i ≡ counts' l i
        go true q b' r = let f = inl (ltb-true h l q) in k.unused l i ll li f ∙ sym (k'.unused l i ll li f)
        go false q true r = let f = inr (ltb-true n i r) in k.unused l i ll li f ∙ sym (k'.unused l i ll li f)
        go false q false r = same_counts l i (ltb-false h l q) (ltb-false n i r)

    -- and so are their sums
    pub sums_one : (l : ℕ) → l < 33 → sums l ≡ sums' l
    sums_one l ll = go (ltb h l) refl
      where
        go : (b : Bool) → ltb h l ≡ b → sums l ≡ sums' l
        go true q = k.unused_sum l ll (ltb-true h l q) ∙ sym (k'.unused_sum l ll (ltb-true h l q))
        go false q =
            let f = ltb-false h l q in
            k.sum l f ∙ alternating_same (counts l) (counts' l) (suc n) (λ i li. same_counts l i f (omega arith)) ∙ sym (k'.sum l f)

module _ (P : Folded) where
  open P use {n, N, h}

  -- so a census in an array of arrays is one
  pub taken_one : (cells cells' : List (List ℕ)) (sums sums' : List ℤ) → CensusTaken P cells sums → CensusTaken P cells' sums' → (cells ≡ cells') × (sums ≡ sums')
  taken_one cells cells' sums sums' k k' = (
    ext_get_or [] cells cells' (k.rows_long ∙ sym k'.rows_long)
        (λ l ll.
        let low : l < 33 = omega (arith, k.rows_long) in
        ext_get_or zero (get_or cells l []) (get_or cells' l []) (k.row_long l low ∙ sym (k'.row_long l low))
        (λ i li. census_one (base P) n N h (lambda_of P) (delta_of P) (count_at cells) (count_at cells') (sum_at sums) (sum_at sums') k.census k'.census l i low (omega (arith, k.row_long l low)))),
    ext_get_or (pos 0) sums sums' (k.sums_long ∙ sym k'.sums_long)
        (λ l ll. sums_one (base P) n N h (lambda_of P) (delta_of P) (count_at cells) (count_at cells') (sum_at sums) (sum_at sums') k.census k'.census l (omega (arith, k.sums_long))),
  )

  -- and one in slices
  pub put_one : (cells cells' : List ℕ) (sums sums' : List ℤ) → CensusPut P cells sums → CensusPut P cells' sums' → (cells ≡ cells') × (sums ≡ sums')
  put_one cells cells' sums sums' k k' = (
    ext_get_or zero cells cells' (k.cells_long ∙ sym k'.cells_long)
        (λ x lx.
        let w = place 32 5 x (omega (arith, k.cells_long)) in
        let placed : 5 * (x / 5) + x % 5 ≡ x = omega (arith, w.2) in
        let e = census_one (base P) n N h (lambda_of P) (delta_of P) (count_in cells) (count_in cells') (sum_at sums) (sum_at sums') k.census k'.census (x / 5) (x % 5) (omega (arith, w.0)) w.1 in
        rw placed at e),
    ext_get_or (pos 0) sums sums' (k.sums_long ∙ sym k'.sums_long)
        (λ l ll. sums_one (base P) n N h (lambda_of P) (delta_of P) (count_in cells) (count_in cells') (sum_at sums) (sum_at sums') k.census k'.census l (omega (arith, k.sums_long))),
  )

  -- what a verdict leaves is one, in arrays
  pub leaves_one : (v : Verdict) (found : List (List ℕ)) (found-sums : List ℤ) (cells cells' : List (List ℕ)) (sums sums' : List ℤ)
      → CensusLeaves P v found found-sums cells sums → CensusLeaves P v found found-sums cells' sums' → (cells ≡ cells') × (sums ≡ sums')
  leaves_one accepted found found-sums cells cells' sums sums' k k' = taken_one cells cells' sums sums' k k'
  leaves_one (refused number level involution dart) found found-sums cells cells' sums sums' k k' = (k.0 ∙ sym k'.0, k.1 ∙ sym k'.1)

  -- and in slices
  pub put_leaves_one : (v : Verdict) (found : List ℕ) (found-sums : List ℤ) (cells cells' : List ℕ) (sums sums' : List ℤ)
      → CensusPutLeaves P v found found-sums cells sums → CensusPutLeaves P v found found-sums cells' sums' → (cells ≡ cells') × (sums ≡ sums')
  put_leaves_one accepted found found-sums cells cells' sums sums' k k' = put_one cells cells' sums sums' k k'
  put_leaves_one (refused number level involution dart) found found-sums cells cells' sums sums' k k' = (k.0 ∙ sym k'.0, k.1 ∙ sym k'.1)
