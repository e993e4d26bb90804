-- What telling the counts of all levels asks. Assumes nothing: these are definitions.
use Rattle.std.specs.Prelude.{◌≡◌, not, cond, List, map, ℕ, suc, max, ltb}
use Rattle.std.specs.List.{sum_by, zip, fold}
use Rattle.maps.specs.Verdict.{accepted}
use Rattle.maps.specs.Count.{sum}
use Rattle.maps.specs.Table.{entry, each}
use Rattle.maps.specs.Folded.{survives, Folded}
use Rattle.maps.specs.Trail.{largest}
use Rattle.maps.specs.CheckPyramid.{check_lent}
use Rattle.maps.specs.UnfoldAll.{stacked}

-- blocks that hold the levels of an accepted pyramid
pub record Levels (f : Folded) (tables : List ℕ) : Type 0 where
  pub accepts : check_lent f f.rows ≡ accepted
  pub holds : tables ≡ stacked f (suc f.h)

-- what level l takes of a dart's Λ and its number in a row: the number, 0 where the dart is gone
abbrev pub taken : ℕ → ℕ × ℕ → ℕ
taken l p = cond (not (ltb p.0 l)) p.1 0

-- the numbers of a row's survivors on level l, summed; and the largest of them
abbrev pub row_total : List ℕ → ℕ → List ℕ → ℕ
row_total lambda l row = sum_by (taken l) (zip lambda row)

abbrev pub row_latest : List ℕ → ℕ → List ℕ → ℕ
row_latest lambda l row = fold max 0 (map (taken l) (zip lambda row))

-- the same over all rows of a table
abbrev pub total_on : ℕ → ℕ → List ℕ → ℕ → List ℕ → ℕ
total_on n N lambda l table = sum (λ i. sum (λ b. cond (survives (each lambda) l b) (entry N table i b) 0) N) (suc n)

abbrev pub latest_on : ℕ → ℕ → List ℕ → ℕ → List ℕ → ℕ
latest_on n N lambda l table = largest (λ i. largest (λ b. cond (survives (each lambda) l b) (entry N table i b) 0) N) (suc n)
