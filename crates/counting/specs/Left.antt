-- What a census leaves, of the slices that it is lent. Assumes nothing: these are definitions.
use Rattle.std.specs.Prelude.{List, ℕ, ℤ}
use Rattle.maps.specs.Folded.{Folded}
use Rattle.maps.specs.CheckPyramid.{check_lent}
use Rattle.maps.specs.Census.{CensusLeaves, census_lent, CensusPutLeaves}

-- in arrays, from those found
abbrev pub CensusLeft : Folded → List ℕ → List (List ℕ) → List ℤ → List (List ℕ) → List ℤ → Type 0
CensusLeft f table oldCells oldSums cells sums = CensusLeaves f (check_lent f table) oldCells oldSums cells sums

-- in slices, from those found
abbrev pub CensusPutLeft : Folded → List ℕ → List ℕ → List ℤ → List ℕ → List ℤ → Type 0
CensusPutLeft f table oldCells oldSums cells sums = CensusPutLeaves f (census_lent f table oldCells oldSums) oldCells oldSums cells sums
