-- The rows by which a region goes on, and what a search for names leaves. Assumes nothing: these are definitions.
use Rattle.std.specs.Prelude.{◌≡◌, Bool, ◌&&◌, ◌||◌, List, ℕ, ◌+◌, ◌≤◌, ◌<◌, length, get_or, eqb, ltb}
use Rattle.maps.specs.Map.{Involutions}
use Rattle.maps.specs.Orbit.{Orbit, TwoWay}
use Rattle.maps.specs.Folded.{Folded}
use Rattle.maps.specs.Regions.{regions_lent, RegionsLeave}
use Rattle.maps.specs.Table.{entry, each}
use Rattle.answers.specs.Rows.{Rows}
use Rattle.answers.specs.declared.Pyramid.{Pyramid}
use Rattle.orbits.specs.Choices.{chosen}

-- Does a region go on by row j from a dart with these marks? By a_0 to a_(n−1) always, by a_n where Λ < l and Δ = n−1.
abbrev pub goes_on : ℕ → ℕ → ℕ → ℕ → ℕ → Bool
goes_on n lambda delta l j = ltb j n || (ltb lambda l && eqb (delta + 1) n)

-- the same of row j and dart d
abbrev pub region_rows : ℕ → (ℕ → ℕ) → (ℕ → ℕ) → ℕ → ℕ → ℕ → Bool
region_rows n Λ Δ l j d = goes_on n (Λ d) (Δ d) l j

-- one dimension or more, and marks of the exact lengths
pub record RegionsAsked (pyramid : Pyramid) : Type 0 where
  pub one : 1 ≤ pyramid.sizes.n.0
  pub dimension : pyramid.sizes.n.0 ≤ 4
  pub darts : pyramid.sizes.darts ≤ 4096
  pub lambda_length : length pyramid.lambda.now ≡ pyramid.sizes.darts
  pub delta_length : length pyramid.delta.now ≡ pyramid.sizes.darts

-- choices that say so of every dart
abbrev pub RegionChoices : ℕ → ℕ → (ℕ → ℕ) → (ℕ → ℕ) → ℕ → List ℕ → Type 0
RegionChoices n N Λ Δ l choices = (j d : ℕ) → j ≤ n → d < N → chosen choices j d ≡ region_rows n Λ Δ l j d

-- what a search for names asks: rows that lead to darts, and back
pub record Leads (n N : ℕ) (table choices : List ℕ) : Type 0 where
  pub rows : Rows n N table
  pub two_way : TwoWay (entry N table) n (λ d. d < N) (chosen choices)

-- the lowest dart that a dart reaches by the rows used
pub record LowestIn (a : Involutions) (n : ℕ) (uses : ℕ → ℕ → Bool) (dart lowest : ℕ) : Type 0 where
  pub reached : Orbit a n uses dart lowest
  pub least : (d : ℕ) → Orbit a n uses dart d → lowest ≤ d

-- a row of them
pub record Lowests (a : Involutions) (n N : ℕ) (uses : ℕ → ℕ → Bool) (names : List ℕ) : Type 0 where
  pub long : length names ≡ N
  pub lowest : (d : ℕ) → d < N → LowestIn a n uses d (each names d)

-- the darts before the queue's end get a name, the others keep theirs
pub record Given (name : ℕ) (queue : List ℕ) (end : ℕ) (old new : List ℕ) : Type 0 where
  pub long : length new ≡ length old
  pub given : (k : ℕ) → k < end → each new (get_or queue k 0) ≡ name
  pub kept : (d : ℕ) → ((k : ℕ) → k < end → get_or queue k 0 ≡ d → ⊥) → each new d ≡ each old d

-- what naming leaves of the lent name row, by its own verdict
abbrev pub NamingLeaves : Folded → List ℕ → ℕ → List ℕ → List ℕ → Type 0
NamingLeaves f table l old new = RegionsLeave f l old (regions_lent f table l old) new
