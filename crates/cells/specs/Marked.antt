-- Which darts the marking of one dimension marks. Assumes nothing: these are definitions.
use Rattle.std.specs.Prelude.{◌≡◌, ◌⊎◌, Bool, true, false, cond, ◌&&◌, ◌||◌, not, List, ℕ, ◌+◌, ◌<◌, eqb, ltb}
use Rattle.maps.specs.Mark.{stay}
use Rattle.maps.specs.Kernel.{Removable}
use Rattle.maps.specs.MarkCells.{WouldBeMarked, Marked, mark_lent, MarkLeaves}
use Rattle.maps.specs.Orbit.{Orbit}
use Rattle.maps.specs.Table.{entry}
use Rattle.maps.specs.Explicit.{present}
use Rattle.orbits.specs.Search.{has, Room}
use Rattle.orbits.specs.Orbits.{Closed}
use Rattle.orbits.specs.Explicit.{but, ExplicitLevel}
use Rattle.cells.specs.declared.mark.Marking.{Marking}

-- an explicit level that is accepted, and a dimension below n
pub record Markable (marking : Marking) : Type 0 where
  pub level : ExplicitLevel marking.table.n.0 marking.table.darts marking.table.entries.now
  pub low : marking.dimension.0 < marking.table.n.0

module _ (n N : ℕ) (table : List ℕ) (δ : ℕ) where
  -- Does the dart's own test fail? For δ = n−1 never; for δ ≤ n−2, it ends elsewhere by a_(δ+1) then a_(δ+2) than by a_(δ+2) then a_(δ+1).
  abbrev pub failing : ℕ → Bool
  failing d = ltb (δ + 1) n && (present N table d && not (eqb (entry N table (δ + 2) (entry N table (δ + 1) d)) (entry N table (δ + 1) (entry N table (δ + 2) d))))

module _ (n N : ℕ) (table : List ℕ) where
  -- the set has the orbits, by some rows, of the darts below k that pass a test, and nothing else
  pub record Gathered (rows : ℕ → Bool) (test : ℕ → Bool) (within : ℕ → Bool) (k : ℕ) : Type 0 where
    pub closed : Closed (entry N table) n (λ j d. rows j) within
    pub source : (e : ℕ) → within e ≡ true → (b : ℕ) × (b < N) × (test b ≡ true) × Orbit (entry N table) n (λ j d. rows j) b e
    pub passed : (b : ℕ) → b < k → test b ≡ true → within b ≡ true

  -- of the darts present, the set has exactly those that P does not hold of
  abbrev pub Lacks : (ℕ → Type 0) → (ℕ → Bool) → Type 0
  Lacks P within = (d : ℕ) → d < N → present N table d ≡ true → ((within d ≡ true) × (P d → ⊥)) ⊎ ((within d ≡ false) × P d)

  -- such a set of whole δ-cells, as it is stored beside a queue
  pub record Without (δ : ℕ) (P : ℕ → Type 0) (reached : List Bool) (queue : List ℕ) : Type 0 where
    pub room : Room reached queue
    pub cells : Closed (entry N table) n (λ j d. but δ j) (has reached)
    pub lacks : Lacks P (has reached)

  -- the sets after each step: without the cells that are not removable, then also those that don't fall into two parts, then also those left unmarked
  abbrev pub Spoilt : ℕ → List Bool → List ℕ → Type 0
  Spoilt δ = Without δ (Removable (entry N table) n δ)

  abbrev pub Divided : ℕ → List Bool → List ℕ → Type 0
  Divided δ = Without δ (WouldBeMarked (entry N table) n δ)

  abbrev pub Spared : ℕ → List Bool → List ℕ → Type 0
  Spared δ = Without δ (Marked (entry N table) n δ)

-- the second set has the connected pieces of the darts present in the first, and nothing else
abbrev pub Broken : Marking → (ℕ → Bool) → (ℕ → Bool) → Type 0
Broken marking within pieces =
    Gathered marking.table.n.0 marking.table.darts marking.table.entries.now (λ j. true) (λ d. present marking.table.darts marking.table.entries.now d && within d) pieces marking.table.darts

-- Is it still to be found out whether the cell of dart d has two parts? It is not in the set, and no part has been searched that d or its a_(δ+1)-neighbour lies in.
abbrev pub undivided : ℕ → List ℕ → ℕ → (ℕ → Bool) → (ℕ → Bool) → ℕ → Bool
undivided N table δ within parts d = present N table d && (not (within d || parts d) && not (parts (entry N table (δ + 1) d)))

-- 255 where the dart is absent or in the set, else δ
abbrev pub mark_of : ℕ → List ℕ → ℕ → Bool → ℕ → ℕ
mark_of N table δ within d = cond (not (present N table d) || within) stay δ

-- the same of a set that is asked for each dart
abbrev pub marks_of : ℕ → List ℕ → ℕ → (ℕ → Bool) → ℕ → ℕ
marks_of N table δ within d = mark_of N table δ (within d) d

-- what a marking leaves of the lent mark row, by its own verdict
abbrev pub MarkingLeaves : ℕ → ℕ → List ℕ → ℕ → List ℕ → List ℕ → Type 0
MarkingLeaves n N table δ old new = MarkLeaves n N table δ old (mark_lent n N table δ old) new
