-- The document's value for each way that a reading by levels ends, and what each function is lent and gives. Assumes nothing: these are definitions.
use Rattle.std.specs.Prelude.{◌≡◌, Bool, true, false, ◌&&◌, List, ℕ, ◌≤◌, ◌<◌, length, eqb, Result, Ok, Err, Option, Some, None}
use Rattle.maps.specs.Mark.{between, stay}
use Rattle.maps.specs.Table.{each}
use Rattle.maps.specs.Folded.{Folded, base, lambda_of, delta_of}
use Rattle.maps.specs.Verdict.{Verdict}
use Rattle.maps.specs.Walk.{Walked, ended, stopped}
use Rattle.maps.specs.ByLevels.{read_level}
use Rattle.maps.specs.Unfold.{walk_verdict}
use Rattle.answers.specs.declared.Dim.{Dim}
use Rattle.questions.specs.Lent.{Lent}
use Rattle.by_levels.specs.declared.Place.{Place}
use Rattle.by_levels.specs.declared.Stop.{Stop}
use Rattle.by_levels.specs.declared.Stop.TheVariants.{TooLong, Strays, Marks, NoPass}
use Rattle.by_levels.specs.declared.Stopped.{Stopped}

-- 15, 5, 8 or 14, where involution i of dart b is asked
abbrev pub stopped_of : ℕ → ℕ → Stop → Place → Walked
stopped_of i b TooLong p = stopped 15 i b
stopped_of i b Strays p = stopped 5 p.row.0 p.dart
stopped_of i b Marks p = stopped 8 p.row.0 p.dart
stopped_of i b NoPass p = stopped 14 p.row.0 p.dart

-- row, dart and count, or number, row and dart
abbrev pub walked_of : ℕ → ℕ → Result Place Stopped → Walked
walked_of i b (Ok p) = ended p.row.0 p.dart p.count
walked_of i b (Err s) = stopped_of i b s.0 s.1

-- the refusal, with the level asked
abbrev pub refused_of : ℕ → ℕ → ℕ → Stopped → Verdict
refused_of l i b s = walk_verdict l (stopped_of i b s.0 s.1)

-- what the test of a dart met is lent: its Λ and Δ, which is a mark where the dart is in kernel l
pub record Passable (lambda delta : List ℕ) (l dart : ℕ) : Type 0 where
  pub lambda_has : dart < length lambda
  pub delta_has : dart < length delta
  pub marked : each lambda dart ≡ l → each delta dart < stay

-- is dart e, met by row t, in kernel l and t the first row of its mark
abbrev pub entered : (ℕ → ℕ) → (ℕ → ℕ) → ℕ → ℕ → ℕ → Bool
entered Λ Δ l t e = eqb (Λ e) l && eqb (between (Δ e)).0 t

-- where it is so, the second row of its mark
abbrev pub Second : (ℕ → ℕ) → (ℕ → ℕ) → ℕ → ℕ → ℕ → Option Dim → Type 0
Second Λ Δ l t e (Some row) = (entered Λ Δ l t e ≡ true) × (row.0 ≡ (between (Δ e)).1)
Second Λ Δ l t e None = entered Λ Δ l t e ≡ false

module _ (f : Folded) where
  -- a place's row may be read on level l: it lies in the map, and all is lent that a walk at a level from l up is lent
  pub record Asked (l : ℕ) (p : Place) : Type 0 where
    pub top : ℕ
    pub lent : Lent f top
    pub under : l ≤ top
    pub row : p.row.0 ≤ f.n
    pub dart : p.dart < f.N

  -- row t of dart d on level l, c entries being read before, where involution i of dart b is asked
  abbrev pub level_of : ℕ → ℕ → ℕ → ℕ → ℕ → ℕ → Walked
  level_of i b l t d c = read_level (base f) f.n f.N f.h (lambda_of f) (delta_of f) i b l t d c

  -- r is what a place's row gives on level l, whatever is asked
  abbrev pub Reads : ℕ → Place → Result Place Stopped → Type 0
  Reads l p r = (i b : ℕ) → walked_of i b r ≡ level_of i b l p.row.0 p.dart p.count
