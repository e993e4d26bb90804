-- An explicit level that is accepted, and the rows of a cell. Assumes nothing: these are definitions.
use Rattle.std.specs.Prelude.{◌≡◌, Bool, not, List, ℕ, eqb}
use Rattle.maps.specs.Verdict.{accepted}
use Rattle.maps.specs.Table.{entry}
use Rattle.maps.specs.Check.{check_map}
use Rattle.maps.specs.Explicit.{present}
use Rattle.answers.specs.Rows.{Rows}

-- an explicit level that is accepted
pub record ExplicitLevel (n N : ℕ) (table : List ℕ) : Type 0 where
  pub rows : Rows n N table
  pub accepts : check_map (entry N table) n N (present N table) ≡ accepted

-- the rows of a δ-cell: every one but a_δ
abbrev pub but : ℕ → ℕ → Bool
but δ j = not (eqb j δ)
