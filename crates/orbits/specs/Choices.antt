-- The rows by which a search goes on from a dart. Assumes nothing: these are definitions.
use Rattle.std.specs.Prelude.{Bool, List, ℕ, ◌/◌, ◌%◌, ◌^◌, eqb}
use Rattle.maps.specs.Table.{each}

-- A choice is a byte: row j is used where its bit j is 1.
unfoldable pub uses : ℕ → ℕ → Bool
uses choice row = eqb (choice / 2 ^ row % 2) 1

-- Each dart has a choice of its own.
abbrev pub chosen : List ℕ → ℕ → ℕ → Bool
chosen choices row d = uses (each choices d) row
