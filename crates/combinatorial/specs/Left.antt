-- What bringing in a map and taking it back leave, of the slices that they are lent. Assumes nothing: these are definitions.
use Rattle.std.specs.Prelude.{List, ℕ}
use Rattle.maps.specs.Verdict.{Verdict}
use Rattle.maps.specs.Partner.{import_lent, ImportLeaves, export_lent, Exports}

-- the rows that bringing in a map leaves, from those found
abbrev pub ImportLeft : ℕ → List ℕ → List ℕ → List ℕ → List ℕ → Type 0
ImportLeft m edges vertices oldRows rows = ImportLeaves m edges vertices oldRows (import_lent m edges vertices oldRows) rows

-- what taking it back answers, and leaves in the two rows, from those found
abbrev pub ExportLeft : ℕ → ℕ → List ℕ → List ℕ → List ℕ → Verdict → List ℕ → List ℕ → Type 0
ExportLeft n N rows oldEdges oldVertices answer edges vertices = Exports rows oldEdges oldVertices (export_lent n N rows oldEdges oldVertices) answer edges vertices
