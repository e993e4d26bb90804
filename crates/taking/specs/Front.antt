-- A pyramid at the front of slices that may be longer, and in the bytes of a record. Assumes nothing: these are definitions.
use Rattle.std.specs.Prelude.{Bool, List, ℕ, suc, ◌+◌, ◌*◌, ◌≤◌, length, take, drop}
use Rattle.maps.specs.Folded.{Folded}
use Rattle.answers.specs.Pyramid.{pyramid}
use Rattle.answers.specs.declared.Sizes.{Sizes}
use Rattle.taking.specs.Parts.{marks_at}

-- its entries: n+1 rows
abbrev pub entries_of : Sizes → ℕ
entries_of sizes = suc sizes.n.0 * sizes.darts

-- so many entries of a slice, and what stands behind them
abbrev pub front_of : Sizes → List ℕ → List ℕ
front_of sizes rows = take (entries_of sizes) rows

abbrev pub behind : Sizes → List ℕ → List ℕ
behind sizes rows = drop (entries_of sizes) rows

-- the pyramid
abbrev pub front : Sizes → List ℕ → List ℕ → List ℕ → Folded
front sizes rows lambda delta = pyramid sizes (front_of sizes rows) (take sizes.darts lambda) (take sizes.darts delta)

-- its sizes are in range, and rows, Λ and Δ are long enough for it
abbrev pub FrontOf : Sizes → List ℕ → List ℕ → List ℕ → Type 0
FrontOf sizes rows lambda delta = (sizes.n.0 ≤ 4) × (sizes.darts ≤ 4096) × (entries_of sizes ≤ length rows) × (sizes.darts ≤ length lambda) × (sizes.darts ≤ length delta)

-- and so is a table
abbrev pub InFront : Sizes → List ℕ → List ℕ → List ℕ → List ℕ → Type 0
InFront sizes rows lambda delta table =
    (sizes.n.0 ≤ 4) × (sizes.darts ≤ 4096) × (entries_of sizes ≤ length rows) × (sizes.darts ≤ length lambda) × (sizes.darts ≤ length delta) × (entries_of sizes ≤ length table)

-- where the bodies of Λ and Δ stand in a record, with one byte an entry or two
abbrev pub lambda_from : Sizes → Bool → ℕ
lambda_from sizes one = marks_at sizes.n.0 sizes.darts one + 3

abbrev pub delta_from : Sizes → Bool → ℕ
delta_from sizes one = marks_at sizes.n.0 sizes.darts one + (3 + sizes.darts) + 3

-- sizes in range, a record that holds all its fields, and rows, Λ and Δ that are long enough for what they say
abbrev pub Whole : Sizes → Bool → List ℕ → List ℕ → List ℕ → List ℕ → Type 0
Whole sizes one bytes rows lambda delta =
    (sizes.n.0 ≤ 4) × (1 ≤ sizes.darts) × (sizes.darts ≤ 4096) × (marks_at sizes.n.0 sizes.darts one + (3 + sizes.darts) + (3 + sizes.darts) ≤ length bytes)
    × (entries_of sizes ≤ length rows) × (sizes.darts ≤ length lambda) × (sizes.darts ≤ length delta)
