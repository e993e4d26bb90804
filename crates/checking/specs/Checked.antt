-- The parts of a check's verdict. Assumes nothing: these are definitions.
use Rattle.std.specs.Prelude.{◌≡◌, Bool, true, ◌&&◌, List, ℕ, suc, ◌*◌, length}
use Rattle.maps.specs.Verdict.{Verdict, accepted, ◌then◌}
use Rattle.maps.specs.Sizes.{has_length}
use Rattle.maps.specs.Folded.{Folded, base, lambda_of, delta_of}
use Rattle.maps.specs.Check.{check_map, check8}
use Rattle.answers.specs.Lent.{lent_of}

-- the lengths of base rows, Λ and Δ, and of what else is lent
abbrev pub lengths_with : Folded → Bool → Bool
lengths_with f others = has_length f.rows (suc f.n * f.N) && (has_length f.lambda f.N && (has_length f.delta f.N && others))

-- 1 to 4 of base rows and marks, and of what else is lent
abbrev pub sizes_with : Folded → Bool → Verdict
sizes_with f others = lent_of f.n f.N f.h (lengths_with f others)

-- of base rows, marks and a table
abbrev pub lent_sizes : Folded → List ℕ → Verdict
lent_sizes f table = sizes_with f (has_length table (suc f.n * f.N))

-- 1, 2 and 4 of base rows
abbrev pub base_sizes : ℕ → ℕ → List ℕ → Verdict
base_sizes n N rows = lent_of n N 0 (has_length rows (suc n * N))

-- base rows that pass these, with Λ and Δ of their length
abbrev pub Measured : Folded → Type 0
Measured f = (base_sizes f.n f.N f.rows ≡ accepted) × (length f.lambda ≡ f.N) × (length f.delta ≡ f.N)

-- and with a mark row
abbrev pub MeasuredRow : Folded → List ℕ → Type 0
MeasuredRow f row = (base_sizes f.n f.N f.rows ≡ accepted) × (length f.lambda ≡ f.N) × (length f.delta ≡ f.N) × (length row ≡ f.N)

-- 5, 6, 7 of the base and 8 of Λ and Δ
abbrev pub base_and_marks : Folded → Verdict
base_and_marks f = check_map (base f) f.n f.N (λ d. true) then check8 f.n f.N f.h (lambda_of f) (delta_of f)

-- 1 to 8
abbrev pub early_with : Folded → Bool → Verdict
early_with f others = sizes_with f others then base_and_marks f

-- where a table is lent
abbrev pub early_of : Folded → List ℕ → Verdict
early_of f table = lent_sizes f table then base_and_marks f
