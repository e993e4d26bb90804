-- The parts of an add's verdict. Assumes nothing: these are definitions.
use Rattle.std.specs.Prelude.{◌&&◌, List, ℕ, suc, ◌*◌}
use Rattle.maps.specs.Verdict.{Verdict, ◌then◌, scan}
use Rattle.maps.specs.Sizes.{has_length}
use Rattle.maps.specs.Table.{each}
use Rattle.maps.specs.Folded.{marks, addΛ, addΔ, level, level_table, Folded, base, lambda_of, delta_of}
use Rattle.maps.specs.Check.{check_kernel}
use Rattle.maps.specs.CheckPyramid.{left_behind}
use Rattle.maps.specs.AddLevel.{at_row8, number20}
use Rattle.answers.specs.Lent.{lent_of}
use Rattle.climbing.specs.Climb.{climbs}
use Rattle.checking.specs.Checked.{base_and_marks}

-- 1 2 3 4 20
abbrev pub add_sizes : Folded → List ℕ → List ℕ → Verdict
add_sizes f row table =
    lent_of f.n f.N f.h (has_length f.rows (suc f.n * f.N) && (has_length f.lambda f.N && (has_length f.delta f.N && (has_length row f.N && has_length table (suc f.n * f.N)))))
    then number20 f.h

-- 8 of the mark row, which names Λ and the row alone
abbrev pub row_marks : ℕ → ℕ → ℕ → List ℕ → List ℕ → Verdict
row_marks n N h lambda row = scan N (at_row8 n h (each lambda) (each row))

-- 5 6 7 8
abbrev pub add_marks : Folded → List ℕ → Verdict
add_marks f row = base_and_marks f then row_marks f.n f.N f.h f.lambda row

-- 9 10 of the kernels below h, then of the mark row as kernel h
abbrev pub ascends : Folded → List ℕ → Verdict
ascends f row = climbs f then check_kernel (level (base f) f.n f.N (marks f.h (lambda_of f) (delta_of f)) f.h) f.n f.N (each row) f.h

-- the explicit table of the new top level
abbrev pub new_top : Folded → List ℕ → List ℕ
new_top f row = level_table (base f) f.n f.N (suc f.h) (addΛ f.n f.h (lambda_of f) (each row)) (addΔ f.n (delta_of f) (each row)) (suc f.h)

-- what they leave in a table
abbrev pub ascend_leaves : Folded → List ℕ → List ℕ
ascend_leaves f row = left_behind (new_top f row) (level_table (base f) f.n f.N f.h (lambda_of f) (delta_of f)) f.rows (ascends f row)
