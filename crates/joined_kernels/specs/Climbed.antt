-- What the climb of a join asks, answers and leaves. Assumes nothing: these are definitions.
use Rattle.std.specs.Prelude.{◌≡◌, List, ℕ, suc, ◌-◌, ◌<◌}
use Rattle.maps.specs.Verdict.{Verdict, accepted, ◌then◌}
use Rattle.maps.specs.Table.{listed}
use Rattle.maps.specs.Folded.{marks, level, Folded, base, lambda_of, delta_of, of_parts}
use Rattle.maps.specs.Check.{check_kernel}
use Rattle.maps.specs.CheckPyramid.{left_behind, table_at}
use Rattle.maps.specs.Join.{joinΛ, joined_row}
use Rattle.climbing.specs.Climb.{climbs, Climbed}

-- 9 and 10 of the joined kernel, on level l
abbrev pub joined_verdict : Folded → ℕ → Verdict
joined_verdict f l = check_kernel (level (base f) f.n f.N (marks f.h (lambda_of f) (delta_of f)) l) f.n f.N (joined_row f l) l

-- 9 and 10 of all kernels, then of the joined one; and what is left in the table
abbrev pub climbs_joined : Folded → ℕ → Verdict
climbs_joined f l = climbs f then joined_verdict f l

abbrev pub climb_joined_leaves : Folded → ℕ → List ℕ
climb_joined_leaves f l = left_behind (table_at f f.h) (table_at f) f.rows (climbs_joined f l)

-- the pyramid with its two kernels joined
abbrev pub joined_of : Folded → ℕ → Folded
joined_of f l = of_parts f.n f.N (f.h - 1) f.rows (listed (joinΛ l (lambda_of f)) f.N) f.delta

-- what the test of the joined kernel asks: two kernels from level l on, and that a climb has left level l in the table
abbrev pub Reached : Folded → ℕ → List ℕ → Type 0
Reached f l table = (suc l < f.h) × ((head : List ℕ) × ((next : List ℕ) × Climbed f l head next table))

-- what it answers: the joined kernel's verdict, if all kernels are accepted; 10 never comes then
abbrev pub Tells : Folded → ℕ → Verdict → Type 0
Tells f l v = climbs f ≡ accepted → v ≡ joined_verdict f l
