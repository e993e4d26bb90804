-- What a climb asks of base and marks, the verdict of the kernels and what they leave in the table. Assumes nothing: these are definitions.
use Rattle.std.specs.Prelude.{◌≡◌, false, List, ℕ, suc, ◌*◌, ◌<◌, ◌≤◌, length}
use Rattle.maps.specs.Verdict.{Verdict, accepted, scan}
use Rattle.maps.specs.Map.{Valid}
use Rattle.answers.specs.Pyramid.{pyramid}
use Rattle.answers.specs.declared.Pyramid.{Pyramid}
use Rattle.maps.specs.Folded.{refused_marks, Folded, base, lambda_of, delta_of}
use Rattle.maps.specs.Check.{kernel_at, check_kernels}
use Rattle.maps.specs.CheckPyramid.{left_behind, table_at}
use Rattle.kernels.specs.Strings.{Linked}

-- base and marks as they are once 1 to 8 have passed, of a pyramid or of one with a level more
pub record Base (f : Folded) : Type 0 where
  pub dimension : f.n ≤ 4
  pub darts : f.N ≤ 4096
  pub height : f.h ≤ 33
  pub rows_long : length f.rows ≡ suc f.n * f.N
  pub lambda_long : length f.lambda ≡ f.N
  pub delta_long : length f.delta ≡ f.N
  pub valid : Valid (base f) f.n (λ d. d < f.N)
  pub allowed : (d : ℕ) → d < f.N → refused_marks f.n f.h (lambda_of f d) (delta_of f d) ≡ false

-- the verdict of kernel l, on its own level
abbrev pub kernel_of : Folded → ℕ → Verdict
kernel_of f = kernel_at (base f) f.n f.N f.h (lambda_of f) (delta_of f)

-- the verdict of all kernels, and what they leave in a table
abbrev pub climbs : Folded → Verdict
climbs f = check_kernels (base f) f.n f.N f.h (lambda_of f) (delta_of f)

abbrev pub climb_leaves : Folded → List ℕ
climb_leaves f = left_behind (table_at f f.h) (table_at f) f.rows (climbs f)

-- the same of kernels 0 to l−1 alone
abbrev pub climbs_to : Folded → ℕ → Verdict
climbs_to f l = scan l (kernel_of f)

abbrev pub climb_to_leaves : Folded → ℕ → List ℕ
climb_to_leaves f l = left_behind (table_at f l) (table_at f) f.rows (climbs_to f l)

-- kernels 0 to l−1 are accepted and removed: the table holds level l, and the darts are strung by kernel
pub record Climbed (f : Folded) (l : ℕ) (head next table : List ℕ) : Type 0 where
  pub base : Base f
  pub low : l ≤ f.h
  pub checked : climbs_to f l ≡ accepted
  pub holds : table ≡ table_at f l
  pub strung : Linked f.N (lambda_of f) 0 head next

-- the pyramid lent, over any base rows
abbrev pub over : Pyramid → List ℕ → Folded
over p rows = pyramid p.sizes rows p.lambda.now p.delta.now

-- the table holds a level that was climbed to from some base
abbrev pub GoesOn : Pyramid → ℕ → List ℕ → List ℕ → List ℕ → Type 0
GoesOn p from head next table = (rows : List ℕ) × Climbed (over p rows) from head next table

-- 9 and 10 of the kernels below a level, from whichever base the climb came
abbrev pub Reaches : Pyramid → ℕ → List ℕ → List ℕ → List ℕ → ℕ → Verdict → Type 0
Reaches p from head next table to v = (rows : List ℕ) → Climbed (over p rows) from head next table → v ≡ climbs_to (over p rows) to

-- and what they leave in the table
abbrev pub Leaves : Pyramid → ℕ → List ℕ → List ℕ → List ℕ → ℕ → List ℕ → Type 0
Leaves p from head next table to after = (rows : List ℕ) → Climbed (over p rows) from head next table → after ≡ climb_to_leaves (over p rows) to
