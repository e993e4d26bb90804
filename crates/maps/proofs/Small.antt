-- The small maps P1 to P10, small maps with contraction, a small record and a partner's map, by computation on the definitions. Assumes nothing.
use mathlib.Core.Path.{◌≡◌, refl}
use mathlib.Core.Bool.{true, false, ◌&&◌}
use mathlib.Core.List.{List, [], ◌∷◌}
use Prim.Native.Nat.{ℕ, zero, suc, ◌<◌}
use native.Mathlib.Omega.{arith}
use lib.Dec.{leb}
use lib.Ieee.{Float, binary64, div, of_int, round, of_bits}
use Rattle.maps.specs.Verdict.{Verdict, accepted, refused, scan}
use Rattle.maps.specs.Sizes.{number1, number2, number3, number4, sizes}
use Rattle.maps.specs.Count.{count, sum}
use Rattle.maps.specs.Mark.{is_mark, between, has_beyond, beyond, across}
use Rattle.maps.specs.Removal.{go_on, removal}
use Rattle.maps.specs.Table.{entry, each, listed, explicit}
use Rattle.maps.specs.Folded.{gone, marks, level, level_table, Folded}
use Rattle.maps.specs.Walk.{Walked, ended, stopped, walk_from, walk}
use Rattle.maps.specs.Trail.{since_of, largest, trail_from, trail, since, latest}
use Rattle.maps.specs.ByLevels.{read_base, over_level, read_level, by_levels}
use Rattle.maps.specs.Cost.{reads, cost}
use Rattle.maps.specs.Decimation.{decimation_lent, decimation_empty, decimation_factor}
use Rattle.maps.specs.Join.{join_lent, join_height, join_lambda}
use Rattle.maps.specs.Check.{at5, at6, at7, check5, check6, check7, check_map, at9, at10, check9, check10, check_kernel, at8, check8, kernel_at, check_kernels, check_pyramid}
use Rattle.maps.specs.CheckPyramid.{left_behind, check_lent, check_leaves}
use Rattle.maps.specs.Record.{wide, field, formed, record_rows, record_lambda, record_delta, record_lent, take_lent, take_rows, take_lambda, take_delta, take_table}
use Rattle.maps.specs.Partner.{Becomes, number2_m, outside, edges_back, had, number21, import_lent, export_lent}

-- a folded pyramid as it is lent: n, N, h, rows, Λ, Δ
abbrev pub verdict : Folded → Verdict
verdict p = check_pyramid (entry p.N p.rows) p.n p.N p.h (each p.lambda) (each p.delta)

-- a_i of dart d on level l, by the removals
abbrev pub neighbour : Folded → ℕ → ℕ → ℕ → ℕ
neighbour p l i d = level (entry p.N p.rows) p.n p.N (marks p.h (each p.lambda) (each p.delta)) l i d

-- the same by the direct walk and by levels
abbrev pub direct : Folded → ℕ → ℕ → ℕ → Walked
direct p l i d = walk (entry p.N p.rows) p.n p.N p.h (each p.lambda) (each p.delta) l i d

abbrev pub levelwise : Folded → ℕ → ℕ → ℕ → Walked
levelwise p l i d = by_levels (entry p.N p.rows) p.n p.N p.h (each p.lambda) (each p.delta) i d l

abbrev pub costs : Folded → ℕ → ℕ
costs p l = cost (entry p.N p.rows) p.n p.N p.h (each p.lambda) (each p.delta) l

abbrev pub table : Folded → ℕ → List ℕ
table p l = level_table (entry p.N p.rows) p.n p.N p.h (each p.lambda) (each p.delta) l

-- the rows that a direct walk reads, one after the other
unfoldable pub rows_read : Folded → ℕ → ℕ → ℕ → ℕ → List ℕ
rows_read p l zero t d = []
rows_read p l (suc k) t d = t ∷ elim (gone (each p.lambda) l (entry p.N p.rows t d)) [
  | true ↦ rows_read p l k (across (each p.delta (entry p.N p.rows t d)) t) (entry p.N p.rows t d)
  | false ↦ []
]

abbrev segment : List ℕ
segment = 1 ∷ 0 ∷ 0 ∷ 1 ∷ []

abbrev square : List ℕ
square = 1 ∷ 0 ∷ 3 ∷ 2 ∷ 5 ∷ 4 ∷ 7 ∷ 6 ∷ 7 ∷ 2 ∷ 1 ∷ 4 ∷ 3 ∷ 6 ∷ 5 ∷ 0 ∷ []

abbrev star_rows : List ℕ
star_rows = 6 ∷ 7 ∷ 8 ∷ 9 ∷ 10 ∷ 11 ∷ 0 ∷ 1 ∷ 2 ∷ 3 ∷ 4 ∷ 5 ∷ 5 ∷ 2 ∷ 1 ∷ 4 ∷ 3 ∷ 0 ∷ 7 ∷ 6 ∷ 9 ∷ 8 ∷ 11 ∷ 10 ∷ 1 ∷ 0 ∷ 3 ∷ 2 ∷ 5 ∷ 4 ∷ 7 ∷ 6 ∷ 9 ∷ 8 ∷ 11 ∷ 10 ∷ []

-- P1 Segment, vertex {1} removed
abbrev pub one : Folded
one = record { n = 1; N = 2; h = 1; rows = segment; lambda = 1 ∷ 0 ∷ []; delta = 1 ∷ 0 ∷ [] }

-- P2 Same, both vertices removed
abbrev pub both : Folded
both = record { n = 1; N = 2; h = 1; rows = segment; lambda = 0 ∷ 0 ∷ []; delta = 0 ∷ 0 ∷ [] }

-- P3 Square, {1,2} removed
abbrev pub corner : Folded
corner = record { n = 1; N = 8; h = 1; rows = square; lambda = 1 ∷ 0 ∷ 0 ∷ 1 ∷ 1 ∷ 1 ∷ 1 ∷ 1 ∷ []; delta = 1 ∷ 0 ∷ 0 ∷ 1 ∷ 1 ∷ 1 ∷ 1 ∷ 1 ∷ [] }

-- P4 then {3,4}
abbrev pub corners : Folded
corners = record { n = 1; N = 8; h = 2; rows = square; lambda = 2 ∷ 0 ∷ 0 ∷ 1 ∷ 1 ∷ 2 ∷ 2 ∷ 2 ∷ []; delta = 1 ∷ 0 ∷ 0 ∷ 0 ∷ 0 ∷ 1 ∷ 1 ∷ 1 ∷ [] }

-- P5 Square, only dart 1 marked
abbrev pub half : Folded
half = record { n = 1; N = 8; h = 1; rows = square; lambda = 1 ∷ 0 ∷ 1 ∷ 1 ∷ 1 ∷ 1 ∷ 1 ∷ 1 ∷ []; delta = 1 ∷ 0 ∷ 1 ∷ 1 ∷ 1 ∷ 1 ∷ 1 ∷ 1 ∷ [] }

-- P6 a vertex {0,1,2,3} with two edge sides by count
abbrev pub two_sides : Folded
two_sides = record {
  n = 2;
  N = 8;
  h = 1;
  rows = 4 ∷ 5 ∷ 6 ∷ 7 ∷ 0 ∷ 1 ∷ 2 ∷ 3 ∷ 2 ∷ 1 ∷ 0 ∷ 3 ∷ 4 ∷ 5 ∷ 6 ∷ 7 ∷ 1 ∷ 0 ∷ 3 ∷ 2 ∷ 5 ∷ 4 ∷ 7 ∷ 6 ∷ [];
  lambda = 0 ∷ 0 ∷ 0 ∷ 0 ∷ 1 ∷ 1 ∷ 1 ∷ 1 ∷ [];
  delta = 0 ∷ 0 ∷ 0 ∷ 0 ∷ 2 ∷ 2 ∷ 2 ∷ 2 ∷ [];
}

-- how many edge sides the vertices of kernel 0 have: a side is a dart of one and its a_2-neighbour
abbrev edge_sides : Folded → ℕ
edge_sides p = count (λ d. gone (each p.lambda) 1 d && leb d (entry p.N p.rows 2 d)) p.N

-- P7 a0 and a2 don't commute
abbrev pub apart : Folded
apart = record { n = 2; N = 4; h = 0; rows = 1 ∷ 0 ∷ 3 ∷ 2 ∷ 0 ∷ 1 ∷ 2 ∷ 3 ∷ 2 ∷ 1 ∷ 0 ∷ 3 ∷ []; lambda = 0 ∷ 0 ∷ 0 ∷ 0 ∷ []; delta = 2 ∷ 2 ∷ 2 ∷ 2 ∷ [] }

-- P8 Star, edge {2,3,8,9} removed; P9 then vertex {0,1,4,5}
abbrev pub star : Folded
star = record { n = 2; N = 12; h = 2; rows = star_rows; lambda = 1 ∷ 1 ∷ 0 ∷ 0 ∷ 1 ∷ 1 ∷ 2 ∷ 2 ∷ 0 ∷ 0 ∷ 2 ∷ 2 ∷ []; delta = 0 ∷ 0 ∷ 1 ∷ 1 ∷ 0 ∷ 0 ∷ 2 ∷ 2 ∷ 1 ∷ 1 ∷ 2 ∷ 2 ∷ [] }

-- P10 Star, vertex {0..5} in kernel 0
abbrev pub hub : Folded
hub = record { n = 2; N = 12; h = 1; rows = star_rows; lambda = 0 ∷ 0 ∷ 0 ∷ 0 ∷ 0 ∷ 0 ∷ 1 ∷ 1 ∷ 1 ∷ 1 ∷ 1 ∷ 1 ∷ []; delta = 0 ∷ 0 ∷ 0 ∷ 0 ∷ 0 ∷ 0 ∷ 2 ∷ 2 ∷ 2 ∷ 2 ∷ 2 ∷ 2 ∷ [] }

-- a vertex {0..5}, of which 0, 1 and 2 pass the test and 3 doesn't
abbrev pub later : Folded
later = record {
  n = 3;
  N = 6;
  h = 1;
  rows = 0 ∷ 1 ∷ 2 ∷ 3 ∷ 4 ∷ 5 ∷ 1 ∷ 0 ∷ 2 ∷ 4 ∷ 3 ∷ 5 ∷ 0 ∷ 1 ∷ 2 ∷ 3 ∷ 5 ∷ 4 ∷ 3 ∷ 4 ∷ 5 ∷ 0 ∷ 1 ∷ 2 ∷ [];
  lambda = 0 ∷ 0 ∷ 0 ∷ 0 ∷ 0 ∷ 0 ∷ [];
  delta = 0 ∷ 0 ∷ 0 ∷ 0 ∷ 0 ∷ 0 ∷ [];
}

pub record SmallMaps : Type 0 where
  pub p1 : (verdict one ≡ accepted) × (neighbour one 1 0 0 ≡ 0) × (direct one 1 0 0 ≡ ended 0 0 3) × (costs one 1 ≡ 4)
  pub p2 : (verdict both ≡ accepted) × (table both 1 ≡ 65535 ∷ 65535 ∷ 65535 ∷ 65535 ∷ []) × (costs both 1 ≡ 0)
  pub p3 : (verdict corners ≡ accepted) × (neighbour corners 1 0 0 ≡ 3) × (neighbour corners 1 0 3 ≡ 0) × (direct corners 1 0 0 ≡ ended 0 3 3) × (direct corners 1 0 3 ≡ ended 0 0 3) × (costs corners 1 ≡ 16) × (verdict corner ≡ accepted) × (neighbour corner 1 0 0 ≡ 3) × (neighbour corner 1 0 3 ≡ 0) × (direct corner 1 0 0 ≡ ended 0 3 3) × (direct corner 1 0 3 ≡ ended 0 0 3) × (costs corner 1 ≡ 16)
  pub p4 : (neighbour corners 2 0 0 ≡ 5) × (neighbour corners 2 0 5 ≡ 0) × (direct corners 2 0 0 ≡ ended 0 5 5) × (direct corners 2 0 5 ≡ ended 0 0 5) × (costs corners 2 ≡ 16)
  pub p5 : verdict half ≡ refused 9 0 1 1
  pub p6 : (edge_sides two_sides ≡ 2) × (verdict two_sides ≡ refused 10 0 1 0)
  pub p7 : verdict apart ≡ refused 7 0 0 0
  pub p8 : (neighbour star 1 1 1 ≡ 4) × (neighbour star 1 1 4 ≡ 1)
  pub p9 : (verdict star ≡ accepted) × (neighbour star 2 0 7 ≡ 10) × (direct star 2 0 7 ≡ ended 0 10 5) × (levelwise star 2 0 7 ≡ ended 0 10 5) × (rows_read star 2 5 0 7 ≡ 0 ∷ 1 ∷ 2 ∷ 1 ∷ 0 ∷ []) × (costs star 0 ≡ 36) × (costs star 1 ≡ 28) × (costs star 2 ≡ 24)
  pub p10 : verdict hub ≡ refused 10 0 1 0

pub small_maps : SmallMaps
unfolding is_mark between has_beyond beyond scan count sum go_on removal listed explicit level walk_from walk read_base over_level read_level by_levels reads cost at5 at6 at7 check5 check6 check7 check_map at9 at10 check9 check10 check_kernel at8 check8 kernel_at check_kernels check_pyramid rows_read
small_maps = record {
  p1 = (refl, refl, refl, refl);
  p2 = (refl, refl, refl);
  p3 = (refl, refl, refl, refl, refl, refl, refl, refl, refl, refl, refl, refl);
  p4 = (refl, refl, refl, refl, refl);
  p5 = refl;
  p6 = (refl, refl);
  p7 = refl;
  p8 = (refl, refl);
  p9 = (refl, refl, refl, refl, refl, refl, refl, refl);
  p10 = refl;
}

-- ---- since which level a link stands

abbrev sinces : Folded → ℕ → ℕ → ℕ → ℕ
sinces p l i b = since (entry p.N p.rows) p.N (each p.lambda) (each p.delta) l i b

abbrev latests : Folded → ℕ → ℕ
latests p l = latest (entry p.N p.rows) p.N (each p.lambda) (each p.delta) l p.n

pub record SmallLinks : Type 0 where
  -- on the segment the link of 0 to itself stands since its vertex was removed; an empty level has no link
  pub segment_links : (sinces one 0 0 0 ≡ 0) × (sinces one 1 0 0 ≡ 1) × (latests both 1 ≡ 0)
  -- the square's corners go one after the other; the links that pass none of them stand since the base
  pub corner_links : (sinces corners 1 0 0 ≡ 1) × (sinces corners 2 0 0 ≡ 2) × (sinces corners 2 0 5 ≡ 2) × (sinces corners 2 0 6 ≡ 0)
  -- the star's fourth column; a0 of 7 on level 2 passes 1, 2, 3, 4, of the kernels 1, 0, 0, 1, and a0 of 10 passes them in the reverse order
  pub star_links : (latests star 0 ≡ 0) × (latests star 1 ≡ 1) × (latests star 2 ≡ 2) × (sinces star 2 0 7 ≡ 2)
  pub star_trails : (trail (entry 12 star_rows) 12 (each star.lambda) (each star.delta) 2 0 7 ≡ 1 ∷ 2 ∷ 3 ∷ 4 ∷ []) × (trail (entry 12 star_rows) 12 (each star.lambda) (each star.delta) 2 0 10 ≡ 4 ∷ 3 ∷ 2 ∷ 1 ∷ [])

pub small_links : SmallLinks
unfolding between since_of largest trail_from trail since latest
small_links = record {
  segment_links = (refl, refl, refl);
  corner_links = (refl, refl, refl, refl);
  star_links = (refl, refl, refl, refl);
  star_trails = (refl, refl);
}

-- ---- how fast it shrinks: what is asked of a level, the rows lent as the table

abbrev asked : Folded → ℕ → Verdict
asked p l = decimation_lent p p.rows l

abbrev is_empty : Folded → ℕ → ℕ
is_empty p l = decimation_empty p p.rows l

abbrev factor : Folded → ℕ → Float
factor p l = decimation_factor p p.rows l

pub record SmallFactors : Type 0 where
  -- the star has 12, 8 and 4 survivors: 1.5, then 2, by their bits
  pub star_factors : (factor star 0 ≡ of_bits binary64 0x3ff8000000000000) × (factor star 1 ≡ of_bits binary64 0x4000000000000000) × (is_empty star 0 ≡ 0) × (asked star 2 ≡ refused 11 2 0 0)
  -- the segment without its vertices has no dart: no factor
  pub segment_empty : (asked both 0 ≡ accepted) × (is_empty both 0 ≡ 1) × (factor both 0 ≡ of_bits binary64 0)

pub small_factors : SmallFactors
unfolding is_mark between has_beyond beyond scan count go_on removal level at5 at6 at7 check5 check6 check7 check_map at9 at10 check9 check10 check_kernel at8 check8 kernel_at check_kernels check_pyramid number1 number2 number3 sizes number4 check_lent decimation_lent decimation_empty decimation_factor div of_int round of_bits
small_factors = record {
  star_factors = (refl, refl, refl, refl);
  segment_empty = (refl, refl, refl);
}

-- ---- kernels joined: what is asked of a level, the rows lent as the table

abbrev joining : Folded → ℕ → Verdict
joining p l = join_lent p p.rows l

abbrev height : Folded → ℕ → ℕ
height p l = join_height p p.rows l

abbrev lambdas : Folded → ℕ → List ℕ
lambdas p l = join_lambda p p.rows l

pub record SmallJoins : Type 0 where
  -- the square's two corners become one kernel
  pub corners_one : (joining corners 0 ≡ accepted) × (height corners 0 ≡ 1) × (lambdas corners 0 ≡ 1 ∷ 0 ∷ 0 ∷ 0 ∷ 0 ∷ 1 ∷ 1 ∷ 1 ∷ [])
  -- the star's vertex {0,1,4,5} is a cell only when the edge is gone; above level 0 there are no two kernels
  pub star_two : (joining star 0 ≡ refused 9 0 1 1) × (joining star 1 ≡ refused 11 1 0 0) × (height star 0 ≡ 2) × (lambdas star 0 ≡ star.lambda)

pub small_joins : SmallJoins
unfolding is_mark between has_beyond beyond scan go_on removal listed level at5 at6 at7 check5 check6 check7 check_map at9 at10 check9 check10 check_kernel at8 check8 kernel_at check_kernels check_pyramid number1 number2 number3 sizes number4 check_lent join_lent join_height join_lambda
small_joins = record {
  corners_one = (refl, refl, refl);
  star_two = (refl, refl, refl, refl);
}

-- ---- contraction

-- segment, its edge contracted
abbrev pub shrunk : Folded
shrunk = record { n = 1; N = 2; h = 1; rows = segment; lambda = 0 ∷ 0 ∷ []; delta = 9 ∷ 9 ∷ [] }

-- square, edge {0,1} contracted
abbrev pub shorter : Folded
shorter = record { n = 1; N = 8; h = 1; rows = square; lambda = 0 ∷ 0 ∷ 1 ∷ 1 ∷ 1 ∷ 1 ∷ 1 ∷ 1 ∷ []; delta = 9 ∷ 9 ∷ 1 ∷ 1 ∷ 1 ∷ 1 ∷ 1 ∷ 1 ∷ [] }

-- square, vertex {1,2} removed, then edge {0,3} contracted
abbrev pub in_turn : Folded
in_turn = record { n = 1; N = 8; h = 2; rows = square; lambda = 1 ∷ 0 ∷ 0 ∷ 1 ∷ 2 ∷ 2 ∷ 2 ∷ 2 ∷ []; delta = 9 ∷ 0 ∷ 0 ∷ 9 ∷ 1 ∷ 1 ∷ 1 ∷ 1 ∷ [] }

-- one kernel: edge {1,2} removed, edge {3,4} contracted; a1 joins 0 and 1, 2 and 3, 4 and 5
abbrev pub mixed : Folded
mixed = record {
  n = 2;
  N = 6;
  h = 1;
  rows = 0 ∷ 1 ∷ 2 ∷ 4 ∷ 3 ∷ 5 ∷ 1 ∷ 0 ∷ 3 ∷ 2 ∷ 5 ∷ 4 ∷ 0 ∷ 2 ∷ 1 ∷ 3 ∷ 4 ∷ 5 ∷ [];
  lambda = 1 ∷ 0 ∷ 0 ∷ 0 ∷ 0 ∷ 1 ∷ [];
  delta = 2 ∷ 1 ∷ 1 ∷ 9 ∷ 9 ∷ 2 ∷ [];
}

-- the rows of P6 in the other order, and its vertex as a face to be contracted
abbrev pub two_sides_dual : Folded
two_sides_dual = record {
  n = 2;
  N = 8;
  h = 1;
  rows = 1 ∷ 0 ∷ 3 ∷ 2 ∷ 5 ∷ 4 ∷ 7 ∷ 6 ∷ 2 ∷ 1 ∷ 0 ∷ 3 ∷ 4 ∷ 5 ∷ 6 ∷ 7 ∷ 4 ∷ 5 ∷ 6 ∷ 7 ∷ 0 ∷ 1 ∷ 2 ∷ 3 ∷ [];
  lambda = 0 ∷ 0 ∷ 0 ∷ 0 ∷ 1 ∷ 1 ∷ 1 ∷ 1 ∷ [];
  delta = 10 ∷ 10 ∷ 10 ∷ 10 ∷ 2 ∷ 2 ∷ 2 ∷ 2 ∷ [];
}

-- the star's rows in the other order: edge {2,3,8,9} contracted, then face {0,1,4,5}
abbrev pub star_dual : Folded
star_dual = record {
  n = 2;
  N = 12;
  h = 2;
  rows = 1 ∷ 0 ∷ 3 ∷ 2 ∷ 5 ∷ 4 ∷ 7 ∷ 6 ∷ 9 ∷ 8 ∷ 11 ∷ 10 ∷ 5 ∷ 2 ∷ 1 ∷ 4 ∷ 3 ∷ 0 ∷ 7 ∷ 6 ∷ 9 ∷ 8 ∷ 11 ∷ 10 ∷ 6 ∷ 7 ∷ 8 ∷ 9 ∷ 10 ∷ 11 ∷ 0 ∷ 1 ∷ 2 ∷ 3 ∷ 4 ∷ 5 ∷ [];
  lambda = 1 ∷ 1 ∷ 0 ∷ 0 ∷ 1 ∷ 1 ∷ 2 ∷ 2 ∷ 0 ∷ 0 ∷ 2 ∷ 2 ∷ [];
  delta = 10 ∷ 10 ∷ 9 ∷ 9 ∷ 10 ∷ 10 ∷ 2 ∷ 2 ∷ 9 ∷ 9 ∷ 2 ∷ 2 ∷ [];
}

-- an edge {0,1}, half of it marked to be removed and half to be contracted
abbrev pub torn : Folded
torn = record { n = 2; N = 2; h = 1; rows = 1 ∷ 0 ∷ 0 ∷ 1 ∷ 0 ∷ 1 ∷ []; lambda = 0 ∷ 0 ∷ []; delta = 1 ∷ 9 ∷ [] }

-- unchecked: of two a2-neighbours 1 and 2 one is removed and one contracted
abbrev pub unlike : Folded
unlike = record {
  n = 2;
  N = 4;
  h = 1;
  rows = 0 ∷ 1 ∷ 2 ∷ 3 ∷ 1 ∷ 0 ∷ 3 ∷ 2 ∷ 0 ∷ 2 ∷ 1 ∷ 3 ∷ [];
  lambda = 1 ∷ 0 ∷ 0 ∷ 1 ∷ [];
  delta = 2 ∷ 1 ∷ 9 ∷ 2 ∷ [];
}

-- the bytes n to 8 and 9+n to 254 are no marks
abbrev pub too_high : ℕ → Folded
too_high mark = record { n = 1; N = 2; h = 1; rows = segment; lambda = 0 ∷ 0 ∷ []; delta = mark ∷ mark ∷ [] }

pub record SmallContractions : Type 0 where
  pub c1 : (verdict shrunk ≡ accepted) × (table shrunk 1 ≡ 65535 ∷ 65535 ∷ 65535 ∷ 65535 ∷ []) × (costs shrunk 1 ≡ 0)
  pub c2 : (verdict shorter ≡ accepted) × (neighbour shorter 1 1 7 ≡ 2) × (neighbour shorter 1 1 2 ≡ 7) × (direct shorter 1 1 7 ≡ ended 1 2 3) × (direct shorter 1 1 2 ≡ ended 1 7 3) × (costs shorter 1 ≡ 16)
  pub c3 : (verdict in_turn ≡ accepted) × (neighbour in_turn 2 1 7 ≡ 4) × (direct in_turn 2 1 7 ≡ ended 1 4 5) × (levelwise in_turn 2 1 7 ≡ ended 1 4 5) × (rows_read in_turn 2 5 1 7 ≡ 1 ∷ 0 ∷ 1 ∷ 0 ∷ 1 ∷ [])
  pub c4 : (verdict mixed ≡ accepted) × (neighbour mixed 1 1 0 ≡ 5) × (direct mixed 1 1 0 ≡ ended 1 5 5) × (levelwise mixed 1 1 0 ≡ ended 1 5 5) × (rows_read mixed 1 5 1 0 ≡ 1 ∷ 2 ∷ 1 ∷ 0 ∷ 1 ∷ []) × (costs mixed 1 ≡ 14)
  pub c5 : verdict two_sides_dual ≡ refused 10 0 1 0
  pub c6 : (verdict star_dual ≡ accepted) × (neighbour star_dual 1 1 1 ≡ 4) × (neighbour star_dual 2 2 7 ≡ 10) × (direct star_dual 2 2 7 ≡ ended 2 10 5) × (levelwise star_dual 2 2 7 ≡ ended 2 10 5) × (rows_read star_dual 2 5 2 7 ≡ 2 ∷ 1 ∷ 0 ∷ 1 ∷ 2 ∷ []) × (costs star_dual 0 ≡ 36) × (costs star_dual 1 ≡ 28) × (costs star_dual 2 ≡ 24)
  pub c7 : verdict torn ≡ refused 9 0 0 0
  pub c8 : (verdict unlike ≡ refused 9 0 2 1) × (direct unlike 1 1 0 ≡ stopped 14 2 2) × (levelwise unlike 1 1 0 ≡ stopped 14 2 2)
  pub c9 : (verdict (too_high 1) ≡ refused 8 0 0 0) × (verdict (too_high 8) ≡ refused 8 0 0 0) × (verdict (too_high 10) ≡ refused 8 0 0 0) × (verdict (too_high 255) ≡ refused 8 0 0 0)

pub small_contractions : SmallContractions
unfolding is_mark between has_beyond beyond scan count sum go_on removal listed explicit level walk_from walk read_base over_level read_level by_levels reads cost at5 at6 at7 check5 check6 check7 check_map at9 at10 check9 check10 check_kernel at8 check8 kernel_at check_kernels check_pyramid rows_read
small_contractions = record {
  c1 = (refl, refl, refl);
  c2 = (refl, refl, refl, refl, refl, refl);
  c3 = (refl, refl, refl, refl, refl);
  c4 = (refl, refl, refl, refl, refl, refl);
  c5 = refl;
  c6 = (refl, refl, refl, refl, refl, refl, refl, refl, refl);
  c7 = refl;
  c8 = (refl, refl, refl);
  c9 = (refl, refl, refl, refl);
}

-- the record of the segment, half of its edge marked to be contracted
abbrev pub half_edge : List ℕ
half_edge = 0x01 ∷ 4 ∷ 0 ∷ 1 ∷ 1 ∷ 2 ∷ 0 ∷ 0x10 ∷ 4 ∷ 0 ∷ 1 ∷ 0 ∷ 0 ∷ 0 ∷ 0x11 ∷ 4 ∷ 0 ∷ 0 ∷ 0 ∷ 1 ∷ 0 ∷ 0x30 ∷ 2 ∷ 0 ∷ 0 ∷ 1 ∷ 0x31 ∷ 2 ∷ 0 ∷ 9 ∷ 1 ∷ []

-- a lent slice that holds 7
abbrev pub sevens : ℕ → List ℕ
sevens m = listed (λ _. 7) m

-- taken into slices of sevens, each longer by one entry than the record needs: refused 9, the record in the rows and marks, level 0 in the table
pub record SmallRecord : Type 0 where
  pub refuses : take_lent half_edge wide (sevens 5) (sevens 3) (sevens 3) (sevens 5) ≡ refused 9 0 0 0
  pub rows_left : take_rows half_edge wide (sevens 5) (sevens 3) (sevens 3) (sevens 5) ≡ 1 ∷ 0 ∷ 0 ∷ 1 ∷ 7 ∷ []
  pub lambda_left : take_lambda half_edge wide (sevens 5) (sevens 3) (sevens 3) (sevens 5) ≡ 0 ∷ 1 ∷ 7 ∷ []
  pub delta_left : take_delta half_edge wide (sevens 5) (sevens 3) (sevens 3) (sevens 5) ≡ 9 ∷ 1 ∷ 7 ∷ []
  pub table_left : take_table half_edge wide (sevens 5) (sevens 3) (sevens 3) (sevens 5) ≡ 1 ∷ 0 ∷ 0 ∷ 1 ∷ 7 ∷ []

pub small_record : SmallRecord
unfolding is_mark between has_beyond beyond scan count sum go_on removal listed explicit level at5 at6 at7 check5 check6 check7 check_map at9 at10 check9 check10 check_kernel at8 check8 kernel_at check_kernels check_pyramid number1 number2 number3 number4 sizes left_behind check_lent check_leaves field formed record_rows record_lambda record_delta record_lent take_lent take_rows take_lambda take_delta take_table
small_record = record { refuses = refl; rows_left = refl; lambda_left = refl; delta_left = refl; table_left = refl }

-- ---- a partner's map

-- three edges {0,1}, {2,3}, {4,5} that start at one vertex, around which 0, 2 and 4 follow each other
abbrev partner_edges : List ℕ
partner_edges = 1 ∷ 0 ∷ 3 ∷ 2 ∷ 5 ∷ 4 ∷ []

abbrev partner_vertices : List ℕ
partner_vertices = 2 ∷ 1 ∷ 4 ∷ 3 ∷ 0 ∷ 5 ∷ []

-- it becomes a star, as that of P8 with other numbers
abbrev pub partner_base : List ℕ
partner_base = 3 ∷ 2 ∷ 1 ∷ 0 ∷ 7 ∷ 6 ∷ 5 ∷ 4 ∷ 11 ∷ 10 ∷ 9 ∷ 8 ∷ 9 ∷ 4 ∷ 3 ∷ 2 ∷ 1 ∷ 8 ∷ 7 ∷ 6 ∷ 5 ∷ 0 ∷ 11 ∷ 10 ∷ 1 ∷ 0 ∷ 3 ∷ 2 ∷ 5 ∷ 4 ∷ 7 ∷ 6 ∷ 9 ∷ 8 ∷ 11 ∷ 10 ∷ []

-- what holds of 0 to 5 holds below 6
below_six : (P : ℕ → Type 0) → P 0 → P 1 → P 2 → P 3 → P 4 → P 5 → (d : ℕ) → d < 6 → P d
below_six P p0 p1 p2 p3 p4 p5 zero l = p0
below_six P p0 p1 p2 p3 p4 p5 (suc zero) l = p1
below_six P p0 p1 p2 p3 p4 p5 (suc (suc zero)) l = p2
below_six P p0 p1 p2 p3 p4 p5 (suc (suc (suc zero))) l = p3
below_six P p0 p1 p2 p3 p4 p5 (suc (suc (suc (suc zero)))) l = p4
below_six P p0 p1 p2 p3 p4 p5 (suc (suc (suc (suc (suc zero))))) l = p5
below_six P p0 p1 p2 p3 p4 p5 (suc (suc (suc (suc (suc (suc d)))))) l = absurd (omega arith)

pub record SmallPartner : Type 0 where
  pub taken : import_lent 6 partner_edges partner_vertices partner_base ≡ accepted
  pub becomes : Becomes 6 (each partner_edges) (each partner_vertices) (entry 12 partner_base)
  pub back : export_lent 2 12 partner_base partner_edges partner_vertices ≡ accepted
  -- an entry too large, of the edge row before one of the vertex row; an edge that doesn't lead back; 5 has the image that 2 had
  pub stray_edge : import_lent 6 (1 ∷ 6 ∷ 3 ∷ 2 ∷ 5 ∷ 4 ∷ []) (6 ∷ 1 ∷ 4 ∷ 3 ∷ 0 ∷ 5 ∷ []) partner_base ≡ refused 5 0 0 1
  pub stray_vertex : import_lent 6 (1 ∷ 1 ∷ 3 ∷ 2 ∷ 5 ∷ 4 ∷ []) (2 ∷ 1 ∷ 6 ∷ 3 ∷ 0 ∷ 5 ∷ []) partner_base ≡ refused 5 0 1 2
  pub not_back : import_lent 6 (1 ∷ 1 ∷ 3 ∷ 2 ∷ 5 ∷ 4 ∷ []) (2 ∷ 1 ∷ 4 ∷ 3 ∷ 0 ∷ 4 ∷ []) partner_base ≡ refused 6 0 0 0
  pub two_to_one : import_lent 6 partner_edges (2 ∷ 1 ∷ 4 ∷ 3 ∷ 0 ∷ 4 ∷ []) partner_base ≡ refused 21 0 1 5

pub small_partner : SmallPartner
unfolding scan at5 at6 at7 check5 check6 check7 check_map number2 number4 number2_m outside edges_back had number21 import_lent export_lent
small_partner = record {
  taken = refl;
  becomes = record {
    a2 = below_six _ (refl, refl) (refl, refl) (refl, refl) (refl, refl) (refl, refl) (refl, refl);
    a1 = below_six _ (refl, refl) (refl, refl) (refl, refl) (refl, refl) (refl, refl) (refl, refl);
    a0 = below_six _ (refl, refl) (refl, refl) (refl, refl) (refl, refl) (refl, refl) (refl, refl);
  };
  back = refl;
  stray_edge = refl;
  stray_vertex = refl;
  not_back = refl;
  two_to_one = refl;
}
