-- Every job's definition on the small maps, accepted and refused, by computation: what is answered, and what is left in everything lent. Assumes nothing.
use mathlib.Core.Path.{◌≡◌, refl}
use mathlib.Core.List.{List, [], ◌∷◌, ◌++◌}
use Prim.Native.Nat.{ℕ, ◌+◌, ◌*◌}
use lib.Count.{ones_in, ones}
use lib.Ieee.{binary64, div, of_int, round, of_bits}
use lib.IntN.{pos}
use lib.ListN.{replicate, take}
use Rattle.maps.specs.Verdict.{Verdict, accepted, refused, scan}
use Rattle.maps.specs.Map.{Involutions}
use Rattle.maps.specs.Count.{count, sum}
use Rattle.maps.specs.Mark.{is_mark, between, has_beyond, beyond}
use Rattle.maps.specs.Removal.{go_on, removal}
use Rattle.maps.specs.Sizes.{number1, number2, number3, number4, number11, number13, sizes}
use Rattle.maps.specs.Table.{each, listed, explicit}
use Rattle.maps.specs.Folded.{marks, foldΛ, foldΔ, level, Folded}
use Rattle.maps.specs.Walk.{walk_from, walk}
use Rattle.maps.specs.Trail.{since_of, largest, trail_from, trail, since, latest}
use Rattle.maps.specs.ByLevels.{read_base, over_level, read_level, by_levels}
use Rattle.maps.specs.Cost.{reads, cost}
use Rattle.maps.specs.Check.{at5, at6, at7, check5, check6, check7, check_map, at9, at10, check9, check10, check_kernel, at8, check8, kernel_at, check_kernels, check_pyramid}
use Rattle.maps.specs.CheckBase.{check_base, check_explicit}
use Rattle.maps.specs.CheckPyramid.{left_behind, check_lent, check_leaves, check_with, check_with_leaves}
use Rattle.maps.specs.AddLevel.{at_row8, number20, add_lent, add_height, add_lambda, add_delta, add_leaves}
use Rattle.maps.specs.MarksBack.{at_marks8, marks_lent, marks_leaves}
use Rattle.maps.specs.Read.{found, none, question, read_lent, read_since, read_lent_by_levels}
use Rattle.maps.specs.Unfold.{at_walk, unfold_lent, unfold_total, unfold_since, unfold_leaves}
use Rattle.maps.specs.UnfoldAll.{stacked, by_level, blocks_left, unfold_all_lent, unfold_all_tables, unfold_all_counts, unfold_all_since}
use Rattle.maps.specs.Row.{row_lent, row_part}
use Rattle.maps.specs.Survivors.{at_lambda8, survivors_lent, word, survivor_words, survivor_count}
use Rattle.maps.specs.MarkCells.{mark_lent}
use Rattle.maps.specs.Record.{wide, either, field, formed, record_rows, record_lambda, record_delta, record_lent, take_lent, take_rows, take_lambda, take_delta, take_table}
use Rattle.maps.specs.Write.{field_written, in_two_bytes, row_of, rows_written, written, write_lent, write_length, write_table, write_leaves}
use Rattle.maps.specs.Convert.{convert_lent, convert_length, convert_leaves}
use Rattle.maps.specs.Decimation.{decimation_lent, decimation_empty, decimation_factor, decimation_table}
use Rattle.maps.specs.Census.{census_lent, census_table}
use Rattle.maps.specs.Join.{join_lent, join_height, join_lambda, join_leaves}
use Rattle.maps.specs.NewBase.{kth}
use Rattle.maps.specs.Rebase.{packed, rebase_lent, rebase_darts, rebase_height, rebase_rows, rebase_lambda, rebase_delta, rebase_old, rebase_table}
use Rattle.maps.specs.Regions.{regions_lent, regions_table}
use Rattle.maps.specs.Partner.{number2_m, outside, edges_back, had, number21, import_lent, export_lent}
use Rattle.maps.proofs.Small.{one, both, corner, corners, two_sides, apart, star, shorter, unlike, too_high, later, sevens}

-- ---- what is lent

-- a row or table of absent darts
abbrev absents : ℕ → List ℕ
absents m = listed (λ x. 65535) m

-- the darts of the corner's square that {1,2} leaves, and those that {3,4} then leaves: levels 1 and 2 of the corners
abbrev corner_table : List ℕ
corner_table = 3 ∷ 65535 ∷ 65535 ∷ 0 ∷ 5 ∷ 4 ∷ 7 ∷ 6 ∷ 7 ∷ 65535 ∷ 65535 ∷ 4 ∷ 3 ∷ 6 ∷ 5 ∷ 0 ∷ []

abbrev corners_table : List ℕ
corners_table = 5 ∷ 65535 ∷ 65535 ∷ 65535 ∷ 65535 ∷ 0 ∷ 7 ∷ 6 ∷ 7 ∷ 65535 ∷ 65535 ∷ 65535 ∷ 65535 ∷ 6 ∷ 5 ∷ 0 ∷ []

-- level 1 of P1
abbrev one_table : List ℕ
one_table = 0 ∷ 65535 ∷ 0 ∷ 65535 ∷ []

-- the corner, and dart 3 alone in kernel 1
abbrev half_above : Folded
half_above = record { n = 1; N = 8; h = 2; rows = corners.rows; lambda = 2 ∷ 0 ∷ 0 ∷ 1 ∷ 2 ∷ 2 ∷ 2 ∷ 2 ∷ []; delta = 1 ∷ 0 ∷ 0 ∷ 0 ∷ 1 ∷ 1 ∷ 1 ∷ 1 ∷ [] }

-- the segment with so many levels, no dart of it removed
abbrev tall : ℕ → Folded
tall h = record { n = 1; N = 2; h = h; rows = one.rows; lambda = h ∷ h ∷ []; delta = 1 ∷ 1 ∷ [] }

-- 'Unchecked reading': a_0 of both darts is 1, which is removed, so that a walk from 0 never ends
abbrev endless : Folded
endless = record { n = 1; N = 2; h = 1; rows = 1 ∷ 1 ∷ 0 ∷ 1 ∷ []; lambda = 1 ∷ 0 ∷ []; delta = 1 ∷ 0 ∷ [] }

-- unchecked: a_0 of dart 0 is no dart
abbrev astray : Folded
astray = record { n = 1; N = 2; h = 1; rows = 2 ∷ 0 ∷ 0 ∷ 1 ∷ []; lambda = 1 ∷ 1 ∷ []; delta = 1 ∷ 1 ∷ [] }

-- unchecked: dart 1, which a_0 leads to, has a mark that is none
abbrev unmarked : Folded
unmarked = record { n = 1; N = 2; h = 1; rows = one.rows; lambda = 1 ∷ 0 ∷ []; delta = 1 ∷ 8 ∷ [] }

-- the record of P1
abbrev bytes : List ℕ
bytes = 0x01 ∷ 4 ∷ 0 ∷ 1 ∷ 1 ∷ 2 ∷ 0 ∷ 0x10 ∷ 4 ∷ 0 ∷ 1 ∷ 0 ∷ 0 ∷ 0 ∷ 0x11 ∷ 4 ∷ 0 ∷ 0 ∷ 0 ∷ 1 ∷ 0 ∷ 0x30 ∷ 2 ∷ 0 ∷ 1 ∷ 0 ∷ 0x31 ∷ 2 ∷ 0 ∷ 1 ∷ 0 ∷ []

-- that of the segment with two levels and every dart kept: n, h and N are 1, 2 and 2
abbrev tall_bytes : List ℕ
tall_bytes = 0x01 ∷ 4 ∷ 0 ∷ 1 ∷ 2 ∷ 2 ∷ 0 ∷ 0x10 ∷ 4 ∷ 0 ∷ 1 ∷ 0 ∷ 0 ∷ 0 ∷ 0x11 ∷ 4 ∷ 0 ∷ 0 ∷ 0 ∷ 1 ∷ 0 ∷ 0x30 ∷ 2 ∷ 0 ∷ 2 ∷ 2 ∷ 0x31 ∷ 2 ∷ 0 ∷ 1 ∷ 1 ∷ []

-- an old one of P1, with rows of one byte an entry
abbrev old_bytes : List ℕ
old_bytes = 0x01 ∷ 4 ∷ 0 ∷ 1 ∷ 1 ∷ 2 ∷ 0 ∷ 0x20 ∷ 2 ∷ 0 ∷ 1 ∷ 0 ∷ 0x21 ∷ 2 ∷ 0 ∷ 0 ∷ 1 ∷ 0x30 ∷ 2 ∷ 0 ∷ 1 ∷ 0 ∷ 0x31 ∷ 2 ∷ 0 ∷ 1 ∷ 0 ∷ []

-- taken into slices that fit
abbrev taking : List ℕ → Verdict
taking record-bytes = take_lent record-bytes wide (sevens 4) (sevens 2) (sevens 2) (sevens 4)

-- converted into a buffer of so many sevens
abbrev converting : List ℕ → ℕ → Verdict
converting record-bytes m = convert_lent record-bytes (sevens 4) (sevens 2) (sevens 2) (sevens 4) (sevens m)

-- a census with lent slices of so many entries and sums
abbrev counting : Folded → ℕ → ℕ → ℕ → Verdict
counting p m cells sums = census_lent p (sevens m) (sevens cells) (replicate sums (pos 0))

-- marks read back of the segment, where dart 1 has a mark that is none
abbrev broken_marks : ℕ → Verdict
broken_marks l = marks_lent 1 2 1 (0 ∷ 0 ∷ []) (0 ∷ 8 ∷ []) l (sevens 2)

-- a mark row of the corner that marks {3,4}, one that marks 3 alone, one that marks a dart that is gone, one with a byte that is no mark
abbrev next_row : List ℕ
next_row = 255 ∷ 255 ∷ 255 ∷ 0 ∷ 0 ∷ 255 ∷ 255 ∷ 255 ∷ []

abbrev half_row : List ℕ
half_row = 255 ∷ 255 ∷ 255 ∷ 0 ∷ 255 ∷ 255 ∷ 255 ∷ 255 ∷ []

abbrev gone_row : List ℕ
gone_row = 255 ∷ 0 ∷ 255 ∷ 255 ∷ 255 ∷ 255 ∷ 255 ∷ 255 ∷ []

abbrev no_row : List ℕ
no_row = 255 ∷ 255 ∷ 255 ∷ 1 ∷ 255 ∷ 255 ∷ 255 ∷ 255 ∷ []

pub record SmallJobs : Type 0 where
  -- check a base, and an explicit level: the square; P7; an entry that is no dart, one that doesn't lead back, a row too short; n, N
  pub check_base_lem :
      (check_base 1 8 corners.rows ≡ accepted) × (check_base 2 4 apart.rows ≡ refused 7 0 0 0) × (check_base 1 2 (1 ∷ 2 ∷ 0 ∷ 1 ∷ []) ≡ refused 5 0 0 1)
      × (check_base 1 2 (1 ∷ 1 ∷ 0 ∷ 1 ∷ []) ≡ refused 6 0 0 0) × (check_base 1 2 (1 ∷ 0 ∷ 0 ∷ []) ≡ refused 4 0 0 0)
      × (check_base 0 1 [] ≡ refused 1 0 0 0) × (check_base 5 1 [] ≡ refused 1 0 0 0) × (check_base 4 0 [] ≡ refused 2 0 0 0) × (check_base 4 4096 [] ≡ refused 4 0 0 0) × (check_base 4 4097 [] ≡ refused 2 0 0 0)
  pub check_explicit_lem :
      (check_explicit 1 2 one_table ≡ accepted) × (check_explicit 1 2 (1 ∷ 65535 ∷ 0 ∷ 65535 ∷ []) ≡ refused 5 0 0 0) × (check_explicit 1 2 (0 ∷ 65535 ∷ 0 ∷ 1 ∷ []) ≡ refused 5 0 1 1)
  -- check: the table has level h; after 9 and 10 the level whose kernel failed; after any other number it is as found
  pub check_accepted : (check_lent one (sevens 4) ≡ accepted) × (check_leaves one (sevens 4) ≡ one_table) × (check_leaves corners (sevens 16) ≡ corners_table)
  pub check_9 : (check_lent half_above (sevens 16) ≡ refused 9 1 1 3) × (check_leaves half_above (sevens 16) ≡ corner_table)
  pub check_10 : (check_lent two_sides (sevens 24) ≡ refused 10 0 1 0) × (check_leaves two_sides (sevens 24) ≡ two_sides.rows)
  -- 10 names the first dart whose own test fails, not the first of its cell
  pub check_own_test : check_lent later (sevens 24) ≡ refused 10 0 1 3
  pub check_8 : (check_lent (too_high 8) (sevens 4) ≡ refused 8 0 0 0) × (check_leaves (too_high 8) (sevens 4) ≡ sevens 4)
  pub check_4 : (check_lent one (sevens 3) ≡ refused 4 0 0 0) × (check_leaves one (sevens 3) ≡ sevens 3)
  pub check_3 : (check_lent (tall 32) (sevens 4) ≡ accepted) × (check_lent (tall 33) (sevens 4) ≡ refused 3 0 0 0)
  -- add: P4 upon P3; then 9 of the row, 8 of a dart that is gone and of a byte that is no mark, at level h; 20 at h = 32 and not at 31
  pub add_accepted :
      (add_lent corner next_row (sevens 16) ≡ accepted) × (add_height corner next_row (sevens 16) ≡ 2) × (add_lambda corner next_row (sevens 16) ≡ corners.lambda)
      × (add_delta corner next_row (sevens 16) ≡ corners.delta) × (add_leaves corner next_row (sevens 16) ≡ corners_table)
  pub add_9 :
      (add_lent corner half_row (sevens 16) ≡ refused 9 1 1 3) × (add_height corner half_row (sevens 16) ≡ 1) × (add_lambda corner half_row (sevens 16) ≡ corner.lambda)
      × (add_delta corner half_row (sevens 16) ≡ corner.delta) × (add_leaves corner half_row (sevens 16) ≡ corner_table)
  pub add_8 : (add_lent corner gone_row (sevens 16) ≡ refused 8 1 0 1) × (add_lent corner no_row (sevens 16) ≡ refused 8 1 0 3) × (add_leaves corner no_row (sevens 16) ≡ sevens 16)
  pub add_20 :
      (add_lent (tall 31) (255 ∷ 255 ∷ []) (sevens 4) ≡ accepted) × (add_height (tall 31) (255 ∷ 255 ∷ []) (sevens 4) ≡ 32)
      × (add_lent (tall 32) (255 ∷ 255 ∷ []) (sevens 4) ≡ refused 20 0 0 0) × (add_height (tall 32) (255 ∷ 255 ∷ []) (sevens 4) ≡ 32)
  -- folding: the star's mark rows give its Λ and Δ
  pub folding :
      (listed (foldΛ 2 (marks 2 (each star.lambda) (each star.delta)) 2) 12 ≡ star.lambda) × (listed (foldΔ 2 (marks 2 (each star.lambda) (each star.delta)) 2) 12 ≡ star.delta)
  -- marks read back: kernel 1 of the corners; 255 throughout at h; 11 before 8
  pub marks_back :
      (marks_lent 1 8 2 corners.lambda corners.delta 1 (sevens 8) ≡ accepted) × (marks_leaves 1 8 2 corners.lambda corners.delta 1 (sevens 8) ≡ next_row)
      × (marks_leaves 1 8 2 corners.lambda corners.delta 2 (sevens 8) ≡ listed (λ x. 255) 8)
      × (broken_marks 1 ≡ refused 8 1 0 1) × (broken_marks 2 ≡ refused 11 2 0 0) × (marks_leaves 1 8 2 corners.lambda corners.delta 3 (sevens 8) ≡ sevens 8)
  -- read: P9; what is asked is repeated by 11, 13 and 12, of no dart and of one that is gone; 8 of the start; then 5, 14, 15 and 8 of a walk
  pub read_found : (read_lent star 2 0 7 ≡ found 10 5) × (read_since star 2 0 7 ≡ 2) × (read_lent star 0 0 7 ≡ found 1 1) × (read_since star 0 0 7 ≡ 0)
  pub read_asked :
      (read_lent star 3 0 7 ≡ none 11 3 0 7) × (read_lent star 2 3 7 ≡ none 13 2 3 7) × (read_lent star 2 1 12 ≡ none 12 2 1 12) × (read_lent star 2 1 3 ≡ none 12 2 1 3)
      × (read_lent (too_high 8) 1 1 0 ≡ none 8 1 1 0) × (read_since star 2 1 3 ≡ 0)
  pub read_walk :
      (read_lent astray 1 0 0 ≡ none 5 1 0 0) × (read_lent unlike 1 1 0 ≡ none 14 1 2 2) × (read_lent endless 1 0 0 ≡ none 15 1 0 0) × (read_since endless 1 0 0 ≡ 0)
      × (read_lent unmarked 1 0 0 ≡ none 8 1 0 1)
  -- no walk needs more than 2N reads and yet ends, so no map tells this limit from a higher one: it is said of every walk
  pub read_limit : (a : Involutions) (n N h : ℕ) (Λ Δ : ℕ → ℕ) (l i b : ℕ) → walk a n N h Λ Δ l i b ≡ walk_from a n N h Λ Δ l i b (1 + 2 * N) i b 0
  -- by levels the same
  pub levels_found : (read_lent_by_levels star 2 0 7 ≡ found 10 5) × (read_lent_by_levels star 0 0 7 ≡ found 1 1)
  pub levels_asked :
      (read_lent_by_levels star 3 0 7 ≡ none 11 3 0 7) × (read_lent_by_levels star 2 3 7 ≡ none 13 2 3 7) × (read_lent_by_levels star 2 1 12 ≡ none 12 2 1 12)
      × (read_lent_by_levels star 2 1 3 ≡ none 12 2 1 3) × (read_lent_by_levels (too_high 8) 1 1 0 ≡ none 8 1 1 0)
  pub levels_walk : (read_lent_by_levels astray 1 0 0 ≡ none 5 1 0 0) × (read_lent_by_levels unlike 1 1 0 ≡ none 14 1 2 2) × (read_lent_by_levels endless 1 0 0 ≡ none 15 1 0 0)
      × (read_lent_by_levels unmarked 1 0 0 ≡ none 8 1 0 1)
  -- unfold: P1 and P4; after 5, 14 and 15 the table is 65,535 throughout, after 11 and 8 as found
  pub unfold_accepted :
      (unfold_lent one 1 (sevens 4) ≡ accepted) × (unfold_total one 1 (sevens 4) ≡ 4) × (unfold_since one 1 (sevens 4) ≡ 1) × (unfold_leaves one 1 (sevens 4) ≡ one_table)
      × (unfold_total corners 2 (sevens 16) ≡ 16) × (unfold_since corners 2 (sevens 16) ≡ 2) × (unfold_leaves corners 2 (sevens 16) ≡ corners_table)
  pub unfold_5 : (unfold_lent astray 1 (sevens 4) ≡ refused 5 1 0 0) × (unfold_leaves astray 1 (sevens 4) ≡ absents 4)
  pub unfold_14 : (unfold_lent unlike 1 (sevens 12) ≡ refused 14 1 2 2) × (unfold_leaves unlike 1 (sevens 12) ≡ absents 12)
  pub unfold_15 :
      (unfold_lent endless 1 (sevens 4) ≡ refused 15 1 0 0) × (unfold_leaves endless 1 (sevens 4) ≡ absents 4) × (unfold_total endless 1 (sevens 4) ≡ 0) × (unfold_since endless 1 (sevens 4) ≡ 0)
  -- unfold all levels: P4 has its three levels, P1 its two, with the counts and the levels since which of each; after 9 the blocks up to the level that failed, after 4 none
  pub unfold_all :
      (unfold_all_lent corners (sevens 48) (sevens 33) (sevens 33) ≡ accepted) × (unfold_all_tables corners (sevens 48) (sevens 33) (sevens 33) ≡ corners.rows ++ (corner_table ++ corners_table))
      × (unfold_all_counts corners (sevens 48) (sevens 33) (sevens 33) ≡ 16 ∷ 16 ∷ 16 ∷ replicate 30 0) × (unfold_all_since corners (sevens 48) (sevens 33) (sevens 33) ≡ 0 ∷ 1 ∷ 2 ∷ replicate 30 0)
      × (unfold_all_tables one (sevens 8) (sevens 33) (sevens 33) ≡ one.rows ++ one_table) × (unfold_all_counts one (sevens 8) (sevens 33) (sevens 33) ≡ 4 ∷ 4 ∷ replicate 31 0)
  pub unfold_all_refused :
      (unfold_all_lent half_above (sevens 48) (sevens 33) (sevens 33) ≡ refused 9 1 1 3) × (unfold_all_tables half_above (sevens 48) (sevens 33) (sevens 33) ≡ corners.rows ++ (corner_table ++ sevens 16))
      × (unfold_all_counts half_above (sevens 48) (sevens 33) (sevens 33) ≡ sevens 33) × (unfold_all_since half_above (sevens 48) (sevens 33) (sevens 33) ≡ sevens 33)
      × (unfold_all_lent one (sevens 9) (sevens 33) (sevens 33) ≡ refused 4 0 0 0) × (unfold_all_tables one (sevens 9) (sevens 33) (sevens 33) ≡ sevens 9)
      × (unfold_all_lent one (sevens 8) (sevens 32) (sevens 33) ≡ refused 4 0 0 0) × (unfold_all_lent one (sevens 8) (sevens 33) (sevens 32) ≡ refused 4 0 0 0)
  pub unfold_asked :
      (unfold_lent one 2 (sevens 4) ≡ refused 11 2 0 0) × (unfold_leaves one 2 (sevens 4) ≡ sevens 4)
      × (unfold_lent (too_high 8) 1 (sevens 4) ≡ refused 8 1 0 0) × (unfold_leaves (too_high 8) 1 (sevens 4) ≡ sevens 4)
  -- row: of the base at level 0 alone; an empty part where it is refused
  pub row :
      (row_part 1 2 1 one.rows one_table 0 0 ≡ 1 ∷ 0 ∷ []) × (row_part 1 2 1 one.rows one_table 1 0 ≡ 0 ∷ 65535 ∷ []) × (row_part 1 2 1 one.rows one_table 0 1 ≡ 0 ∷ 1 ∷ [])
      × (row_lent 1 2 1 one.rows one_table 2 0 ≡ refused 11 2 0 0) × (row_lent 1 2 1 one.rows one_table 1 2 ≡ refused 13 1 2 0) × (row_part 1 2 1 one.rows one_table 1 2 ≡ [])
  -- survivor words: no bit beyond N; dart 64 in word 1; of 8 only Λ > h
  pub words :
      (survivor_words 8 2 corners.lambda 0 (sevens 64) ≡ 255 ∷ replicate 63 0) × (survivor_words 8 2 corners.lambda 1 (sevens 64) ≡ 249 ∷ replicate 63 0)
      × (survivor_count 8 2 corners.lambda 1 (sevens 64) ≡ 6) × (survivor_words 65 0 (replicate 65 0) 0 (sevens 64) ≡ 18446744073709551615 ∷ 1 ∷ replicate 62 0)
  pub words_refused :
      (survivors_lent 8 2 corners.lambda 3 (sevens 64) ≡ refused 11 3 0 0) × (survivors_lent 8 1 corners.lambda 1 (sevens 64) ≡ refused 8 1 0 0)
      × (survivors_lent 8 2 corners.lambda 1 (sevens 63) ≡ refused 4 0 0 0) × (survivor_words 8 2 corners.lambda 3 (sevens 64) ≡ sevens 64) × (survivor_count 8 2 corners.lambda 3 (sevens 64) ≡ 0)
  -- mark cells: what is tested; what is marked is in Relations
  pub mark :
      (mark_lent 1 8 corner_table 0 (sevens 8) ≡ accepted) × (mark_lent 1 8 corner_table 1 (sevens 8) ≡ refused 13 0 1 0) × (mark_lent 1 8 corner_table 0 (sevens 7) ≡ refused 4 0 0 0)
      × (mark_lent 2 4 apart.rows 1 (sevens 4) ≡ refused 7 0 0 0)
  -- take: P1's record; a byte more; cut short, in Δ's field; another tag, of the first row; another length; n, N and h; a slice too short
  pub take_accepted :
      (taking bytes ≡ accepted) × (take_rows bytes wide (sevens 4) (sevens 2) (sevens 2) (sevens 4) ≡ one.rows) × (take_lambda bytes wide (sevens 4) (sevens 2) (sevens 2) (sevens 4) ≡ 1 ∷ 0 ∷ [])
      × (take_delta bytes wide (sevens 4) (sevens 2) (sevens 2) (sevens 4) ≡ 1 ∷ 0 ∷ []) × (take_table bytes wide (sevens 4) (sevens 2) (sevens 2) (sevens 4) ≡ one_table)
      × (taking tall_bytes ≡ accepted) × (take_lambda tall_bytes wide (sevens 4) (sevens 2) (sevens 2) (sevens 4) ≡ 2 ∷ 2 ∷ [])
  pub take_formed :
      (taking (bytes ++ (7 ∷ [])) ≡ refused 19 0 0 31) × (taking (take 30 bytes) ≡ refused 16 0 0 26) × (taking (take 26 bytes) ≡ refused 16 0 0 26)
      × (taking old_bytes ≡ refused 17 0 0 7) × (taking (0x01 ∷ 5 ∷ 0 ∷ []) ≡ refused 18 0 0 0) × (taking (0x01 ∷ 4 ∷ 0 ∷ 5 ∷ 1 ∷ 2 ∷ 0 ∷ []) ≡ refused 1 0 0 0)
      × (taking (0x01 ∷ 4 ∷ 0 ∷ 1 ∷ 1 ∷ 1 ∷ 16 ∷ []) ≡ refused 2 0 0 0) × (taking (0x01 ∷ 4 ∷ 0 ∷ 1 ∷ 33 ∷ 2 ∷ 0 ∷ []) ≡ refused 3 0 0 0)
      × (take_lent bytes wide (sevens 3) (sevens 2) (sevens 2) (sevens 4) ≡ refused 4 0 0 0) × (take_rows bytes wide (sevens 3) (sevens 2) (sevens 2) (sevens 4) ≡ sevens 3)
  -- write: P1 into a buffer of two bytes more, of 31 exactly, of 30; P5
  pub write_accepted :
      (write_lent one (sevens 4) (sevens 33) ≡ accepted) × (write_length one (sevens 4) (sevens 33) ≡ 31) × (write_leaves one (sevens 4) (sevens 33) ≡ bytes ++ (7 ∷ 7 ∷ []))
      × (write_table one (sevens 4) (sevens 33) ≡ one_table) × (write_leaves one (sevens 4) (sevens 31) ≡ bytes)
      × (write_leaves (tall 2) (sevens 4) (sevens 31) ≡ tall_bytes)
  -- N = 258 is 2, 1; an entry of 256 or more too
  pub write_two_bytes : (in_two_bytes (258 ∷ 4095 ∷ []) ≡ 2 ∷ 1 ∷ 255 ∷ 15 ∷ []) × (field_written 0x30 (sevens 258) ≡ 0x30 ∷ 2 ∷ 1 ∷ sevens 258)
  pub write_refused :
      (write_lent one (sevens 4) (sevens 30) ≡ refused 4 0 0 0) × (write_length one (sevens 4) (sevens 30) ≡ 0) × (write_leaves one (sevens 4) (sevens 30) ≡ sevens 30)
      × (write_table one (sevens 4) (sevens 30) ≡ one_table) × (write_lent half_above (sevens 16) (sevens 99) ≡ refused 9 1 1 3) × (write_table half_above (sevens 16) (sevens 99) ≡ corner_table)
  -- convert: P1's old record becomes the new one, a new one stays; a buffer too short; a byte more; one byte an entry at N = 256 and not at 257
  pub convert :
      (converting old_bytes 32 ≡ accepted) × (convert_length old_bytes (sevens 4) (sevens 2) (sevens 2) (sevens 4) (sevens 32) ≡ 31)
      × (convert_leaves old_bytes (sevens 4) (sevens 2) (sevens 2) (sevens 4) (sevens 32) ≡ bytes ++ (7 ∷ [])) × (convert_leaves bytes (sevens 4) (sevens 2) (sevens 2) (sevens 4) (sevens 31) ≡ bytes)
      × (take_rows old_bytes either (sevens 4) (sevens 2) (sevens 2) (sevens 4) ≡ one.rows)
  pub convert_refused :
      (converting old_bytes 30 ≡ refused 4 0 0 0) × (convert_length old_bytes (sevens 4) (sevens 2) (sevens 2) (sevens 4) (sevens 30) ≡ 0)
      × (convert_leaves old_bytes (sevens 4) (sevens 2) (sevens 2) (sevens 4) (sevens 30) ≡ sevens 30) × (converting (old_bytes ++ (7 ∷ [])) 32 ≡ refused 19 0 0 27)
      × (converting (0x01 ∷ 4 ∷ 0 ∷ 1 ∷ 0 ∷ 0 ∷ 1 ∷ 0x20 ∷ []) 32 ≡ refused 16 0 0 7) × (converting (0x01 ∷ 4 ∷ 0 ∷ 1 ∷ 0 ∷ 1 ∷ 1 ∷ 0x20 ∷ []) 32 ≡ refused 17 0 0 7)
  -- decimation: 8 darts by 6, 6 by 4, by their bits; 11 at h, the table as the check leaves it
  pub decimation :
      (decimation_lent corners (sevens 16) 0 ≡ accepted) × (decimation_factor corners (sevens 16) 1 ≡ of_bits binary64 0x3ff8000000000000) × (decimation_empty corners (sevens 16) 1 ≡ 0)
      × (decimation_table corners (sevens 16) 1 ≡ corners_table) × (decimation_empty both (sevens 4) 0 ≡ 1) × (decimation_factor both (sevens 4) 0 ≡ of_bits binary64 0)
  pub decimation_refused :
      (decimation_lent corners (sevens 16) 2 ≡ refused 11 2 0 0) × (decimation_table corners (sevens 16) 2 ≡ corners_table) × (decimation_factor corners (sevens 16) 2 ≡ of_bits binary64 0)
      × (decimation_lent half_above (sevens 16) 2 ≡ refused 9 1 1 3)
  -- census: what is tested, and the table; what is counted is in Relations
  pub census :
      (counting one 4 165 33 ≡ accepted) × (counting one 4 164 33 ≡ refused 4 0 0 0) × (counting one 4 165 32 ≡ refused 4 0 0 0) × (counting half_above 16 165 33 ≡ refused 9 1 1 3)
      × (census_table one (sevens 4) (sevens 165) (replicate 33 (pos 0)) ≡ one_table) × (census_table one (sevens 4) (sevens 164) (replicate 33 (pos 0)) ≡ sevens 4)
  -- join: the corners become one kernel; the star's level 0 is left after 9, its top after 11
  pub join :
      (join_lent corners (sevens 16) 0 ≡ accepted) × (join_height corners (sevens 16) 0 ≡ 1) × (join_lambda corners (sevens 16) 0 ≡ 1 ∷ 0 ∷ 0 ∷ 0 ∷ 0 ∷ 1 ∷ 1 ∷ 1 ∷ [])
      × (join_leaves corners (sevens 16) 0 ≡ corners_table)
  pub join_refused :
      (join_lent star (sevens 36) 0 ≡ refused 9 0 1 1) × (join_leaves star (sevens 36) 0 ≡ star.rows) × (join_lent corners (sevens 16) 1 ≡ refused 11 1 0 0)
      × (join_leaves corners (sevens 16) 1 ≡ corners_table) × (join_height corners (sevens 16) 1 ≡ 2) × (join_lambda corners (sevens 16) 1 ≡ corners.lambda)
  -- start again: the corners from level 1; above h, and where a level has no dart, all but the table is as found
  pub rebase :
      (rebase_lent corners (sevens 16) 1 (sevens 8) ≡ accepted) × (rebase_darts corners (sevens 16) 1 (sevens 8) ≡ 6) × (rebase_height corners (sevens 16) 1 (sevens 8) ≡ 1)
      × (rebase_rows corners (sevens 16) 1 (sevens 8) ≡ 1 ∷ 0 ∷ 3 ∷ 2 ∷ 5 ∷ 4 ∷ 5 ∷ 2 ∷ 1 ∷ 4 ∷ 3 ∷ 0 ∷ absents 4) × (rebase_lambda corners (sevens 16) 1 (sevens 8) ≡ 1 ∷ 0 ∷ 0 ∷ 1 ∷ 1 ∷ 1 ∷ 255 ∷ 255 ∷ [])
      × (rebase_delta corners (sevens 16) 1 (sevens 8) ≡ 1 ∷ 0 ∷ 0 ∷ 1 ∷ 1 ∷ 1 ∷ 255 ∷ 255 ∷ []) × (rebase_old corners (sevens 16) 1 (sevens 8) ≡ 0 ∷ 3 ∷ 4 ∷ 5 ∷ 6 ∷ 7 ∷ 65535 ∷ 65535 ∷ [])
      × (rebase_table corners (sevens 16) 1 (sevens 8) ≡ corners_table)
  pub rebase_refused :
      (rebase_lent corners (sevens 16) 3 (sevens 8) ≡ refused 11 3 0 0) × (rebase_darts corners (sevens 16) 3 (sevens 8) ≡ 8) × (rebase_height corners (sevens 16) 3 (sevens 8) ≡ 2)
      × (rebase_rows corners (sevens 16) 3 (sevens 8) ≡ corners.rows) × (rebase_old corners (sevens 16) 3 (sevens 8) ≡ sevens 8) × (rebase_table corners (sevens 16) 3 (sevens 8) ≡ corners_table)
      × (rebase_lent both (sevens 4) 1 (sevens 2) ≡ refused 2 0 0 0) × (rebase_lambda both (sevens 4) 1 (sevens 2) ≡ both.lambda) × (rebase_table both (sevens 4) 1 (sevens 2) ≡ absents 4)
      × (rebase_lent both (sevens 4) 1 (sevens 3) ≡ refused 4 0 0 0) × (rebase_table both (sevens 4) 1 (sevens 3) ≡ sevens 4)
  -- regions: what is tested, 11 before 23, and the table; the names are in Relations
  pub regions :
      (regions_lent corners (sevens 16) 2 (sevens 8) ≡ accepted) × (regions_table corners (sevens 16) 2 (sevens 8) ≡ corners_table)
      × (regions_lent corners (sevens 16) 3 (sevens 8) ≡ refused 11 3 0 0) × (regions_lent shorter (sevens 16) 1 (sevens 8) ≡ refused 23 0 0 0)
      × (regions_lent shorter (sevens 16) 2 (sevens 8) ≡ refused 11 2 0 0) × (regions_lent corners (sevens 16) 2 (sevens 7) ≡ refused 4 0 0 0)
      × (regions_table corners (sevens 16) 3 (sevens 8) ≡ corners_table) × (regions_table corners (sevens 16) 2 (sevens 7) ≡ sevens 16)
  -- a partner's map and the way back: what is tested beside small-partner; what is left is in Relations
  pub partner :
      (import_lent 0 [] [] [] ≡ refused 2 0 0 0) × (import_lent 2049 [] [] [] ≡ refused 2 0 0 0) × (import_lent 2048 [] [] [] ≡ refused 4 0 0 0) × (import_lent 1 (0 ∷ []) (0 ∷ []) (sevens 5) ≡ refused 4 0 0 0)
      × (export_lent 1 2 one.rows [] [] ≡ refused 1 0 0 0) × (export_lent 2 0 [] [] [] ≡ refused 2 0 0 0) × (export_lent 2 4 apart.rows (sevens 2) (sevens 2) ≡ refused 7 0 0 0)
      × (export_lent 2 4 apart.rows (sevens 2) (sevens 1) ≡ refused 4 0 0 0) × (export_lent 2 3 (replicate 9 0) (sevens 1) (sevens 1) ≡ refused 6 0 0 1)

-- by computation
pub small_jobs : SmallJobs
unfolding is_mark between has_beyond beyond scan count sum go_on removal listed explicit foldΛ foldΔ level number1 number2 number3 number4 number11 number13 sizes walk_from walk since_of largest trail_from trail since latest read_base over_level read_level by_levels reads cost at5 at6 at7 check5 check6 check7 check_map at9 at10 check9 check10 check_kernel at8 check8 kernel_at check_kernels check_pyramid check_base check_explicit left_behind check_lent check_with check_with_leaves check_leaves at_row8 number20 add_lent add_height add_lambda add_delta add_leaves at_marks8 marks_lent marks_leaves question read_lent read_since read_lent_by_levels at_walk unfold_lent unfold_total unfold_since unfold_leaves stacked by_level blocks_left unfold_all_lent unfold_all_tables unfold_all_counts unfold_all_since row_lent row_part at_lambda8 survivors_lent word ones_in ones survivor_words survivor_count mark_lent field formed record_rows record_lambda record_delta record_lent take_lent take_rows take_lambda take_delta take_table field_written in_two_bytes row_of rows_written written write_lent write_length write_table write_leaves convert_lent convert_length convert_leaves decimation_lent decimation_empty decimation_factor decimation_table div of_int round of_bits census_lent census_table join_lent join_height join_lambda join_leaves kth packed rebase_lent rebase_darts rebase_height rebase_rows rebase_lambda rebase_delta rebase_old rebase_table regions_lent regions_table number2_m outside edges_back had number21 import_lent export_lent
small_jobs = record {
  check_base_lem = (refl, refl, refl, refl, refl, refl, refl, refl, refl, refl);
  check_explicit_lem = (refl, refl, refl);
  check_accepted = (refl, refl, refl);
  check_9 = (refl, refl);
  check_10 = (refl, refl);
  check_own_test = refl;
  check_8 = (refl, refl);
  check_4 = (refl, refl);
  check_3 = (refl, refl);
  add_accepted = (refl, refl, refl, refl, refl);
  add_9 = (refl, refl, refl, refl, refl);
  add_8 = (refl, refl, refl);
  add_20 = (refl, refl, refl, refl);
  folding = (refl, refl);
  marks_back = (refl, refl, refl, refl, refl, refl);
  read_found = (refl, refl, refl, refl);
  read_asked = (refl, refl, refl, refl, refl, refl);
  read_walk = (refl, refl, refl, refl, refl);
  read_limit = λ a n N h Λ Δ l i b. refl;
  levels_found = (refl, refl);
  levels_asked = (refl, refl, refl, refl, refl);
  levels_walk = (refl, refl, refl, refl);
  unfold_accepted = (refl, refl, refl, refl, refl, refl, refl);
  unfold_5 = (refl, refl);
  unfold_14 = (refl, refl);
  unfold_15 = (refl, refl, refl, refl);
  unfold_all = (refl, refl, refl, refl, refl, refl);
  unfold_all_refused = (refl, refl, refl, refl, refl, refl, refl, refl);
  unfold_asked = (refl, refl, refl, refl);
  row = (refl, refl, refl, refl, refl, refl);
  words = (refl, refl, refl, refl);
  words_refused = (refl, refl, refl, refl, refl);
  mark = (refl, refl, refl, refl);
  take_accepted = (refl, refl, refl, refl, refl, refl, refl);
  take_formed = (refl, refl, refl, refl, refl, refl, refl, refl, refl, refl);
  write_accepted = (refl, refl, refl, refl, refl, refl);
  write_two_bytes = (refl, refl);
  write_refused = (refl, refl, refl, refl, refl, refl);
  convert = (refl, refl, refl, refl, refl);
  convert_refused = (refl, refl, refl, refl, refl, refl);
  decimation = (refl, refl, refl, refl, refl, refl);
  decimation_refused = (refl, refl, refl, refl);
  census = (refl, refl, refl, refl, refl, refl);
  join = (refl, refl, refl, refl);
  join_refused = (refl, refl, refl, refl, refl, refl);
  rebase = (refl, refl, refl, refl, refl, refl, refl, refl);
  rebase_refused = (refl, refl, refl, refl, refl, refl, refl, refl, refl, refl, refl);
  regions = (refl, refl, refl, refl, refl, refl, refl, refl);
  partner = (refl, refl, refl, refl, refl, refl, refl, refl, refl);
}
