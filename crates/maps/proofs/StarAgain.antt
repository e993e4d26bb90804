-- The star of P8 and P9 started again from level 1, by computation on the definitions. Assumes nothing.
use mathlib.Core.Path.{◌≡◌, refl}
use mathlib.Core.List.{List, [], ◌∷◌, ◌++◌}
use Prim.Native.Nat.{ℕ}
use Rattle.maps.specs.Verdict.{Verdict, accepted, refused, scan}
use Rattle.maps.specs.Count.{count, sum}
use Rattle.maps.specs.Mark.{is_mark, between, has_beyond, beyond}
use Rattle.maps.specs.Removal.{go_on, removal}
use Rattle.maps.specs.Sizes.{number1, number2, number3, number4, number11, sizes}
use Rattle.maps.specs.Table.{listed, explicit}
use Rattle.maps.specs.Folded.{level, of_parts, Folded}
use Rattle.maps.specs.Walk.{ended, walk_from, walk}
use Rattle.maps.specs.Cost.{reads, cost}
use Rattle.maps.specs.Check.{at5, at6, at7, check5, check6, check7, check_map, at9, at10, check9, check10, check_kernel, at8, check8, kernel_at, check_kernels, check_pyramid}
use Rattle.maps.specs.CheckPyramid.{left_behind, check_lent, check_leaves, check_with, check_with_leaves}
use Rattle.maps.proofs.Small.{direct, costs, table, both, star}
use Rattle.maps.specs.NewBase.{kth}
use Rattle.maps.specs.Rebase.{packed, rebase_lent, rebase_darts, rebase_height, rebase_rows, rebase_lambda, rebase_delta, rebase_old, rebase_table}

-- a lent slice that holds 0
abbrev pub zeros : ℕ → List ℕ
zeros m = listed (λ x. 0) m

-- the job on a small map, with lent slices of the right lengths that hold 0
abbrev pub lent : Folded → ℕ → Verdict
lent p l = rebase_lent p (zeros 36) l (zeros 12)

-- level 1 of the star by itself: 8 darts, h = 1
abbrev pub star_again : Folded
star_again = record {
  n = 2;
  N = 8;
  h = 1;
  rows = 4 ∷ 5 ∷ 6 ∷ 7 ∷ 0 ∷ 1 ∷ 2 ∷ 3 ∷ 3 ∷ 2 ∷ 1 ∷ 0 ∷ 5 ∷ 4 ∷ 7 ∷ 6 ∷ 1 ∷ 0 ∷ 3 ∷ 2 ∷ 5 ∷ 4 ∷ 7 ∷ 6 ∷ [];
  lambda = 0 ∷ 0 ∷ 0 ∷ 0 ∷ 1 ∷ 1 ∷ 1 ∷ 1 ∷ [];
  delta = 0 ∷ 0 ∷ 0 ∷ 0 ∷ 2 ∷ 2 ∷ 2 ∷ 2 ∷ [];
}

-- what stands behind the packed part
abbrev behind : ℕ → ℕ → List ℕ
behind filler m = listed (λ x. filler) m

-- what starting again from level 1 leaves of the star, and two refusals
pub record StarAgain : Type 0 where
  -- it is accepted, and packed to the front
  pub verdict : lent star 1 ≡ accepted
  pub darts : rebase_darts (of_parts 2 12 2 star.rows star.lambda star.delta) (zeros 36) 1 (zeros 12) ≡ 8
  pub height : rebase_height (of_parts 2 12 2 star.rows star.lambda star.delta) (zeros 36) 1 (zeros 12) ≡ 1
  pub rows : rebase_rows (of_parts 2 12 2 star.rows star.lambda star.delta) (zeros 36) 1 (zeros 12) ≡ star_again.rows ++ behind 65535 12
  pub lambda : rebase_lambda (of_parts 2 12 2 star.rows star.lambda star.delta) (zeros 36) 1 (zeros 12) ≡ star_again.lambda ++ behind 255 4
  pub delta : rebase_delta (of_parts 2 12 2 star.rows star.lambda star.delta) (zeros 36) 1 (zeros 12) ≡ star_again.delta ++ behind 255 4
  pub old : rebase_old (of_parts 2 12 2 star.rows star.lambda star.delta) (zeros 36) 1 (zeros 12) ≡ (0 ∷ 1 ∷ 4 ∷ 5 ∷ 6 ∷ 7 ∷ 10 ∷ 11 ∷ []) ++ behind 65535 4
  pub left : rebase_table (of_parts 2 12 2 star.rows star.lambda star.delta) (zeros 36) 1 (zeros 12) ≡ table star 2
  -- a0 of 7 on level 2 was 10 with 5 reads: now a0 of 5 on level 1 is 6 with 3 reads, and the level costs 20 in place of 24
  pub walk : (direct star 2 0 7 ≡ ended 0 10 5) × (direct star_again 1 0 5 ≡ ended 0 6 3) × (costs star 2 ≡ 24) × (costs star_again 1 ≡ 20)
  -- a level above h, and a level that has no dart (P2)
  pub above : lent star 3 ≡ refused 11 3 0 0
  pub empty : rebase_lent (of_parts 1 2 1 both.rows both.lambda both.delta) (zeros 4) 1 (zeros 2) ≡ refused 2 0 0 0

-- by computation
pub star_again_lem : StarAgain
unfolding is_mark between has_beyond beyond scan count sum go_on removal listed explicit level walk_from walk reads cost number1 number2 number3 number4 number11 sizes at5 at6 at7 check5 check6 check7 check_map at9 at10 check9 check10 check_kernel at8 check8 kernel_at check_kernels check_pyramid left_behind kth check_lent check_with check_with_leaves check_leaves packed rebase_lent rebase_darts rebase_height rebase_rows rebase_lambda rebase_delta rebase_old rebase_table
star_again_lem = record {
  verdict = refl;
  darts = refl;
  height = refl;
  rows = refl;
  lambda = refl;
  delta = refl;
  old = refl;
  left = refl;
  walk = (refl, refl, refl, refl);
  above = refl;
  empty = refl;
}
