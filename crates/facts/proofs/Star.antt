-- Nothing is vacuous: the star of P8 and P9, its dual, a kernel of either kind and the square of P4 are accepted pyramids, and the facts are used at them. Assumes nothing.
use mathlib.Core.Path.{◌≡◌, refl}
use Prim.Native.Nat.{◌≤◌}
use lib.Dec.{lit<, lit≤}
use Rattle.maps.specs.Verdict.{scan}
use Rattle.maps.specs.Count.{count}
use Rattle.maps.specs.Mark.{is_mark, between}
use Rattle.maps.specs.Table.{entry, each}
use Rattle.maps.specs.Folded.{On, marks, level, foldΛ, foldΔ}
use Rattle.maps.specs.Walk.{ended, walk_from, walk}
use Rattle.maps.specs.Cost.{reads}
use Rattle.maps.specs.Pyramid.{Pyramid}
use Rattle.maps.specs.Check.{at9, check9}
use Rattle.maps.specs.Join.{joinΛ}
use Rattle.maps.proofs.Small.{star, corners, mixed, costs, neighbour, direct, levelwise, small_maps, small_contractions}
use Rattle.facts.proofs.Checks.{check_pyramid_lem, check9_whole}
use Rattle.facts.proofs.Folding.{folded_back}
use Rattle.facts.proofs.Facts.{facts}
use Rattle.facts.proofs.DualReadings.{Dual, duality}
use Rattle.facts.proofs.Joining.{Joined, joins}

pub star_pyramid : Pyramid (entry 12 star.rows) 2 12 2 (each star.lambda) (each star.delta)
star_pyramid = check_pyramid_lem (entry 12 star.rows) 2 12 2 (each star.lambda) (each star.delta) (lit≤ tt) small_maps.p9.0

-- level 1 costs 28 of the 32 that the bound allows
pub star_bound : (costs star 1 ≡ 28) × (costs star 1 ≤ 32)
unfolding count
star_bound = (small_maps.p9.6, (facts (entry 12 star.rows) 2 12 2 (each star.lambda) (each star.delta) star_pyramid 1 (lit≤ tt)).bound)

-- a0 of 7 on level 2, by the fact and not by computation: the neighbour of the removals, with a count of at most 17
pub star_walk : direct star 2 0 7 ≡ ended 0 (neighbour star 2 0 7) 5
unfolding is_mark between reads walk walk_from
star_walk = (facts (entry 12 star.rows) 2 12 2 (each star.lambda) (each star.delta) star_pyramid 2 (lit≤ tt)).ends 0 7 (lit≤ tt) (lit< tt, lit≤ tt)

pub star_levels : levelwise star 2 0 7 ≡ direct star 2 0 7
star_levels = (facts (entry 12 star.rows) 2 12 2 (each star.lambda) (each star.delta) star_pyramid 2 (lit≤ tt)).alike 0 7 (lit≤ tt) (lit< tt, lit≤ tt)

-- the square with the corners {1,2} and then {3,4} removed: joined into one kernel, by the law and not by computation
pub corners_pyramid : Pyramid (entry 8 corners.rows) 1 8 2 (each corners.lambda) (each corners.delta)
corners_pyramid = check_pyramid_lem (entry 8 corners.rows) 1 8 2 (each corners.lambda) (each corners.delta) (lit≤ tt) small_maps.p3.0

pub corners_joined : Joined (entry 8 corners.rows) 1 8 1 (each corners.lambda) (each corners.delta) 0
unfolding is_mark between scan level at9 check9
corners_joined =
    joins (entry 8 corners.rows) 1 8 1 (each corners.lambda) (each corners.delta) corners_pyramid 0 (lit< tt)
    (check9_whole (entry 8 corners.rows) 1 8 (marks 1 (joinΛ 0 (each corners.lambda)) (each corners.delta) 0) 0 (On 8 (each corners.lambda) 0) (λ d o. o.0) refl)

-- dart 3's marks, read back and folded again
pub star_folded : (foldΛ 2 (marks 2 (each star.lambda) (each star.delta)) 2 3 ≡ 0) × (foldΔ 2 (marks 2 (each star.lambda) (each star.delta)) 2 3 ≡ 1)
star_folded = folded_back 2 2 (each star.lambda) (each star.delta) (lit≤ tt) 3 (star_pyramid.allowed 3 (lit< tt))

-- one kernel with a removed and a contracted edge: 14 of the 14 that the bound allows
pub mixed_pyramid : Pyramid (entry 6 mixed.rows) 2 6 1 (each mixed.lambda) (each mixed.delta)
mixed_pyramid = check_pyramid_lem (entry 6 mixed.rows) 2 6 1 (each mixed.lambda) (each mixed.delta) (lit≤ tt) small_contractions.c4.0

pub mixed_bound : (costs mixed 1 ≡ 14) × (costs mixed 1 ≤ 14)
unfolding count
mixed_bound = (small_contractions.c4.5, (facts (entry 6 mixed.rows) 2 6 1 (each mixed.lambda) (each mixed.delta) mixed_pyramid 1 (lit≤ tt)).bound)

pub mixed_walk : direct mixed 1 1 0 ≡ ended 1 (neighbour mixed 1 1 0) 5
unfolding is_mark between reads walk walk_from
mixed_walk = (facts (entry 6 mixed.rows) 2 6 1 (each mixed.lambda) (each mixed.delta) mixed_pyramid 1 (lit≤ tt)).ends 1 0 (lit≤ tt) (lit< tt, lit≤ tt)

-- the star's dual, by the law: its edge and its vertex are contracted as an edge and as a face
pub star_dual_lem : Dual (entry 12 star.rows) 2 12 2 (each star.lambda) (each star.delta)
star_dual_lem = duality (entry 12 star.rows) 2 12 2 (each star.lambda) (each star.delta) star_pyramid
