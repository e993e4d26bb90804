-- Nothing is vacuous: the theorems used at the star, started again from level 1. Assumes nothing.
use Prim.Native.Nat.{◌≤◌}
use lib.Dec.{lit≤}
use Rattle.maps.specs.Table.{entry, each}
use Rattle.maps.specs.Cost.{cost}
use Rattle.maps.proofs.Small.{costs, star}
use Rattle.facts.proofs.Star.{star_pyramid}
use Rattle.maps.specs.NewBase.{new_base, new_darts, new_height, newΛ, newΔ}
use Rattle.maps.specs.Rebase.{rebase_darts, rebase_height, rebase_rows, rebase_lambda, rebase_delta, rebase_old}
use Rattle.maps.proofs.StarAgain.{zeros, star_again_lem}
use Rattle.starting_again.proofs.StartingAgain.{started_again}
use Rattle.starting_again.proofs.PackedAgain.{PackedAgain, packed_again}

-- level 1 of the new pyramid costs no more than the 24 of the old level 2
pub star_no_dearer : cost (new_base (entry 12 star.rows) 2 12 2 (each star.lambda) (each star.delta) 1) 2 (new_darts 12 (each star.lambda) 1) (new_height 2 1) (newΛ 12 (each star.lambda) 1) (newΔ 12 (each star.lambda) (each star.delta) 1) 1 ≤ costs star 2
star_no_dearer = (started_again (entry 12 star.rows) 2 12 2 (each star.lambda) (each star.delta) star_pyramid 1 (lit≤ tt)).no_dearer 1 (lit≤ tt)

-- what the job leaves of the star
pub star_packed : PackedAgain star 1
    (rebase_darts star (zeros 36) 1 (zeros 12))
    (rebase_height star (zeros 36) 1 (zeros 12))
    (rebase_rows star (zeros 36) 1 (zeros 12))
    (rebase_lambda star (zeros 36) 1 (zeros 12))
    (rebase_delta star (zeros 36) 1 (zeros 12))
    (rebase_old star (zeros 36) 1 (zeros 12))
star_packed = packed_again star (zeros 36) 1 (zeros 12) star_again_lem.verdict
