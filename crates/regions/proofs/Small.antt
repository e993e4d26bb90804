-- A region with two boundaries: a path whose middle edge is removed. Names of small pyramids are in crates/maps/proofs/Names.antt. Assumes nothing.
use mathlib.Core.Path.{◌≡◌, refl}
use mathlib.Core.Bool.{true, ◌&&◌}
use mathlib.Core.List.{[], ◌∷◌}
use Prim.Native.Nat.{ℕ, zero, suc, ◌<◌}
use native.Mathlib.Omega.{arith}
use lib.Dec.{ltb, lit<}
use borrow.Author.Tests.{ltb-true}
use Rattle.maps.specs.Verdict.{accepted, scan}
use Rattle.maps.specs.Cell.{Cell, itself, onward}
use Rattle.maps.specs.Mark.{is_mark, between, has_beyond, beyond}
use Rattle.maps.specs.Removal.{go_on, removal}
use Rattle.maps.specs.Folded.{level, base, lambda_of, delta_of}
use Rattle.maps.specs.Check.{at5, at6, at7, check5, check6, check7, check_map, at9, at10, check9, check10, check_kernel, at8, check8, kernel_at, check_kernels, check_pyramid}
use Rattle.maps.specs.Regions.{Named}
use Rattle.maps.proofs.Small.{verdict, neighbour}
use Rattle.maps.proofs.Names.{every, and_both, every_at, path, small_names}

-- on level 1 a_0 and a_1 don't lead out of the first edge
path_face : every (λ d. ltb (neighbour path 1 0 d) 4 && ltb (neighbour path 1 1 d) 4) 4 ≡ true
unfolding is_mark between go_on removal level every
path_face = refl

-- so the edges that are left lie in two faces
apart : Cell (neighbour path 1) 2 2 0 8 → ⊥
apart c = let l = below 8 c in omega arith
  where
    both : (d : ℕ) → d < 4 → (ltb (neighbour path 1 0 d) 4 ≡ true) × (ltb (neighbour path 1 1 d) 4 ≡ true)
    both d ld = and_both (ltb (neighbour path 1 0 d) 4) (ltb (neighbour path 1 1 d) 4) (every_at (λ d. ltb (neighbour path 1 0 d) 4 && ltb (neighbour path 1 1 d) 4) 4 path_face d ld)

    row : (j d : ℕ) → j < 2 → d < 4 → neighbour path 1 j d < 4
    row zero d lj ld = ltb-true (neighbour path 1 0 d) 4 (both d ld).0
    row (suc zero) d lj ld = ltb-true (neighbour path 1 1 d) 4 (both d ld).1
    row (suc (suc j)) d lj ld = absurd (omega arith)

    below : (z : ℕ) → Cell (neighbour path 1) 2 2 0 z → z < 4
    below _ itself = lit< tt
    below _ (onward d j c lj ne) = row j d (omega arith) (below d c)

-- The pyramid is accepted, all its darts have one name on level 1, and 0 and 8 lie in two faces there.
pub two_boundaries : (verdict path ≡ accepted) × Named (base path) 2 12 (lambda_of path) (delta_of path) 1 (0 ∷ 0 ∷ 0 ∷ 0 ∷ 0 ∷ 0 ∷ 0 ∷ 0 ∷ 0 ∷ 0 ∷ 0 ∷ 0 ∷ []) × (Cell (neighbour path 1) 2 2 0 8 → ⊥)
unfolding is_mark between has_beyond beyond scan go_on removal level at5 at6 at7 check5 check6 check7 check_map at9 at10 check9 check10 check_kernel at8 check8 kernel_at check_kernels check_pyramid
two_boundaries = (refl, small_names.path_1, apart)
