-- The census on small maps: the star's, whose sums are 2, and that of a vertex with two loose ends, whose sum is below zero. What is counted is computed: each dart passes on the lowest that it has heard of. Assumes nothing.
use mathlib.Core.Path.{◌≡◌, refl, sym, subst, ◌∙◌}
use mathlib.Core.Bool.{Bool, true, false, cond, ◌&&◌, not, true≢false}
use mathlib.Core.List.{List, [], ◌∷◌}
use Prim.Native.Nat.{ℕ, zero, suc, ◌≤◌}
use native.Mathlib.Omega.{arith}
use lib.Dec.{eqb, ltb, lit≤}
use lib.IntN.{pos, negsuc}
use borrow.Author.Tests.{eqb-true, eqb-false, eq-eqb, ne_eqb, not-true, ltb-true}
use Rattle.maps.specs.Verdict.{Verdict, accepted, refused, when, scan}
use Rattle.maps.specs.Count.{count}
use Rattle.maps.specs.Map.{Involutions, Valid}
use Rattle.maps.specs.Cell.{Cell, itself, onward}
use Rattle.maps.specs.Table.{entry, each, listed, explicit}
use Rattle.maps.specs.Explicit.{present, There}
use Rattle.maps.specs.Census.{CellCount, alternating}
use Rattle.maps.specs.Mark.{is_mark, between, has_beyond, beyond}
use Rattle.maps.specs.Removal.{go_on, removal}
use Rattle.maps.specs.Sizes.{number1, number2, number3, number4, sizes}
use Rattle.maps.specs.Folded.{survives, marks, level}
use Rattle.maps.specs.Accepted.{Accepted}
use Rattle.maps.specs.CheckPyramid.{check_lent}
use Rattle.maps.specs.Check.{at5, at6, at7, check5, check6, check7, check_map}
use Rattle.maps.proofs.Small.{star, table, small_maps}
use Rattle.laws.proofs.Verdicts.{scan_accepted, when_accepted, and_both}
use Rattle.facts.proofs.ExactJobs.{check_accepts}
use Rattle.orbits.specs.Explicit.{ExplicitLevel, but}
use Rattle.orbits.proofs.Cells.{cell_join, cell_present}
use Rattle.orbits.proofs.Explicit.{level_valid}
use Rattle.counting.proofs.Levels.{table_counted}

-- the lower of two
abbrev lower : ℕ → ℕ → ℕ
lower x y = cond (ltb x y) x y

module _ (a : Involutions) (n i : ℕ) where
  -- the lowest that a dart and its neighbours by the rows of an i-cell below m know
  unfoldable pub heard : (ℕ → ℕ) → ℕ → ℕ → ℕ
  heard known d zero = known d
  heard known d (suc j) = cond (but i j) (lower (known (a j d)) (heard known d j)) (heard known d j)

  -- what a dart knows after k rounds
  unfoldable pub known : ℕ → ℕ → ℕ
  known zero d = d
  known (suc k) d = heard (known k) d (suc n)

  -- it lies in the dart's cell
  heard_cell : (f : ℕ → ℕ) → ((d : ℕ) → Cell a n i d (f d)) → (d m : ℕ) → m ≤ suc n → Cell a n i d (heard f d m)
  unfolding heard
  heard_cell f h d zero l = h d
  heard_cell f h d (suc j) l = go (but i j) refl (ltb (f (a j d)) (heard f d j)) (heard_cell f h d j (omega arith))
    where
      go : (b : Bool) → but i j ≡ b → (t : Bool) → Cell a n i d (heard f d j) → Cell a n i d (cond b (cond t (f (a j d)) (heard f d j)) (heard f d j))
      go true q true ih = cell_join a n i d (a j d) (f (a j d)) (onward d j itself (omega arith) (eqb-false j i (not-true (eqb j i) q))) (h (a j d))
      go true q false ih = ih
      go false q t ih = ih

  known_cell : (k d : ℕ) → Cell a n i d (known k d)
  unfolding known
  known_cell zero d = itself
  known_cell (suc k) d = heard_cell (known k) (known_cell k) d (suc n) (omega arith)

  -- and is no higher
  heard_low : (f : ℕ → ℕ) → ((d : ℕ) → f d ≤ d) → (d m : ℕ) → heard f d m ≤ d
  unfolding heard
  heard_low f h d zero = h d
  heard_low f h d (suc j) = go (but i j) (ltb (f (a j d)) (heard f d j)) refl (heard_low f h d j)
    where
      go : (b t : Bool) → ltb (f (a j d)) (heard f d j) ≡ t → heard f d j ≤ d → cond b (cond t (f (a j d)) (heard f d j)) (heard f d j) ≤ d
      go true true q ih = omega (arith, ih, ltb-true (f (a j d)) (heard f d j) q)
      go true false q ih = ih
      go false t q ih = ih

  known_low : (k d : ℕ) → known k d ≤ d
  unfolding known
  known_low zero d = omega arith
  known_low (suc k) d = heard_low (known k) (known_low k) d (suc n)

  module _ (N : ℕ) (p : ℕ → Bool) (k : ℕ) where
    -- no neighbour knows another
    abbrev settled : Verdict
    settled = scan N (λ d. scan (suc n) (λ j. when (p d && (but i j && not (eqb (known k (a j d)) (known k d)))) (refused 0 0 0 0)))

    -- the lowest darts
    abbrev lowest_ones : ℕ → Bool
    lowest_ones d = p d && eqb (known k d) d

    module _ (v : Valid a n (There N p)) (e : settled ≡ accepted) where
      next : (d j : ℕ) → There N p d → j ≤ n → (j ≡ i → ⊥) → known k (a j d) ≡ known k d
      next d j h lj ne = go (eqb (known k (a j d)) (known k d)) refl
        where
          at : (p d && (but i j && not (eqb (known k (a j d)) (known k d)))) ≡ false
          at = when_accepted _ 0 0 0 0 (scan_accepted (suc n) _ (scan_accepted N _ e d h.0) j (omega arith))

          go : (b : Bool) → eqb (known k (a j d)) (known k d) ≡ b → known k (a j d) ≡ known k d
          go true q = eqb-true (known k (a j d)) (known k d) q
          go false q = absurd (true≢false (rw (h.1, ne_eqb j i ne, q) at at))

      along : (x y : ℕ) → There N p x → Cell a n i x y → known k y ≡ known k x
      along x _ h itself = refl
      along x _ h (onward d j c lj ne) = next d j (cell_present a n i (There N p) v x d h c) lj ne ∙ along x d h c

      -- so as many cells as darts that know of none lower
      pub small_count : CellCount a n N p i (count lowest_ones N)
      small_count = record {
        counted = lowest_ones;
        only = λ d l q. let w = and_both (p d) (eqb (known k d) d) q in (w.0, λ e c. omega (arith, eqb-true (known k d) d w.1, along d e (l, w.0) c, known_low k e));
        every = λ d l h low. let f : known k d ≡ d = omega (arith, known_low k d, low (known k d) (known_cell k d)) in rw (h, eq-eqb (known k d) d f);
        is = refl;
      }

-- ---- a vertex with two loose ends: a0 the identity, a1 joins 0 and 1

abbrev pub loose_ends : List ℕ
loose_ends = 0 ∷ 1 ∷ 1 ∷ 0 ∷ []

loose_explicit : ExplicitLevel 1 2 loose_ends
unfolding scan check5 check6 check7 check_map at5 at6 at7
loose_explicit = record { rows = record { dimension = lit≤ tt; darts = lit≤ tt; exact = refl }; accepts = refl }

-- one vertex and two edges, so that the sum is below zero
pub loose_census : CellCount (entry 2 loose_ends) 1 2 (present 2 loose_ends) 0 1 × CellCount (entry 2 loose_ends) 1 2 (present 2 loose_ends) 1 2 × (alternating (each (1 ∷ 2 ∷ [])) 2 ≡ negsuc 0)
unfolding scan count heard known alternating
loose_census = (small_count (entry 2 loose_ends) 1 0 2 (present 2 loose_ends) 1 (level_valid 1 2 loose_ends loose_explicit) refl, small_count (entry 2 loose_ends) 1 1 2 (present 2 loose_ends) 1 (level_valid 1 2 loose_ends loose_explicit) refl, refl)

-- ---- the star, on each level 4 − 3 + 1, 3 − 2 + 1 and 2 − 1 + 1

-- its levels 1 and 2, as they are stored
abbrev pub star_table : ℕ → List ℕ
star_table zero = star.rows
star_table (suc zero) = 6 ∷ 7 ∷ 65535 ∷ 65535 ∷ 10 ∷ 11 ∷ 0 ∷ 1 ∷ 65535 ∷ 65535 ∷ 4 ∷ 5 ∷ 5 ∷ 4 ∷ 65535 ∷ 65535 ∷ 1 ∷ 0 ∷ 7 ∷ 6 ∷ 65535 ∷ 65535 ∷ 11 ∷ 10 ∷ 1 ∷ 0 ∷ 65535 ∷ 65535 ∷ 5 ∷ 4 ∷ 7 ∷ 6 ∷ 65535 ∷ 65535 ∷ 11 ∷ 10 ∷ []
star_table (suc (suc l)) = 65535 ∷ 65535 ∷ 65535 ∷ 65535 ∷ 65535 ∷ 65535 ∷ 11 ∷ 10 ∷ 65535 ∷ 65535 ∷ 7 ∷ 6 ∷ 65535 ∷ 65535 ∷ 65535 ∷ 65535 ∷ 65535 ∷ 65535 ∷ 7 ∷ 6 ∷ 65535 ∷ 65535 ∷ 11 ∷ 10 ∷ 65535 ∷ 65535 ∷ 65535 ∷ 65535 ∷ 65535 ∷ 65535 ∷ 7 ∷ 6 ∷ 65535 ∷ 65535 ∷ 11 ∷ 10 ∷ []

pub star_levels : (table star 0 ≡ star_table 0) × (table star 1 ≡ star_table 1) × (table star 2 ≡ star_table 2)
unfolding is_mark between has_beyond beyond go_on removal listed explicit level
star_levels = (refl, refl, refl)

pub star_sums : (alternating (each (4 ∷ 3 ∷ 1 ∷ [])) 3 ≡ pos 2) × (alternating (each (3 ∷ 2 ∷ 1 ∷ [])) 3 ≡ pos 2) × (alternating (each (2 ∷ 1 ∷ 1 ∷ [])) 3 ≡ pos 2)
unfolding alternating
star_sums = (refl, refl, refl)

star_accepted : Accepted star star.rows
unfolding check_lent sizes number1 number2 number3 number4
star_accepted = check_accepts star star.rows small_maps.p9.0

-- the number of i-cells of a level of the star
abbrev pub StarCount : ℕ → ℕ → ℕ → Type 0
StarCount l i number = CellCount (level (entry 12 star.rows) 2 12 (marks 2 (each star.lambda) (each star.delta)) l) 2 12 (survives (each star.lambda) l) i number

-- is that of its table
star_count : (l : ℕ) → l ≤ 2 → (T : List ℕ) → table star l ≡ T → (i number : ℕ) → CellCount (entry 12 T) 2 12 (present 12 T) i number → StarCount l i number
star_count l ll T e i number c = table_counted star star.rows star_accepted l ll i number (subst (λ (t : List ℕ). CellCount (entry 12 t) 2 12 (present 12 t) i number) (sym e) c)

star_explicit : ExplicitLevel 2 12 (star_table 0) × ExplicitLevel 2 12 (star_table 1) × ExplicitLevel 2 12 (star_table 2)
unfolding scan check5 check6 check7 check_map at5 at6 at7
star_explicit = (record { rows = record { dimension = lit≤ tt; darts = lit≤ tt; exact = refl }; accepts = refl }, record { rows = record { dimension = lit≤ tt; darts = lit≤ tt; exact = refl }; accepts = refl }, record { rows = record { dimension = lit≤ tt; darts = lit≤ tt; exact = refl }; accepts = refl })

module _ (T : List ℕ) (x : ExplicitLevel 2 12 T) (i k : ℕ) where
  counts : settled (entry 12 T) 2 i 12 (present 12 T) k ≡ accepted → CellCount (entry 12 T) 2 12 (present 12 T) i (count (lowest_ones (entry 12 T) 2 i 12 (present 12 T) k) 12)
  counts e = small_count (entry 12 T) 2 i 12 (present 12 T) k (level_valid 2 12 T x) e

-- 4 vertices, 3 edges and a face; 3, 2 and 1; 2, 1 and 1
pub star_census : (StarCount 0 0 4 × StarCount 0 1 3 × StarCount 0 2 1) × (StarCount 1 0 3 × StarCount 1 1 2 × StarCount 1 2 1) × (StarCount 2 0 2 × StarCount 2 1 1 × StarCount 2 2 1)
unfolding scan count heard known
star_census = (
  (star_count 0 (lit≤ tt) (star_table 0) star_levels.0 0 4 (counts (star_table 0) star_explicit.0 0 3 refl), star_count 0 (lit≤ tt) (star_table 0) star_levels.0 1 3 (counts (star_table 0) star_explicit.0 1 2 refl), star_count 0 (lit≤ tt) (star_table 0) star_levels.0 2 1 (counts (star_table 0) star_explicit.0 2 6 refl)),
  (star_count 1 (lit≤ tt) (star_table 1) star_levels.1 0 3 (counts (star_table 1) star_explicit.1 0 3 refl), star_count 1 (lit≤ tt) (star_table 1) star_levels.1 1 2 (counts (star_table 1) star_explicit.1 1 2 refl), star_count 1 (lit≤ tt) (star_table 1) star_levels.1 2 1 (counts (star_table 1) star_explicit.1 2 4 refl)),
  (star_count 2 (lit≤ tt) (star_table 2) star_levels.2 0 2 (counts (star_table 2) star_explicit.2 0 3 refl), star_count 2 (lit≤ tt) (star_table 2) star_levels.2 1 1 (counts (star_table 2) star_explicit.2 1 2 refl), star_count 2 (lit≤ tt) (star_table 2) star_levels.2 2 1 (counts (star_table 2) star_explicit.2 2 4 refl)),
)
