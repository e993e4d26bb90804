-- Since which level a link of an accepted pyramid stands, and that its two ends tell the same. Assumes nothing.
use mathlib.Core.Path.{◌≡◌, sym, ap, ◌∙◌}
use mathlib.Core.List.{List, ◌∷◌, reverse}
use Prim.Native.Nat.{ℕ, zero, suc, ◌+◌, ◌*◌, ◌≤◌, ◌<◌}
use native.Mathlib.Omega.{arith}
use lib.ListN.{length}
use Rattle.maps.specs.Map.{Involutions}
use Rattle.maps.specs.Mark.{across}
use Rattle.maps.specs.Folded.{On, gone, marks, level}
use Rattle.maps.specs.Walk.{ended, walk}
use Rattle.maps.specs.Pyramid.{Pyramid}
use Rattle.laws.proofs.Counting.{count_le}
use Rattle.facts.proofs.Runs.{swap, Run}
use Rattle.facts.proofs.Levels.{low, high, pyramid_tower, level_floor, level_valid}
use Rattle.facts.proofs.Readings.{run_walk}
use Rattle.maps.specs.Trail.{since_of, trail_from, trail, since}
use Rattle.facts.proofs.Trails.{darts, length_darts}
use Rattle.facts.proofs.Towers.{floor, Tower, tower_ground}
use Rattle.facts.proofs.TowerLinks.{Link, link}

-- a run's darts are the trail of the walk
pub trail_run : (a : Involutions) (N : ℕ) (Λ Δ : ℕ → ℕ) (l p k t d u e : ℕ) → p < k → Run a (low Δ) (high Δ) (gone Λ l) p t d u e → trail_from a N Λ Δ l k t d ≡ darts a (low Δ) (high Δ) (gone Λ l) p t d
unfolding trail_from darts swap
trail_run a N Λ Δ l p zero t d u e f r = absurd (omega arith)
trail_run a N Λ Δ l zero (suc k) t d u e f r = rw (ap (gone Λ l) (sym r.0.1) ∙ r.1, trail_from)
trail_run a N Λ Δ l (suc p) (suc k) t d u e f r =
    rw (r.0.0, trail_from) (ap (λ (x : List ℕ). a t d ∷ x) (trail_run a N Λ Δ l p k (across (Δ (a t d)) t) (a t d) u e (omega arith) (r.0.2, r.1)))

-- The level `since` of a link: the lowest level on which the same dart already has the same neighbour by that involution.
pub record Since (a : Involutions) (n N h : ℕ) (Λ Δ : ℕ → ℕ) (l i b : ℕ) : Type 0 where
  pub at_most : since a N Λ Δ l i b ≤ l
  pub same : (m : ℕ) → since a N Λ Δ l i b ≤ m → m ≤ l → level a n N (marks h Λ Δ) m i b ≡ level a n N (marks h Λ Δ) l i b
  pub other : (m : ℕ) → m < since a N Λ Δ l i b → level a n N (marks h Λ Δ) m i b ≡ level a n N (marks h Λ Δ) l i b → ⊥

-- What the two ends b and e of a link tell on level l by involution i: each walk ends at the other's start with the same count, past the same darts in the reverse order, since the same level.
pub record Story (a : Involutions) (n N h : ℕ) (Λ Δ : ℕ → ℕ) (l i b e : ℕ) : Type 0 where
  pub count : ℕ
  pub there : walk a n N h Λ Δ l i b ≡ ended i e count
  pub back : walk a n N h Λ Δ l i e ≡ ended i b count
  pub reversed : trail a N Λ Δ l i e ≡ reverse (trail a N Λ Δ l i b)
  pub same_since : since a N Λ Δ l i e ≡ since a N Λ Δ l i b

-- the direct walk of dart b of level l by involution i in an accepted pyramid
module _ (a : Involutions) (n N h : ℕ) (Λ Δ : ℕ → ℕ) (y : Pyramid a n N h Λ Δ) (l : ℕ) (k : l ≤ h) (i b : ℕ) (li : i ≤ n) (o : On N Λ l b) where
  -- the pyramid as a tower
  tower : Tower a n N h Λ (low Δ) (high Δ)
  tower = pyramid_tower a n N h Λ Δ y

  -- how many darts the walk passes
  passes : ℕ
  passes = (link a n N h Λ (low Δ) (high Δ) tower l k i b li o).0

  -- which ones
  abbrev passed : List ℕ
  passed = darts a (low Δ) (high Δ) (gone Λ l) passes i b

  -- the walk's link in the tower
  own : Link a N Λ (low Δ) (high Δ) l i b (since_of Λ passed) passes
  unfolding passes
  own = (link a n N h Λ (low Δ) (high Δ) tower l k i b li o).1

  -- where the walk ends
  abbrev end : ℕ
  end = floor a (low Δ) (high Δ) N Λ l i b

  -- that is the level's neighbour
  level_end : (m : ℕ) → m ≤ l → level a n N (marks h Λ Δ) m i b ≡ floor a (low Δ) (high Δ) N Λ m i b
  level_end m z = level_floor a n N h Λ Δ y m (omega arith) i b li (o.0, omega (arith, o.1))

  -- it passes few enough darts for 1 + 2N reads
  fits : passes < 1 + 2 * N
  fits = omega (arith, own.few, count_le (gone Λ l) N)

  -- the trail is the darts passed
  trail_is : trail a N Λ Δ l i b ≡ passed
  unfolding trail
  trail_is = trail_run a N Λ Δ l passes (1 + 2 * N) i b i end fits own.there

  -- so since is one more than the largest Λ of them
  since_is : since a N Λ Δ l i b ≡ since_of Λ passed
  unfolding since
  since_is = ap (since_of Λ) trail_is

  -- a run of so many darts is a walk that ends, with one read more
  walk_is : (d e : ℕ) → d < N → Run a (low Δ) (high Δ) (gone Λ l) passes i d i e → walk a n N h Λ Δ l i d ≡ ended i e (suc passes)
  unfolding walk
  walk_is d e ld r =
      let z : 0 + suc passes ≡ suc passes = omega arith in
      run_walk a n N h Λ Δ l i d (tower_ground a n N h Λ (low Δ) (high Δ) tower l k) y.allowed passes (1 + 2 * N) i d i e 0 fits li ld r ∙ ap (ended i e) z

  -- the trail is the walk's: the walk reads one entry more than it passes darts
  pub walk_trail : walk a n N h Λ Δ l i b ≡ ended i (level a n N (marks h Λ Δ) l i b) (suc (length (trail a N Λ Δ l i b)))
  walk_trail = rw (trail_is, length_darts, level_end l (omega arith)) (walk_is b end o.0 own.there)

  -- Since which level a link stands: one more than the largest Λ passed, or 0 if no dart was passed, is the lowest level with the same neighbour.
  pub stands_since_lem : Since a n N h Λ Δ l i b
  stands_since_lem = record {
    at_most = rw since_is own.at_most;
    same = λ m x lm. level_end m lm ∙ own.same m (rw since_is at x) lm ∙ sym (level_end l (omega arith));
    other = λ m x q.
        let x' : m < since_of Λ passed = rw since_is at x in
        own.other m x' (sym (level_end m (omega (arith, own.at_most))) ∙ q ∙ level_end l (omega arith));
  }

  -- Both ends tell the same story.
  pub both_ends : Story a n N h Λ Δ l i b (level a n N (marks h Λ Δ) l i b)
  unfolding trail since
  both_ends =
      let e = level_end l (omega arith) in
      let le : end < N = rw e at ((level_valid a n N h Λ Δ y l k).inside i b li o).0 in
      let t : trail a N Λ Δ l i end ≡ darts a (low Δ) (high Δ) (gone Λ l) passes i end = trail_run a N Λ Δ l passes (1 + 2 * N) i end i b fits own.back in
      record {
        count = suc passes;
        there = rw e (walk_is b end o.0 own.there);
        back = rw e (walk_is end b le own.back);
        reversed = rw e (t ∙ own.reversed ∙ ap reverse (sym trail_is));
        same_since = rw e (ap (since_of Λ) t ∙ own.back_since ∙ sym since_is);
      }
