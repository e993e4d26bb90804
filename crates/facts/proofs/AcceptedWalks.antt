-- What other crates may cite of accepted pyramids, in the words of `walk` and `trail`: what check accepts, that each level is a valid map, and how the darts passed lead to a neighbour. Assumes nothing.
use mathlib.Core.Path.{◌≡◌, refl}
use mathlib.Core.Bool.{true}
use mathlib.Core.List.{List, [], ◌∷◌}
use Prim.Native.Nat.{ℕ, zero, suc, ◌+◌, ◌*◌, ◌≤◌, ◌<◌}
use native.Mathlib.Omega.{arith}
use Rattle.maps.specs.Map.{Involutions}
use Rattle.maps.specs.Mark.{can_pass, across}
use Rattle.maps.specs.Folded.{On, gone, marks, level}
use Rattle.maps.specs.Trail.{trail}
use Rattle.maps.specs.Pyramid.{Pyramid}
use Rattle.laws.proofs.Counting.{count_le}
use Rattle.facts.proofs.Runs.{swap, Reaches}
use Rattle.facts.proofs.Levels.{low, high}
use Rattle.facts.proofs.Readings.{can_pass_lem, walks}
use Rattle.facts.proofs.Trails.{darts}
use Rattle.facts.proofs.Links.{trail_run}
pub use Rattle.facts.proofs.Levels.{level_valid}
pub use Rattle.facts.proofs.Checks.{check_pyramid_lem}
pub use Rattle.facts.proofs.ExactJobs.{check_accepts}
pub use Rattle.facts.proofs.Links.{walk_trail}

module _ (a : Involutions) (Λ Δ : ℕ → ℕ) (l : ℕ) where
  -- Darts passed one after the other lead from row t of dart d to e: each is gone from level l and lets a walk that came by its row pass, by the other row of its mark.
  abbrev pub Leads : ℕ → ℕ → List ℕ → ℕ → Type 0
  Leads t d [] e = e ≡ a t d
  Leads t d (x ∷ passed) e = (x ≡ a t d) × (gone Λ l x ≡ true) × (can_pass (Δ x) t ≡ true) × Leads (across (Δ x) t) x passed e

  run_leads : (p t d u e : ℕ) → Reaches a (low Δ) (high Δ) (gone Λ l) p t d u e → Leads t d (darts a (low Δ) (high Δ) (gone Λ l) p t d) e
  unfolding swap darts
  run_leads zero t d u e r = r.1
  run_leads (suc p) t d u e r = (refl, r.0, can_pass_lem Δ (a t d) t r.1, run_leads p (across (Δ (a t d)) t) (a t d) u e r.2)

-- the trail of a dart of level l leads to its neighbour on that level
pub trail_leads : (a : Involutions) (n N h : ℕ) (Λ Δ : ℕ → ℕ) → Pyramid a n N h Λ Δ → (l : ℕ) → l ≤ h → (i b : ℕ) → i ≤ n → On N Λ l b → Leads a Λ Δ l i b (trail a N Λ Δ l i b) (level a n N (marks h Λ Δ) l i b)
unfolding trail
trail_leads a n N h Λ Δ y l k i b li o =
    let w = walks a n N h Λ Δ y l k i b li o in
    let e = level a n N (marks h Λ Δ) l i b in
    let f : w.passes < 1 + 2 * N = omega (arith, w.few, count_le (gone Λ l) N) in
    rw (trail_run a N Λ Δ l w.passes (1 + 2 * N) i b i e f w.run) (run_leads a Λ Δ l w.passes i b i e w.run.0)
