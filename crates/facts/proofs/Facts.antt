-- The walk facts, for every n up to 9, every accepted pyramid and every level. Assumes nothing.
use mathlib.Core.Path.{◌≡◌, ap}
use Prim.Native.Nat.{ℕ, suc, ◌+◌, ◌*◌, ◌≤◌}
use native.Mathlib.Omega.{arith}
use borrow.Author.Tests.{le-ltb}
use Rattle.maps.specs.Map.{Involutions, Valid}
use Rattle.maps.specs.Kernel.{Kernel}
use Rattle.maps.specs.Removal.{removal}
use Rattle.maps.specs.Folded.{On, survivors, removed_below, marks, addΛ, addΔ, level}
use Rattle.maps.specs.Walk.{ended, count_of, walk}
use Rattle.maps.specs.ByLevels.{by_levels}
use Rattle.maps.specs.Cost.{reads, cost}
use Rattle.maps.specs.MarkRow.{Row}
use Rattle.maps.specs.Pyramid.{Pyramid}
use Rattle.facts.proofs.Levels.{level_valid, level_floor}
use Rattle.facts.proofs.Readings.{own, walk_course}
use Rattle.facts.proofs.Costs.{cost_bound}
use Rattle.facts.proofs.ByLevels.{by_levels_lem}
use Rattle.facts.proofs.Adding.{level_kept, level_new, added}

module _ (a : Involutions) (n N h : ℕ) (Λ Δ : ℕ → ℕ) where
  -- of level l
  pub record Facts (l : ℕ) : Type 0 where
    -- the level is a valid map on exactly the survivors
    pub valid : Valid (level a n N (marks h Λ Δ) l) n (On N Λ l)
    -- the direct walk ends at that level's neighbour, by the row it began with, and so meets no 5, 8, 14 or 15
    pub ends : (i b : ℕ) → i ≤ n → On N Λ l b → walk a n N h Λ Δ l i b ≡ ended i (level a n N (marks h Λ Δ) l i b) (reads a n N h Λ Δ l i b)
    -- one walk reads at least one entry, and at most 1 + 2·(darts removed or contracted below)
    pub few : (i b : ℕ) → i ≤ n → On N Λ l b → (1 ≤ reads a n N h Λ Δ l i b) × (reads a n N h Λ Δ l i b ≤ 1 + 2 * removed_below N Λ l)
    -- the whole level costs at most (n+1)·survivors + 2·(removed or contracted)
    pub bound : cost a n N h Λ Δ l ≤ suc n * survivors N Λ l + 2 * removed_below N Λ l
    -- the reading by levels gives the same neighbour with the same count
    pub alike : (i b : ℕ) → i ≤ n → On N Λ l b → by_levels a n N h Λ Δ i b l ≡ walk a n N h Λ Δ l i b

  module _ (y : Pyramid a n N h Λ Δ) where
    reads_is : (l : ℕ) (k : l ≤ h) (i b : ℕ) (li : i ≤ n) (o : On N Λ l b) → reads a n N h Λ Δ l i b ≡ suc ((own a n N h Λ Δ y l k).course i b li o).passes
    unfolding reads
    reads_is l k i b li o = rw (le-ltb (Λ b) l o.1) (ap count_of (walk_course a n N h Λ Δ y l k i b li o))

    pub facts : (l : ℕ) → l ≤ h → Facts l
    facts l k = record {
      valid = level_valid a n N h Λ Δ y l k;
      ends = λ i b li o. rw (reads_is l k i b li o, level_floor a n N h Λ Δ y l k i b li o) (walk_course a n N h Λ Δ y l k i b li o);
      few = λ i b li o. rw (reads_is l k i b li o) (omega arith, omega (arith, (own a n N h Λ Δ y l k).few i b li o));
      bound = cost_bound a n N h Λ Δ y l k;
      alike = by_levels_lem a n N h Λ Δ y l k;
    }

    -- one accepted kernel more, on level h: an accepted pyramid again; the lower levels stay, the new top is the removal
    pub record Grown (mark : ℕ → ℕ) : Type 0 where
      pub pyramid : Pyramid a n N (suc h) (addΛ n h Λ mark) (addΔ n Δ mark)
      pub lower : (l : ℕ) → l ≤ h → (i d : ℕ) → i ≤ n → On N Λ l d → level a n N (marks h Λ Δ) l i d ≡ level a n N (marks (suc h) (addΛ n h Λ mark) (addΔ n Δ mark)) l i d
      pub top : (i d : ℕ) → i ≤ n → On N Λ h d → removal (level a n N (marks h Λ Δ) h) n mark N i d ≡ level a n N (marks (suc h) (addΛ n h Λ mark) (addΔ n Δ mark)) (suc h) i d

    pub grown : (mark : ℕ → ℕ) → Row n N h Λ mark → Kernel (level a n N (marks h Λ Δ) h) n (On N Λ h) mark → Grown mark
    grown mark r k = record { pyramid = added a n N h Λ Δ y mark r k; lower = level_kept a n N h Λ Δ y mark r k; top = level_new a n N h Λ Δ y mark r k }
