-- What each job reads of rows and table in its loops that depend on the data, added up. What a theorem asks (`Base`, `Leads`, `Linked`) is what the functions with these loops require, so it holds wherever they are run. Assumes nothing.
use mathlib.Core.Path.{◌≡◌}
use mathlib.Core.Bool.{Bool}
use mathlib.Core.List.{List}
use Prim.Native.Nat.{ℕ, suc, ◌+◌, ◌*◌, ◌≤◌, ◌<◌}
use native.Mathlib.Nat.{mul-le-mul_left}
use native.Mathlib.Omega.{arith}
use lib.ListN.{length}
use Rattle.maps.specs.Verdict.{accepted}
use Rattle.maps.specs.Count.{sum}
use Rattle.maps.specs.Table.{entry, each}
use Rattle.maps.specs.Folded.{Folded, lambda_of, removed_below, survivors}
use Rattle.maps.specs.Accepted.{Accepted}
use Rattle.maps.specs.CheckPyramid.{table_at}
use Rattle.maps.specs.Join.{joinΛ}
use Rattle.orbits.specs.Choices.{chosen}
use Rattle.orbits.specs.Explicit.{but}
use Rattle.kernels.specs.Strings.{kernel_row, Linked}
use Rattle.kernels.proofs.Turns.{relink_reads}
use Rattle.climbing.specs.Climb.{Base, climbs_to}
use Rattle.counting.proofs.Levels.{climb_base}
use Rattle.regions.specs.Searches.{Leads}
use Rattle.turns.specs.Strings.{turns_along}
use Rattle.turns.specs.Searches.{read_on, named_orbits}
use Rattle.turns.proofs.Climbs.{removed_rises, joined_turns}
use Rattle.turns.proofs.Entries.{climb_reads, check_reads, climb_reads_lem, check_reads_lem, relinks_reads}
use Rattle.turns.proofs.Searches.{census_queues, regions_queues}

-- darts gone
abbrev pub gone_of : Folded → ℕ
gone_of f = removed_below f.N (lambda_of f) f.h

-- Name regions: the check, and the searches, which are made where nothing is refused.
pub regions_reads : (f : Folded) (table choices queue : List ℕ) → Leads f.n f.N f.rows choices → length queue ≡ 4096
    → check_reads f table + (named_orbits (entry f.N f.rows) f.n f.N (chosen choices) queue).entries ≤ (2 * f.n + 8) * gone_of f + suc f.n * f.N
regions_reads f table choices queue r z = omega (arith, check_reads_lem f table, (regions_queues f.n f.N f.rows choices r queue z).1)

module _ (f : Folded) (b : Base f) where
  low : (l : ℕ) → l ≤ f.h → climb_reads f l ≤ (2 * f.n + 8) * gone_of f
  low l k = omega (arith, climb_reads_lem f b l k, mul-le-mul_left (2 * f.n + 8) (removed_rises f.N (lambda_of f) l f.h k))

  -- Join kernels l and l+1: all kernels are climbed, and along the joined string every row is read but the first of a dart's mark.
  module _ (l : ℕ) (k : suc l < f.h) {Λ' : ℕ → ℕ} {head next : List ℕ} (s : Linked f.N Λ' 0 head next) (is : (d : ℕ) → d < f.N → Λ' d ≡ joinΛ l (lambda_of f) d) (times : ℕ) where
    pub join_reads : climb_reads f f.h + f.n * turns_along f.N next times (each head l) ≤ (2 * f.n + 8) * gone_of f + f.n * gone_of f
    join_reads = omega (arith, low f.h (omega arith), mul-le-mul_left f.n (joined_turns s (lambda_of f) l f.h is k (omega (arith, b.height)) times))

    -- where the joined kernel is refused, the kernels below are climbed once more
    pub join_reads_refused : climb_reads f f.h + climb_reads f l + f.n * turns_along f.N next times (each head l) ≤ 2 * ((2 * f.n + 8) * gone_of f) + f.n * gone_of f
    join_reads_refused = omega (arith, join_reads, low l (omega arith))

  -- Start again from level l: the check, and the removals up to the level.
  pub rebase_reads : (table : List ℕ) (l : ℕ) → l ≤ f.h → climbs_to f l ≡ accepted
      → check_reads f table + sum (λ k. relink_reads f.n f.N (kernel_row f.lambda f.delta k) (table_at f k)) l ≤ (2 * f.n + 8) * gone_of f + 4 * gone_of f
  rebase_reads table l k e = omega (arith, check_reads_lem f table, relinks_reads f b l k e, removed_rises f.N (lambda_of f) l f.h k)

-- A census: the check, its own climb, and the searches of every level and dimension.
module _ (f : Folded) (table : List ℕ) (p : Accepted f table) (queue : ℕ → ℕ → List ℕ) (z : (l i : ℕ) → length (queue l i) ≡ 4096)
    (cell : ℕ → ℕ → ℕ → Bool) (is : (i j d : ℕ) → i ≤ f.n → j ≤ f.n → d < f.N → cell i j d ≡ but i j) where
  open f use {n, N, h}

  pub census_reads : check_reads f table + climb_reads f h + sum (read_on f cell queue) (suc h) ≤ 2 * ((2 * n + 8) * gone_of f) + sum (λ l. suc n * (n * survivors N (lambda_of f) l)) (suc h)
  census_reads =
      omega (arith, check_reads_lem f table, climb_reads_lem f (climb_base f table p h (omega arith)) h (omega arith), (census_queues f table p queue z cell is).1)
