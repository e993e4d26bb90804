-- What the walks of an unfolding leave. Assumes nothing: these are definitions.
use Rattle.std.specs.Prelude.{◌≡◌, Bool, true, ◌||◌, eqb, List, ℕ, suc, ◌+◌, ◌*◌, ◌≤◌, length, Result, Ok, Err}
use Rattle.maps.specs.Verdict.{Verdict, accepted, refused, scan}
use Rattle.maps.specs.Table.{explicit}
use Rattle.maps.specs.Folded.{survives, Folded, base, lambda_of, delta_of}
use Rattle.maps.specs.Walk.{ended, stopped, walk_at}
use Rattle.maps.specs.Trail.{latest, since_at}
use Rattle.maps.specs.Cost.{cost}
use Rattle.maps.specs.Unfold.{dart_of, at_walk}
use Rattle.answers.specs.Numbers.{refusal_of, verdict_of}
use Rattle.answers.specs.declared.Refusal.{Refusal}
use Rattle.reading.specs.declared.Link.{Link}
use Rattle.filling.specs.declared.Unfolding.{Unfolding}

-- the count of all walks, 0 in a refusal
abbrev pub total_of : Result Unfolding Refusal → ℕ
total_of (Ok all) = all.count
total_of (Err r) = 0

-- since which level all links of the level stand, 0 in a refusal
abbrev pub latest_of : Result Unfolding Refusal → ℕ
latest_of (Ok all) = all.since.0
latest_of (Err r) = 0

-- a walk that ends at a dart, with the level since which its link stands; it reads 1 + 2N entries at most
pub record Arrives (f : Folded) (l i d : ℕ) (end : Link) : Type 0 where
  pub row : ℕ
  pub is : walk_at f l i d ≡ ended row end.dart end.count
  pub few : end.count ≤ 1 + 2 * f.N
  pub stands : end.since.0 ≡ since_at f l i d

-- 5, 14 and 15: the numbers by which a walk over allowed marks is refused
abbrev pub stops_walk : ℕ → Bool
stops_walk number = eqb number 5 || (eqb number 14 || eqb number 15)

-- a walk that is refused
pub record Fails (f : Folded) (l i d : ℕ) (why : Refusal) : Type 0 where
  pub number : ℕ
  pub row : ℕ
  pub dart : ℕ
  pub is : walk_at f l i d ≡ stopped number row dart
  pub said : refusal_of why ≡ refused number l row dart
  pub stops : stops_walk number ≡ true

-- how the walk of dart d by row i goes on
abbrev pub Tells : Folded → ℕ → ℕ → ℕ → Result Link Refusal → Type 0
Tells f l i d (Ok end) = Arrives f l i d end
Tells f l i d (Err why) = Fails f l i d why

module _ (f : Folded) (l : ℕ) where
  open f use {n, N, h}

  -- the first refusal of the walks, by involution, then dart
  abbrev pub walks_verdict : Verdict
  walks_verdict = scan (suc n) (λ i. scan N (at_walk f l i))

  -- what the walks leave: the first refusal; where there is none, their count, since which level all links stand, and the explicit level
  pub record Leaves (walks : Result Unfolding Refusal) (table : List ℕ) : Type 0 where
    pub size : length table ≡ suc n * N
    pub first : verdict_of walks ≡ walks_verdict
    pub stops : (number level row dart : ℕ) → walks_verdict ≡ refused number level row dart → stops_walk number ≡ true
    pub total : walks_verdict ≡ accepted → total_of walks ≡ cost (base f) n N h (lambda_of f) (delta_of f) l
    pub since : walks_verdict ≡ accepted → latest_of walks ≡ latest (base f) N (lambda_of f) (delta_of f) l n
    pub level : walks_verdict ≡ accepted → table ≡ explicit (λ i d. dart_of (walk_at f l i d)) n N (survives (lambda_of f) l)
