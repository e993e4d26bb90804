-- What a search asks, and what it finds. Assumes nothing: these are definitions.
use Rattle.std.specs.Prelude.{◌≡◌, ◌⊎◌, Bool, true, false, cond, List, ℕ, suc, ◌≤◌, ◌<◌, get_or}
use Rattle.maps.specs.Map.{Involutions}
use Rattle.maps.specs.Orbit.{Orbit}
use Rattle.maps.specs.Table.{entry}
use Rattle.answers.specs.Rows.{Rows}
use Rattle.answers.specs.declared.Dim.{Dim}
use Rattle.orbits.specs.Choices.{uses}
use Rattle.orbits.specs.Search.{State, has, Stored, pushed, spread, turns}
use Rattle.orbits.specs.declared.Search.{Search}

-- no row used leads out of the set
abbrev pub Closed : Involutions → ℕ → (ℕ → ℕ → Bool) → (ℕ → Bool) → Type 0
Closed a n uses within = (d j : ℕ) → within d ≡ true → j ≤ n → uses j d ≡ true → within (a j d) ≡ true

-- from a dart that is reached, a row used leads to a dart
abbrev pub Inside : Involutions → ℕ → ℕ → (ℕ → ℕ → Bool) → ℕ → Type 0
Inside a n N uses start = (d j : ℕ) → Orbit a n uses start d → j ≤ n → uses j d ≡ true → a j d < N

-- what a search from start asks; old is the set of the darts reached before
pub record Ready (n N : ℕ) (table : List ℕ) (uses : ℕ → ℕ → Bool) (start : ℕ) (old : ℕ → Bool) : Type 0 where
  pub rows : Rows n N table
  pub first : start < N
  pub inside : Inside (entry N table) n N uses start
  pub closed : Closed (entry N table) n uses old

-- what a turn asks: there are rows 0 and 1, the rows of its choice lead from its dart to darts, and the queue has room
pub record Spreads (from : Search) (choice : ℕ) (table : List ℕ) (s : State) : Type 0 where
  pub two_rows : 1 ≤ from.n.0
  pub rows : Rows from.n.0 from.darts table
  pub dart : from.dart < from.darts
  pub inside : (j : ℕ) → j ≤ from.n.0 → uses choice j ≡ true → entry from.darts table j from.dart < from.darts
  pub stored : Stored from.darts s

-- a search with nothing in the queue
abbrev pub begun : Dim → ℕ → ℕ → Search
begun n darts dart = record { n = n; darts = darts; dart = dart; tail = 0 }

-- the same search with another end of the queue
abbrev pub ending_at : Search → ℕ → Search
ending_at from tail = record { n = from.n; darts = from.darts; dart = from.dart; tail = tail }

-- the state once the neighbour of a dart by a row is in the queue, if its choice uses the row
abbrev pub pushed_by : Search → ℕ → List ℕ → ℕ → State → State
pushed_by from choice table row s = cond (uses choice row) (pushed s (entry from.darts table row from.dart)) s

-- the state once the neighbours of a dart by the rows of its choice are in the queue
abbrev pub spread_by : Search → ℕ → List ℕ → State → State
spread_by from choice table s = spread (entry from.darts table) (uses choice) from.dart s (suc from.n.0)

-- the orbit of a dart is added to a set, and nothing else
pub record Added (a : Involutions) (n : ℕ) (uses : ℕ → ℕ → Bool) (start : ℕ) (old new : ℕ → Bool) : Type 0 where
  pub kept : (d : ℕ) → old d ≡ true → new d ≡ true
  pub whole : (d : ℕ) → Orbit a n uses start d → new d ≡ true
  pub only : (d : ℕ) → new d ≡ true → (old d ≡ true) ⊎ Orbit a n uses start d
  pub closed : Closed a n uses new

-- the darts added stand in the queue from its old end to its new one, each once, and nothing else does
pub record Queued (N : ℕ) (old new : ℕ → Bool) (queue : List ℕ) (begin end : ℕ) : Type 0 where
  pub few : end ≤ N
  pub each : (k : ℕ) → begin ≤ k → k < end → (get_or queue k 0 < N) × (old (get_or queue k 0) ≡ false) × (new (get_or queue k 0) ≡ true)
  pub once : (k m : ℕ) → begin ≤ k → k < m → m < end → get_or queue k 0 ≡ get_or queue m 0 → ⊥
  pub every : (d : ℕ) → old d ≡ false → new d ≡ true → (k : ℕ) × (begin ≤ k) × (k < end) × (get_or queue k 0 ≡ d)

-- what a search from start leaves of the state s
pub record Found (n N : ℕ) (a : Involutions) (uses : ℕ → ℕ → Bool) (start : ℕ) (s t : State) : Type 0 where
  -- the set, the queue in its order and its end are those after N turns
  pub is : t ≡ turns a n uses s.tail (pushed s start) N
  pub stored : Stored N t
  pub added : Added a n uses start (has s.reached) (has t.reached)
  pub queued : Queued N (has s.reached) (has t.reached) t.queue s.tail t.tail
  -- what stood in the queue stands
  pub before : (k : ℕ) → k < s.tail → get_or t.queue k 0 ≡ get_or s.queue k 0

-- the same of a search as the code is asked for it
abbrev pub Finds : Search → List ℕ → (ℕ → ℕ → Bool) → State → State → Type 0
Finds search table uses s t = Found search.n.0 search.darts (entry search.darts table) uses search.dart s t
