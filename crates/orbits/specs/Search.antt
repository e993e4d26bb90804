-- A search by a queue, step by step. Assumes nothing: these are definitions.
use Rattle.std.specs.Prelude.{◌≡◌, Bool, true, false, cond, List, ℕ, zero, suc, ◌+◌, ◌≤◌, length, get_or, set, ltb}
use Rattle.maps.specs.Map.{Involutions}
use Rattle.maps.specs.Count.{count}

-- a set of darts, as it is stored: is dart d in it?
abbrev pub has : List Bool → ℕ → Bool
has list d = get_or list d false

-- the darts reached, and the queue of those that the search has added, up to its tail
pub record State : Type 0 where
  pub reached : List Bool
  pub queue : List ℕ
  pub tail : ℕ

-- the three as one
abbrev pub state : List Bool → List ℕ → ℕ → State
state reached queue tail = record { reached = reached; queue = queue; tail = tail }

-- the set and the queue as they are lent, up to a tail
abbrev pub held : List Bool → List ℕ → ℕ → State
held reached queue tail = state reached queue tail

-- both have 4,096 places
pub record Room (reached : List Bool) (queue : List ℕ) : Type 0 where
  pub reached_long : length reached ≡ 4096
  pub queue_long : length queue ≡ 4096

-- and the queue is no longer than the darts reached are many, so that it has room for one that is not
pub record Stored (N : ℕ) (s : State) : Type 0 where
  pub room : Room s.reached s.queue
  pub few : s.tail ≤ count (has s.reached) N

-- a dart that is not reached yet is, and stands last in the queue
unfoldable pub pushed : State → ℕ → State
pushed s d = cond (has s.reached d) s (state (set s.reached d true) (set s.queue s.tail d) (s.tail + 1))

-- the same of all neighbours of dart d by the rows used below m, in rising order
unfoldable pub spread : Involutions → (ℕ → Bool) → ℕ → State → ℕ → State
spread a uses d s zero = s
spread a uses d s (suc m) = cond (uses m) (pushed (spread a uses d s m) (a m d)) (spread a uses d s m)

-- a turn: the neighbours of the dart at place k of the queue, where one stands there
abbrev pub turned : Involutions → ℕ → (ℕ → ℕ → Bool) → State → ℕ → State
turned a n uses s k = cond (ltb k s.tail) (spread a (λ j. uses j (get_or s.queue k 0)) (get_or s.queue k 0) s (suc n)) s

-- the search after k turns, which take the places of the queue in their order, from a given one on
unfoldable pub turns : Involutions → ℕ → (ℕ → ℕ → Bool) → ℕ → State → ℕ → State
turns a n uses from s zero = s
turns a n uses from s (suc k) = turned a n uses (turns a n uses from s k) (from + k)
