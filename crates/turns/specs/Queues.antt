-- Searches over one set of flags, one after the other, and the darts that they put in their queues. That the loops of marking, census and regions make such runs is read in the code. Assumes nothing: these are definitions.
use Rattle.std.specs.Prelude.{◌≡◌, Bool, ℕ, suc, ◌-◌, ◌<◌}
use Rattle.maps.specs.Map.{Involutions}
use Rattle.orbits.specs.Search.{State}
use Rattle.orbits.specs.Orbits.{Found}

-- So many searches, each as the contract of `orbit` says: search k finds `before k` and leaves `after k`, and the next finds its flags as they are left. What stands in
-- the queue before a search, and where it begins, is left open.
pub record Run (n N : ℕ) (a : Involutions) (uses : ℕ → ℕ → ℕ → Bool) (start : ℕ → ℕ) (before after : ℕ → State) (m : ℕ) : Type 0 where
  pub found : (k : ℕ) → k < m → Found n N a (uses k) (start k) (before k) (after k)
  pub handed : (k : ℕ) → suc k < m → (before (suc k)).reached ≡ (after k).reached

-- the darts that search k puts in the queue, from the end that it is given to the end that it answers: so often a flag is turned, and so often its loop turns, which takes each dart of the queue once
abbrev pub queued_in : (ℕ → State) → (ℕ → State) → ℕ → ℕ
queued_in before after k = (after k).tail - (before k).tail
