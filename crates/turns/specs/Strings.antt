-- The turns of the loops along the strings of kernels. That the loops are these is read in the code: no function answers how often it turns. Assumes nothing: these are definitions.
use Rattle.std.specs.Prelude.{cond, List, ℕ, zero, suc, ◌+◌, ◌-◌, eqb, ltb}
use Rattle.maps.specs.Count.{sum}
use Rattle.maps.specs.Table.{each}

-- the turns of `while d < N { .. d = next[d] }` from d on, as `whole`, `fitting` and `clear_strung` turn, where it is broken off after so many at the latest
unfoldable pub turns_along : ℕ → List ℕ → ℕ → ℕ → ℕ
turns_along N next zero d = 0
turns_along N next (suc times) d = cond (ltb d N) (suc (turns_along N next times (each next d))) 0

-- the same along the strings of the kernels from one level to below another, as `go_on` climbs them; a kernel that is not come to is broken off after no turn
unfoldable pub turns_over : ℕ → List ℕ → List ℕ → (ℕ → ℕ) → ℕ → ℕ → ℕ
turns_over N head next times from to = sum (λ l. turns_along N next (times (from + l)) (each head (from + l))) (to - from)

-- the turns of the loops along the runs of one mark in a string, over all its runs, as `whole_on` and `relink_alike` turn: where a dart has another mark than the one before, the run ends with a turn that finds this, and the next run begins with it
unfoldable pub turns_alike : (ℕ → ℕ) → ℕ → List ℕ → ℕ → ℕ → ℕ → ℕ
turns_alike mark N next zero m d = 0
turns_alike mark N next (suc times) m d = cond (ltb d N) (cond (eqb (mark d) m) 1 2 + turns_alike mark N next times (mark d) (each next d)) 0

-- the same along the strings of the kernels from one level to below another
unfoldable pub alike_over : (ℕ → ℕ) → ℕ → List ℕ → List ℕ → (ℕ → ℕ) → ℕ → ℕ → ℕ
alike_over mark N head next times from to = sum (λ l. turns_alike mark N next (times (from + l)) (mark (each head (from + l))) (each head (from + l))) (to - from)
