-- The tests of what a job is lent or asked, before it looks at any entry: numbers 1 to 4, 11 and 13. Assumes nothing: these are definitions.
use Rattle.std.specs.Prelude.{Bool, ◌&&◌, not, List, ℕ, length, eqb, leb, ltb}
use Rattle.maps.specs.Verdict.{Verdict, refused, when, ◌then◌}

-- Scope: 'Numbers of refusal'. 1: n is not 1 to 4.
unfoldable pub number1 : ℕ → Verdict
number1 n = when (not (leb 1 n && leb n 4)) (refused 1 0 0 0)

-- Scope: 'Numbers of refusal'. 2: N is not 1 to 4,096.
unfoldable pub number2 : ℕ → Verdict
number2 N = when (not (leb 1 N && leb N 4096)) (refused 2 0 0 0)

-- Scope: 'Numbers of refusal'. 3: h is above 32.
unfoldable pub number3 : ℕ → Verdict
number3 h = when (ltb 32 h) (refused 3 0 0 0)

-- Scope: 'Order of tests'. These three in order; a job that has no n is tested at 1, one that has no h at 0.
unfoldable pub sizes : ℕ → ℕ → ℕ → Verdict
sizes n N h = number1 n then (number2 N then number3 h)

-- Scope: 'What is lent and asked'. A slice has exactly so many entries.
abbrev pub has_length : List ℕ → ℕ → Bool
has_length slice m = eqb (length slice) m

-- Scope: 'Numbers of refusal'. 4: a slice has not.
unfoldable pub number4 : Bool → Verdict
number4 exact = when (not exact) (refused 4 0 0 0)

-- Scope: 'Numbers of refusal'. 11: the level asked is above h. It repeats what was asked.
unfoldable pub number11 : ℕ → ℕ → ℕ → ℕ → Verdict
number11 h l i d = when (ltb h l) (refused 11 l i d)

-- Scope: 'Numbers of refusal'. 13: the involution asked is above n. It repeats what was asked.
unfoldable pub number13 : ℕ → ℕ → ℕ → ℕ → Verdict
number13 n l i d = when (ltb n i) (refused 13 l i d)
