-- Read one neighbour: by the direct walk, and by levels. Assumes nothing: these are definitions.
use Rattle.std.specs.Prelude.{◌&&◌, not, ℕ, suc, ◌*◌, ltb}
use Rattle.maps.specs.Verdict.{Verdict, accepted, refused, when, ◌then◌}
use Rattle.maps.specs.Sizes.{sizes, number4, number11, number13, has_length}
use Rattle.maps.specs.Folded.{gone, refused_marks, Folded, base, lambda_of, delta_of}
use Rattle.maps.specs.Walk.{Walked, ended, stopped, walk_at}
use Rattle.maps.specs.Trail.{since_at}
use Rattle.maps.specs.ByLevels.{by_levels}

-- Scope: 'Read one neighbour'. A neighbour with its count, or a refusal.
pub data Reading : Type 0 where
  found : (neighbour count : ℕ) → Reading
  none : (number level involution dart : ℕ) → Reading

-- Scope: 'Read one neighbour'. A refusal before the walk, else what the walk gives.
abbrev pub unless : Verdict → Reading → Reading
unless accepted reading = reading
unless (refused number level involution dart) reading = none number level involution dart

-- Scope: 'Fields'. A walk's refusal has the level asked, and the row that the walk says.
abbrev pub reading_of : ℕ → Walked → Reading
reading_of l (ended row dart count) = found dart count
reading_of l (stopped number row dart) = none number l row dart

-- Scope: 'Left behind'. A number where a neighbour is found, 0 in a refusal.
abbrev pub if_found : Reading → ℕ → ℕ
if_found (found neighbour count) number = number
if_found (none number level involution dart) x = 0

module _ (f : Folded) (l i d : ℕ) where
  open f use {n, N, h, rows, lambda, delta}

  -- Scope: 'Order of tests'. Sizes, lengths, level and involution, then 12 of a dart that isn't there, then 8 and 12 of the starting dart.
  unfoldable pub question : Verdict
  question =
      sizes n N h
      then (number4 (has_length rows (suc n * N) && (has_length lambda N && has_length delta N))
      then (number11 h l i d then (number13 n l i d
      then (when (not (ltb d N)) (refused 12 l i d)
      then (when (refused_marks n h (lambda_of f d) (delta_of f d)) (refused 8 l i d)
      then when (gone (lambda_of f) l d) (refused 12 l i d))))))

  -- Scope: 'Fields'. What the direct walk gives.
  abbrev pub walk_gives : Reading
  walk_gives = reading_of l (walk_at f l i d)

  -- Scope: 'Since which level'. Since which level its link stands, 0 in a refusal.
  abbrev pub walk_since : ℕ
  walk_since = if_found walk_gives (since_at f l i d)

  -- Scope: 'Read one neighbour'. The answer by the direct walk.
  unfoldable pub read_lent : Reading
  read_lent = unless question walk_gives

  -- Scope: 'Since which level'. One more than the largest Λ passed, or 0 if no dart was passed; 0 in a refusal.
  unfoldable pub read_since : ℕ
  read_since = if_found read_lent (since_at f l i d)

  -- Scope: 'Read by levels'. The answer by levels.
  unfoldable pub read_lent_by_levels : Reading
  read_lent_by_levels = unless question (reading_of l (by_levels (base f) n N h (lambda_of f) (delta_of f) i d l))
