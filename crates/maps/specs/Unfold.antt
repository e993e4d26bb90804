-- Unfold a whole level into a lent table by direct walks, with the total count. Assumes nothing: these are definitions.
use Rattle.std.specs.Prelude.{true, false, cond, ◌&&◌, ◌||◌, List, ℕ, suc, ◌*◌, length, eqb}
use Rattle.maps.specs.Verdict.{Verdict, accepted, refused, if_accepted, ◌then◌, scan}
use Rattle.maps.specs.Sizes.{sizes, number4, number11, has_length}
use Rattle.maps.specs.Table.{listed, absent, explicit}
use Rattle.maps.specs.Folded.{survives, Folded, base, lambda_of, delta_of}
use Rattle.maps.specs.Walk.{Walked, ended, stopped, walk_at}
use Rattle.maps.specs.Trail.{latest}
use Rattle.maps.specs.Cost.{cost}
use Rattle.maps.specs.MarksBack.{at_marks8}

-- Scope: 'Fields'. A walk's refusal, with the level asked.
abbrev pub walk_verdict : ℕ → Walked → Verdict
walk_verdict l (ended row dart count) = accepted
walk_verdict l (stopped number row dart) = refused number l row dart

-- Scope: 'Direct walk'. The dart where a walk ends.
abbrev pub dart_of : Walked → ℕ
dart_of (ended row dart count) = dart
dart_of (stopped number row dart) = 0

-- Scope: 'Unfold a level'. Only survivors begin a walk.
unfoldable pub at_walk : Folded → ℕ → ℕ → ℕ → Verdict
at_walk f l i d = elim (survives (lambda_of f) l d) [ true ↦ walk_verdict l (walk_at f l i d) | false ↦ accepted ]

module _ (f : Folded) (l : ℕ) (table : List ℕ) where
  open f use {n, N, h, rows, lambda, delta}

  -- Scope: 'Unfold a level'. Sizes and lengths, then 11, 8 over all darts, and the walks by involution, then dart.
  unfoldable pub unfold_lent : Verdict
  unfold_lent =
      sizes n N h
      then (number4 (has_length rows (suc n * N) && (has_length lambda N && (has_length delta N && has_length table (suc n * N))))
      then (number11 h l 0 0 then (scan N (at_marks8 n h (lambda_of f) (delta_of f) l)
      then scan (suc n) (λ i. scan N (at_walk f l i)))))

  -- Scope: 'Unfold a level'. The sum of all counts; 0 in a refusal.
  unfoldable pub unfold_total : ℕ
  unfold_total = if_accepted unfold_lent (cost (base f) n N h (lambda_of f) (delta_of f) l) 0

  -- Scope: 'Since which level'. The largest over the level's readings, 0 in a refusal.
  unfoldable pub unfold_since : ℕ
  unfold_since = if_accepted unfold_lent (latest (base f) N (lambda_of f) (delta_of f) l n) 0

  -- Scope: 'Left behind'. After 5, 14 or 15 the table is 65,535 throughout; after any other number as found.
  abbrev pub unfolded : Verdict → List ℕ → List ℕ
  unfolded accepted new = new
  unfolded (refused number level involution dart) new = cond (eqb number 5 || (eqb number 14 || eqb number 15)) (listed (λ x. absent) (length table)) table

  -- Scope: 'Unfold a level'. What is left in the table; accepted, the explicit level.
  unfoldable pub unfold_leaves : List ℕ
  unfold_leaves = unfolded unfold_lent (explicit (λ i d. dart_of (walk_at f l i d)) n N (survives (lambda_of f) l))
