-- The mark row of a level, read back out of Λ and Δ into a lent row. Assumes nothing: these are definitions.
use Rattle.std.specs.Prelude.{◌&&◌, List, ℕ}
use Rattle.maps.specs.Verdict.{Verdict, refused, when, if_accepted, ◌then◌, scan}
use Rattle.maps.specs.Sizes.{sizes, number4, number11, has_length}
use Rattle.maps.specs.Table.{each, listed}
use Rattle.maps.specs.Folded.{refused_marks, marks}

-- Scope: 'Fields'. Number 8 of marks read back has the level asked and involution 0.
unfoldable pub at_marks8 : ℕ → ℕ → (ℕ → ℕ) → (ℕ → ℕ) → ℕ → ℕ → Verdict
at_marks8 n h Λ Δ l d = when (refused_marks n h (Λ d) (Δ d)) (refused 8 l 0 d)

module _ (n N h : ℕ) (lambda delta : List ℕ) (l : ℕ) (out : List ℕ) where
  -- Scope: 'Marks read back'. Sizes and lengths, then 11, then 8 over all darts.
  unfoldable pub marks_lent : Verdict
  marks_lent = sizes n N h then (number4 (has_length lambda N && (has_length delta N && has_length out N)) then (number11 h l 0 0 then scan N (at_marks8 n h (each lambda) (each delta) l)))

  -- Scope: 'Marks read back'. Accepted, the level's mark row; refused, as found.
  unfoldable pub marks_leaves : List ℕ
  marks_leaves = if_accepted marks_lent (listed (marks h (each lambda) (each delta) l) N) out
