-- How a walk goes on at a dart that it met, and number 8 over all darts. Assumes nothing: these are definitions.
use Rattle.std.specs.Prelude.{◌≡◌, true, false, ◌&&◌, List, ℕ, Option, Some, None}
use Rattle.maps.specs.Table.{each}
use Rattle.maps.specs.Verdict.{Verdict, ◌then◌, scan}
use Rattle.maps.specs.Sizes.{number4, has_length}
use Rattle.maps.specs.Mark.{can_pass, across}
use Rattle.maps.specs.MarksBack.{at_marks8}
use Rattle.answers.specs.declared.Dim.{Dim}

-- A walk that came by row t goes on by the other of the mark's two rows, or nowhere if t is neither of them.
abbrev pub Goes : ℕ → ℕ → Option Dim → Type 0
Goes mark t (Some next) = (can_pass mark t ≡ true) × (next.0 ≡ across mark t)
Goes mark t None = can_pass mark t ≡ false

-- 4 of marks, then 8 over all darts, with the level asked and involution 0
unfoldable pub marks_refusal : ℕ → ℕ → ℕ → List ℕ → List ℕ → ℕ → Verdict
marks_refusal n N h lambda delta l = number4 (has_length lambda N && has_length delta N) then scan N (at_marks8 n h (each lambda) (each delta) l)
