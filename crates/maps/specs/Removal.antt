-- The rows that a kernel leaves, all of its cells taken at once, some removed and others contracted. Assumes nothing: these are definitions.
use Rattle.std.specs.Prelude.{Bool, true, false, ◌&&◌, ℕ, zero, suc, eqb}
use Rattle.maps.specs.Map.{Involutions}
use Rattle.maps.specs.Mark.{is_mark, between}

module _ (a : Involutions) (n : ℕ) (mark : ℕ → ℕ) where
  -- Scope: 'Kernels'. Is dart d in the kernel, removed or contracted with dimension i?
  abbrev pub marked : ℕ → ℕ → Bool
  marked i d = is_mark n (mark d) && eqb (between (mark d)).0 i

  -- Scope: 'Removal'. From a dart of dimension i the way goes on, by the second row of its mark and then by a_i, at most so many times. One way may pass
  -- removed and contracted darts.
  unfoldable pub go_on : ℕ → ℕ → ℕ → ℕ
  go_on zero i d = d
  go_on (suc times) i d = elim (marked i d) [ true ↦ go_on times i (a i (a (between (mark d)).1 d)) | false ↦ d ]

  -- Scope: 'Removal'. How many times it goes on, of so many. Each turn reads two entries.
  unfoldable pub turns_from : ℕ → ℕ → ℕ → ℕ
  turns_from zero i d = 0
  turns_from (suc times) i d = elim (marked i d) [ true ↦ suc (turns_from times i (a i (a (between (mark d)).1 d))) | false ↦ 0 ]

  -- Scope: 'Removal'. The new a_i of a survivor. A kernel that is accepted has no way that goes on more than N times.
  unfoldable pub removal : ℕ → Involutions
  removal N i b = go_on N i (a i b)
