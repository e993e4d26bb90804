-- Check a base; the same of an explicit level. Assumes nothing: these are definitions.
use Rattle.std.specs.Prelude.{true, List, ℕ, suc, ◌*◌}
use Rattle.maps.specs.Verdict.{Verdict, ◌then◌}
use Rattle.maps.specs.Sizes.{sizes, number4, has_length}
use Rattle.maps.specs.Table.{entry}
use Rattle.maps.specs.Explicit.{present}
use Rattle.maps.specs.Check.{check_map}

-- Scope: 'Check a base'. Sizes, length, then the map, all of whose darts are present.
unfoldable pub check_base : ℕ → ℕ → List ℕ → Verdict
check_base n N rows = sizes n N 0 then (number4 (has_length rows (suc n * N)) then check_map (entry N rows) n N (λ d. true))

-- Scope: 'Mark cells'. The same tests of an explicit level.
unfoldable pub check_explicit : ℕ → ℕ → List ℕ → Verdict
check_explicit n N table = sizes n N 0 then (number4 (has_length table (suc n * N)) then check_map (entry N table) n N (present N table))
