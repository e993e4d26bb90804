-- What climbing into blocks asks and leaves. Assumes nothing: these are definitions.
use Rattle.std.specs.Prelude.{List, ◌++◌, ℕ, suc, ◌*◌, take, drop}
use Rattle.maps.specs.Verdict.{Verdict, if_accepted, ◌then◌}
use Rattle.maps.specs.Sizes.{has_length}
use Rattle.maps.specs.Table.{entry}
use Rattle.maps.specs.Folded.{Folded, base, lambda_of, delta_of}
use Rattle.maps.specs.Check.{check_kernel, check_pyramid}
use Rattle.maps.specs.UnfoldAll.{stacked, blocks_left}
use Rattle.checking.specs.Checked.{sizes_with}
use Rattle.kernels.specs.declared.Kernel.{Kernel}
use Rattle.kernels.specs.Ready.{row_of, removed_from}
use Rattle.climbing.specs.Climb.{climbs}

-- 1 to 4 of base rows, marks and blocks
abbrev pub stack_sizes : Folded → List ℕ → Verdict
stack_sizes f tables = sizes_with f (has_length tables (suc f.h * (suc f.n * f.N)))

-- and the check's own
abbrev pub stack_lent : Folded → List ℕ → Verdict
stack_lent f tables = stack_sizes f tables then check_pyramid (base f) f.n f.N f.h (lambda_of f) (delta_of f)

-- the first m levels in their blocks, and behind them what was found
abbrev pub stacked_on : Folded → List ℕ → ℕ → List ℕ
stacked_on f tables m = stacked f m ++ drop (m * (suc f.n * f.N)) tables

-- what a verdict leaves in the blocks
abbrev pub stack_leaves : Folded → List ℕ → Verdict → List ℕ
stack_leaves f tables v = stacked_on f tables (blocks_left f.h v)

-- and the climb's own
abbrev pub climb_leaves : Folded → List ℕ → List ℕ
climb_leaves f tables = stack_leaves f tables (climbs f)

-- what climbing into blocks leaves in them
abbrev pub stack_tables : Folded → List ℕ → List ℕ
stack_tables f tables = stack_leaves f tables (stack_lent f tables)

-- the entries of the block that a kernel is of
abbrev pub size_of : Kernel → ℕ
size_of kernel = suc kernel.n.0 * kernel.darts

-- 9 and 10 of a kernel, tested on the first of two blocks
abbrev pub pair_tested : Kernel → List ℕ → Verdict
pair_tested kernel pair = check_kernel (entry kernel.darts (take (size_of kernel) pair)) kernel.n.0 kernel.darts (row_of kernel) kernel.level.0

-- two blocks: the second becomes the first without the kernel, where that is accepted
abbrev pub raised : ℕ → ℕ → ℕ → (ℕ → ℕ) → List ℕ → List ℕ
raised n N l mark pair =
    if_accepted (check_kernel (entry N (take (suc n * N) pair)) n N mark l) (take (suc n * N) pair ++ removed_from n N mark (take (suc n * N) pair)) pair
