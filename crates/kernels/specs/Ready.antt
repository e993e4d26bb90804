-- What the tests and the removal of one kernel ask of the level's table and the mark row, and what they leave. Assumes nothing: these are definitions.
use Rattle.std.specs.Prelude.{◌≡◌, Bool, true, cond, ◌&&◌, not, List, ℕ, ◌+◌, ◌*◌, ◌<◌, ◌≤◌, length, eqb, ltb}
use Rattle.maps.specs.Verdict.{if_accepted}
use Rattle.maps.specs.Map.{Involutions}
use Rattle.maps.specs.Count.{sum}
use Rattle.maps.specs.Mark.{is_mark, between}
use Rattle.maps.specs.Kernel.{Kernel}
use Rattle.maps.specs.Removal.{go_on, turns_from, removal}
use Rattle.maps.specs.Table.{entry, absent, explicit}
use Rattle.maps.specs.Check.{check_kernel}
use Rattle.maps.specs.Explicit.{present, There, Sound}
use Rattle.answers.specs.Rows.{Rows}
use Rattle.kernels.specs.declared.Kernel.{Kernel as Declared}
use Rattle.kernels.specs.Strings.{kernel_row, Strung}

-- the level that a kernel is lent, as a map
abbrev pub map_of : Declared → List ℕ → Involutions
map_of kernel table = entry kernel.darts table

-- its mark row, from Λ and Δ
abbrev pub row_of : Declared → ℕ → ℕ
row_of kernel = kernel_row kernel.lambda.now kernel.delta.now kernel.level.0

-- its darts are strung
abbrev pub StrungIn : Declared → Type 0
StrungIn kernel = Strung kernel.n.0 kernel.darts kernel.level.0 kernel.first kernel.lambda.now kernel.delta.now kernel.next.now

-- the entry of row i and dart d lies in the table, and its place is small
pub record Place (N : ℕ) (table : List ℕ) (i d : ℕ) : Type 0 where
  pub darts : N ≤ 4096
  pub dart : d < N
  pub inside : i * N + d < length table
  pub small : length table ≤ 20480

-- an explicit level, and a mark row that marks only darts present
pub record Tested (n N : ℕ) (mark : ℕ → ℕ) (table : List ℕ) : Type 0 where
  pub shape : Rows n N table
  pub sound : Sound (entry N table) n N (present N table)
  pub marked : (d : ℕ) → d < N → is_mark n (mark d) ≡ true → present N table d ≡ true

-- and the row is a kernel of the level
pub record Ready (n N : ℕ) (mark : ℕ → ℕ) (table : List ℕ) : Type 0 where
  pub tested : Tested n N mark table
  pub kernel : Kernel (entry N table) n (There N (present N table)) mark

-- the same of the row of a kernel
abbrev pub TestedOn : Declared → List ℕ → Type 0
TestedOn kernel = Tested kernel.n.0 kernel.darts (row_of kernel)

abbrev pub ReadyOn : Declared → List ℕ → Type 0
ReadyOn kernel = Ready kernel.n.0 kernel.darts (row_of kernel)

-- what following the marks asks: from a dart marked every involution leads to a dart, and the one that passes it to a dart of the same mark
pub record Followed (n N : ℕ) (mark : ℕ → ℕ) (table : List ℕ) : Type 0 where
  pub shape : Rows n N table
  pub inside : (t d : ℕ) → t ≤ n → d < N → is_mark n (mark d) ≡ true → entry N table t d < N
  pub whole : (d : ℕ) → d < N → is_mark n (mark d) ≡ true → mark (entry N table (between (mark d)).1 d) ≡ mark d

-- the darts that the removal leaves
abbrev pub left : ℕ → ℕ → (ℕ → ℕ) → List ℕ → ℕ → Bool
left n N mark table d = present N table d && not (is_mark n (mark d))

-- where following the marks of a kernel leads from dart d by row i
abbrev pub past_marks : Declared → List ℕ → ℕ → ℕ → ℕ
past_marks kernel table = go_on (map_of kernel table) kernel.n.0 (row_of kernel) kernel.darts

-- and the turns that it takes
abbrev pub turns_past : Declared → List ℕ → ℕ → ℕ → ℕ
turns_past kernel table = turns_from (map_of kernel table) kernel.n.0 (row_of kernel) kernel.darts

-- involution j, which is not the first row of this mark, leads from dart d to one that is not in the kernel with the mark
abbrev pub leaves_by : Declared → List ℕ → ℕ → ℕ → ℕ → Bool
leaves_by kernel table mark d j = not (eqb j (between mark).0) && not (eqb (row_of kernel (map_of kernel table j d)) mark)

-- an entry below N of a dart that is not marked leads on past the marks; every other entry stays
unfoldable pub relinked : ℕ → ℕ → (ℕ → ℕ) → List ℕ → ℕ → ℕ → ℕ
relinked n N mark table i d = cond (ltb (entry N table i d) N && not (is_mark n (mark d))) (go_on (entry N table) n mark N i (entry N table i d)) (entry N table i d)

-- does a link between survivors pass dart d first? It is in the kernel, its mark's first row leads to a survivor, and the dart that the link passes last has no lower number
unfoldable pub first_of_link : ℕ → ℕ → (ℕ → ℕ) → List ℕ → ℕ → Bool
first_of_link n N mark table d =
    is_mark n (mark d)
    && (not (is_mark n (mark (entry N table (between (mark d)).0 d)))
    && not (ltb (entry N table (between (mark d)).0 (go_on (entry N table) n mark N (between (mark d)).0 d)) d))

-- the turns past the marks, over all links between survivors that the kernel makes, each counted at one end
unfoldable pub turns_made : ℕ → ℕ → (ℕ → ℕ) → List ℕ → ℕ
turns_made n N mark table = sum (λ d. cond (first_of_link n N mark table d) (turns_from (entry N table) n mark N (between (mark d)).0 d) 0) N

-- the table after, with f at every entry
pub record TableIs (N : ℕ) (f : ℕ → ℕ → ℕ) (before after : List ℕ) : Type 0 where
  pub long : length after ≡ length before
  pub rows : (t d : ℕ) → d < N → entry N after t d ≡ f t d

-- the table after, with the links of the survivors past the marks of a kernel
abbrev pub LinksPast : Declared → List ℕ → List ℕ → Type 0
LinksPast kernel before after = TableIs kernel.darts (relinked kernel.n.0 kernel.darts (row_of kernel) before) before after

-- the table after, with 65,535 at the entries that pass the test; the others are as before
abbrev pub Cleared : ℕ → (ℕ → ℕ → Bool) → List ℕ → List ℕ → Type 0
Cleared N test before after = TableIs N (λ t d. cond (test t d) absent (entry N before t d)) before after

-- what is left where the kernel is removed
abbrev pub removed_from : ℕ → ℕ → (ℕ → ℕ) → List ℕ → List ℕ
removed_from n N mark table = explicit (removal (entry N table) n mark N) n N (left n N mark table)

-- a kernel accepted is removed; refused, the table stays
abbrev pub step_leaves : ℕ → ℕ → ℕ → (ℕ → ℕ) → List ℕ → List ℕ
step_leaves n N l mark table = if_accepted (check_kernel (entry N table) n N mark l) (removed_from n N mark table) table
