-- A kernel tested or relinked in part, along its string: what holds at a dart on the way. Assumes nothing: these are definitions.
use Rattle.std.specs.Prelude.{◌≡◌, Bool, true, false, cond, ◌&&◌, not, List, ℕ, suc, ◌+◌, ◌≤◌, ◌<◌, length, eqb, ltb}
use Rattle.maps.specs.Verdict.{Verdict, accepted, scan}
use Rattle.maps.specs.Mark.{is_mark, between, has_beyond}
use Rattle.maps.specs.Table.{entry, each}
use Rattle.maps.specs.Check.{differs, at9, at10}
use Rattle.kernels.specs.Strings.{kernel_row, First, Marks}
use Rattle.kernels.specs.declared.Kernel.{Kernel as Declared}
use Rattle.kernels.specs.Ready.{Tested}

-- the k-th row of a map, from 0 on, without the first row of mark m
unfoldable pub other_row : ℕ → ℕ → ℕ
other_row m k = cond (ltb k (between m).0) k (suc k)

module _ (n N l : ℕ) (mark : ℕ → ℕ) (table : List ℕ) where
  -- number 9 of dart d, and number 10
  abbrev pub nine : ℕ → Verdict
  nine d = scan (suc n) (at9 (entry N table) n mark l d)

  abbrev pub ten : ℕ → Verdict
  ten d = at10 (entry N table) n mark l d

-- A scan over all darts that visits those strung alone, where no other dart is refused: those before d are accepted, and d is one of them, if it is a dart.
pub record Walk (n N l : ℕ) (lambda delta next table : List ℕ) (v : ℕ → Verdict) (d : ℕ) : Type 0 where
  pub tested : Tested n N (kernel_row lambda delta l) table
  pub marks : Marks n N l lambda delta
  pub onward : (x : ℕ) → x < N → is_mark n (kernel_row lambda delta l x) ≡ true → First (λ x. is_mark n (kernel_row lambda delta l x)) N (x + 1) (each next x)
  pub free : (x : ℕ) → x < N → is_mark n (kernel_row lambda delta l x) ≡ false → v x ≡ accepted
  pub here : d < N → is_mark n (kernel_row lambda delta l d) ≡ true
  pub so_far : (x : ℕ) → x < d → x < N → v x ≡ accepted

module _ (n l : ℕ) (lambda delta next table : List ℕ) where
  -- the walk of kernel l for number 9, and for number 10
  abbrev pub Nine : ℕ → Type 0
  Nine = Walk n (length lambda) l lambda delta next table (nine n (length lambda) l (kernel_row lambda delta l) table)

  abbrev pub Ten : ℕ → Type 0
  Ten = Walk n (length lambda) l lambda delta next table (ten n (length lambda) l (kernel_row lambda delta l) table)

-- the first of these, for a kernel and n rows
abbrev pub NineOf : ℕ → Declared → List ℕ → ℕ → Type 0
NineOf n kernel = Nine n kernel.level.0 kernel.lambda.now kernel.delta.now kernel.next.now

-- every row but the first of mark m leads from dart d into kernel l with this mark
abbrev pub Together : ℕ → ℕ → List ℕ → List ℕ → List ℕ → ℕ → ℕ → Type 0
Together n l lambda delta table m d = (j : ℕ) → j ≤ n → (not (eqb j (between m).0) && not (eqb (kernel_row lambda delta l (entry (length lambda) table j d)) m)) ≡ false

-- the darts of kernel l from one to below another have mark m
abbrev pub Alike : ℕ → List ℕ → List ℕ → ℕ → ℕ → ℕ → Type 0
Alike l lambda delta m from to = (x : ℕ) → from ≤ x → x < to → x < length lambda → each lambda x ≡ l → each delta x ≡ m

-- a string of darts from `from` on, all of which pass the test, with their entries in the table
pub record Run (test : ℕ → Bool) (n N : ℕ) (next table : List ℕ) (from : ℕ) : Type 0 where
  pub here : from < N → test from ≡ true
  pub onward : (d : ℕ) → d < N → test d ≡ true → First test N (d + 1) (each next d)
  pub inside : (d : ℕ) → d < N → test d ≡ true → (t : ℕ) → t ≤ n → entry N table t d < N

-- number 10 is due at none of the darts strung from one to below another, all of mark m
abbrev pub Commuting : ℕ → ℕ → List ℕ → List ℕ → ℕ → ℕ → ℕ → Type 0
Commuting n N next table m from to =
    (test : ℕ → Bool) → Run test n N next table from → (x : ℕ) → from ≤ x → x < to → test x ≡ true → (has_beyond n m && differs (entry N table) (λ _. m) x) ≡ false
