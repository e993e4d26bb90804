-- A kernel relinked in part, along its string: what holds of the table at a dart on the way. Assumes nothing: these are definitions.
use Rattle.std.specs.Prelude.{◌≡◌, ◌⊎◌, Bool, true, false, cond, ◌&&◌, List, ℕ, ◌+◌, ◌≤◌, ◌<◌, length, ltb}
use Rattle.maps.specs.Count.{sum}
use Rattle.maps.specs.Mark.{is_mark, between}
use Rattle.maps.specs.Removal.{marked, turns_from, removal}
use Rattle.maps.specs.Table.{entry}
use Rattle.maps.specs.Explicit.{present, There}
use Rattle.kernels.specs.declared.Kernel.{Kernel as Declared}
use Rattle.kernels.specs.Ready.{row_of, StrungIn, ReadyOn, relinked, first_of_link}

-- each entry is as before or leads on past the marks, and does so if it led to a dart before d
pub record Relinking (n N : ℕ) (mark : ℕ → ℕ) (before after : List ℕ) (d : ℕ) : Type 0 where
  pub long : length after ≡ length before
  pub either : (t k : ℕ) → k < N → (entry N after t k ≡ entry N before t k) ⊎ (entry N after t k ≡ relinked n N mark before t k)
  pub passed : (t k : ℕ) → k < N → entry N before t k < N → entry N before t k < d → entry N after t k ≡ relinked n N mark before t k

-- a survivor that leads into the kernel by row t
pub record Entering (n N : ℕ) (mark : ℕ → ℕ) (before : List ℕ) (t k : ℕ) : Type 0 where
  pub row : t ≤ n
  pub there : There N (present N before) k
  pub stays : is_mark n (mark k) ≡ false
  pub enters : marked (entry N before) n mark t (entry N before t k) ≡ true

-- a link is set if it passes a dart before d first or last, and else both its ends are as before; and d is marked, if it is a dart
pub record RelinkTo (n N : ℕ) (mark : ℕ → ℕ) (before after : List ℕ) (d : ℕ) : Type 0 where
  pub here : d < N → is_mark n (mark d) ≡ true
  pub table : Relinking n N mark before after d
  pub set_back : (t k : ℕ) → Entering n N mark before t k → entry N before t (removal (entry N before) n mark N t k) < d → entry N after t k ≡ relinked n N mark before t k
  pub unset : (t k : ℕ) → Entering n N mark before t k → d ≤ entry N before t k → d ≤ entry N before t (removal (entry N before) n mark N t k) → entry N after t k ≡ entry N before t k

module _ (n N : ℕ) (mark : ℕ → ℕ) (before : List ℕ) where
  -- does dart x begin a link?
  abbrev pub begins : ℕ → Bool
  begins x = ltb x N && first_of_link n N mark before x

  -- the turns from dart x
  abbrev pub turns_at : ℕ → ℕ
  turns_at x = turns_from (entry N before) n mark N (between (mark x)).0 x

  -- the turns of the links begun before dart d
  abbrev pub turns_to : ℕ → ℕ
  turns_to d = sum (λ x. cond (begins x) (turns_at x) 0) d

module _ (kernel : Declared) where
  -- the kernel of a table is relinked up to dart d of its string, in another table
  pub record Onward (before after : List ℕ) (d : ℕ) : Type 0 where
    pub ready : ReadyOn kernel before
    pub strung : StrungIn kernel
    pub to : RelinkTo kernel.n.0 kernel.darts (row_of kernel) before after d

  -- that is so of some table
  abbrev pub Midway : List ℕ → ℕ → Type 0
  Midway after d = (before : List ℕ) × Onward before after d

  -- it is relinked from dart d on up to dart e, with so many turns, whichever table it was
  abbrev pub Relinks : List ℕ → ℕ → List ℕ → ℕ → ℕ → Type 0
  Relinks after d after-e e turns =
      (before : List ℕ) → Onward before after d → Onward before after-e e × (turns_to kernel.n.0 kernel.darts (row_of kernel) before e ≡ turns_to kernel.n.0 kernel.darts (row_of kernel) before d + turns)
