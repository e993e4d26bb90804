-- The marks that the marking of cells leaves are fixed by its input. Assumes nothing.
use mathlib.Core.Path.{◌≡◌, refl, sym, ◌∙◌}
use mathlib.Core.Logic.{inl, inr}
use mathlib.Core.List.{List}
use Prim.Native.Nat.{ℕ, ◌<◌}
use Rattle.maps.specs.Verdict.{Verdict, accepted, refused}
use Rattle.maps.specs.Table.{each}
use Rattle.maps.specs.MarkCells.{mark_lent, CellsMarked, MarkLeaves}
use Rattle.laws.proofs.Tables.{listed_of}

module _ (n N : ℕ) (table : List ℕ) (δ : ℕ) (out out' : List ℕ) (m : CellsMarked n N table δ out) (m' : CellsMarked n N table δ out') where
  -- a dart's cell is removable or it is not, and each fixes its mark
  same_mark : (d : ℕ) → d < N → each out d ≡ each out' d
  same_mark d l =
      elim (m.mark d l) [
        | inl x ↦ elim (m'.mark d l) [ inl y ↦ x.2 ∙ sym y.2 | inr y ↦ absurd (y.0 (x.0, x.1)) ]
        | inr x ↦ elim (m'.mark d l) [ inl y ↦ absurd (x.0 (y.0, y.1)) | inr y ↦ x.1 ∙ sym y.1 ]
      ]

  pub cells_same : out ≡ out'
  cells_same = listed_of (each out') N out m.long same_mark ∙ sym (listed_of (each out') N out' m'.long (λ x l. refl))

same_of : (n N : ℕ) (table : List ℕ) (δ : ℕ) (found : List ℕ) (v : Verdict) (out out' : List ℕ) → MarkLeaves n N table δ found v out → MarkLeaves n N table δ found v out' → out ≡ out'
same_of n N table δ found accepted out out' m m' = cells_same n N table δ out out' m m'
same_of n N table δ found (refused k l i d) out out' m m' = m ∙ sym m'

-- what marking leaves in the mark row
pub marking_same : (n N : ℕ) (table : List ℕ) (δ : ℕ) (found out out' : List ℕ) → MarkLeaves n N table δ found (mark_lent n N table δ found) out → MarkLeaves n N table δ found (mark_lent n N table δ found) out' → out ≡ out'
marking_same n N table δ found = same_of n N table δ found (mark_lent n N table δ found)
