-- What the import leaves, and what the way back answers and leaves, is fixed by the input. Assumes nothing.
use mathlib.Core.Path.{◌≡◌, refl, sym, ◌∙◌}
use mathlib.Core.List.{List}
use Prim.Native.Nat.{ℕ}
use Rattle.maps.specs.Verdict.{Verdict, accepted, refused}
use Rattle.maps.specs.Partner.{import_lent, ImportLeaves, export_lent, Exports}
use Rattle.combinatorial.proofs.Bases.{yields_one, rows_one}

leaves_same : (M : ℕ) (edges vertices found : List ℕ) (v : Verdict) (rows rows' : List ℕ) → ImportLeaves M edges vertices found v rows → ImportLeaves M edges vertices found v rows' → rows ≡ rows'
leaves_same M edges vertices found accepted rows rows' y y' = yields_one M edges vertices rows rows' y y'
leaves_same M edges vertices found (refused k l i d) rows rows' e e' = e ∙ sym e'

-- the base rows that the import leaves
pub import_same : (M : ℕ) (edges vertices found rows rows' : List ℕ) → ImportLeaves M edges vertices found (import_lent M edges vertices found) rows → ImportLeaves M edges vertices found (import_lent M edges vertices found) rows' → rows ≡ rows'
import_same M edges vertices found = leaves_same M edges vertices found (import_lent M edges vertices found)

-- the answer of the way back, and the two rows that it leaves; a base that two rows yield is not refused
answer_same : (rows found-edges found-vertices : List ℕ) (tests v v' : Verdict) (edges edges' vertices vertices' : List ℕ)
    → Exports rows found-edges found-vertices tests v edges vertices → Exports rows found-edges found-vertices tests v' edges' vertices' → (v ≡ v') × (edges ≡ edges') × (vertices ≡ vertices')
answer_same rows found-edges found-vertices (refused k l i d) v v' edges edges' vertices vertices' x x' = (x.0 ∙ sym x'.0, x.1 ∙ sym x'.1, x.2 ∙ sym x'.2)
answer_same rows found-edges found-vertices accepted accepted accepted edges edges' vertices vertices' x x' = let s = rows_one rows x.1 x'.1 in (refl, s.0, s.1)
answer_same rows found-edges found-vertices accepted accepted (refused k l i d) edges edges' vertices vertices' x x' = absurd (x'.1 x.0 edges vertices x.1)
answer_same rows found-edges found-vertices accepted (refused k l i d) accepted edges edges' vertices vertices' x x' = absurd (x.1 x'.0 edges' vertices' x'.1)
answer_same rows found-edges found-vertices accepted (refused k l i d) (refused k' l' i' d') edges edges' vertices vertices' x x' = (x.0 ∙ sym x'.0, x.2 ∙ sym x'.2, x.3 ∙ sym x'.3)

pub export_same : (n N : ℕ) (rows found-edges found-vertices : List ℕ) (v v' : Verdict) (edges edges' vertices vertices' : List ℕ)
    → Exports rows found-edges found-vertices (export_lent n N rows found-edges found-vertices) v edges vertices → Exports rows found-edges found-vertices (export_lent n N rows found-edges found-vertices) v' edges' vertices'
    → (v ≡ v') × (edges ≡ edges') × (vertices ≡ vertices')
export_same n N rows found-edges found-vertices = answer_same rows found-edges found-vertices (export_lent n N rows found-edges found-vertices)
