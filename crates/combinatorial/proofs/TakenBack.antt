-- There and back: what the import yields is taken back to the same two rows, and 22 is given exactly where no two rows yield the base. Assumes nothing.
use mathlib.Core.Path.{◌≡◌, refl, sym, ◌∙◌}
use mathlib.Core.Bool.{true}
use mathlib.Core.List.{List}
use Prim.Native.Nat.{ℕ, ◌*◌, ◌/◌}
use native.Mathlib.Omega.{arith}
use lib.ListN.{length}
use borrow.Author.Tests.{eq-eqb, le-leb}
use Rattle.maps.specs.Verdict.{Verdict, accepted, refused}
use Rattle.maps.specs.Sizes.{number2, number4}
use Rattle.maps.specs.Table.{entry}
use Rattle.maps.specs.Partner.{Yields, export_lent, NoRows, Exports}
use Rattle.laws.proofs.Verdicts.{not_refused}
use Rattle.facts.proofs.Checks.{sound_map, base_valid}
use Rattle.combinatorial.proofs.Tests.{taken}
use Rattle.combinatorial.proofs.Halves.{even_half}
use Rattle.combinatorial.proofs.Bases.{yields_valid, rows_one}

-- the base that two rows yield passes the tests of the way back, into rows of M entries
pub yields_passes : (M : ℕ) (edges vertices rows into-edges into-vertices : List ℕ) → Yields M edges vertices rows → length into-edges ≡ M → length into-vertices ≡ M → export_lent 2 (2 * M) rows into-edges into-vertices ≡ accepted
unfolding export_lent number2 number4
yields_passes M edges vertices rows into-edges into-vertices y le lv =
    let t = taken M edges vertices rows y.taken in
    let exact : length rows ≡ 3 * (2 * M) = t.rows_length ∙ omega arith in
    rw (le-leb 1 (2 * M) (omega (arith, t.one_dart)), le-leb (2 * M) 4096 (omega (arith, t.darts)), eq-eqb (length rows) (3 * (2 * M)) exact, eq-eqb (length into-edges) (2 * M / 2) (le ∙ sym (even_half M)), eq-eqb (length into-vertices) (2 * M / 2) (lv ∙ sym (even_half M)))
    (sound_map (entry (2 * M) rows) 2 (2 * M) (λ d. true) (base_valid (entry (2 * M) rows) 2 (2 * M) 0 (λ d. d) (λ d. d) (omega arith) (yields_valid M edges vertices rows y)))

-- taking it back gives the two rows
pub there_and_back : (M : ℕ) (edges vertices rows into-edges into-vertices : List ℕ) → Yields M edges vertices rows → length into-edges ≡ M → length into-vertices ≡ M
    → (answer : Verdict) (edges' vertices' : List ℕ) → Exports rows into-edges into-vertices (export_lent 2 (2 * M) rows into-edges into-vertices) answer edges' vertices'
    → (answer ≡ accepted) × (edges' ≡ edges) × (vertices' ≡ vertices)
there_and_back M edges vertices rows into-edges into-vertices y le lv answer edges' vertices' x = go answer (rw (yields_passes M edges vertices rows into-edges into-vertices y le lv) at x)
  where
    go : (v : Verdict) → Exports rows into-edges into-vertices accepted v edges' vertices' → (v ≡ accepted) × (edges' ≡ edges) × (vertices' ≡ vertices)
    go accepted (m, z) = let s = rows_one rows z y in (refl, s.0, s.1)
    go (refused k l i d) w = absurd (w.1 M edges vertices y)

-- a base that passes the tests is refused exactly where no two rows yield it, and then with 22
module _ (n N : ℕ) (rows into-edges into-vertices : List ℕ) (passes : export_lent n N rows into-edges into-vertices ≡ accepted) (answer : Verdict) (edges vertices : List ℕ)
    (x : Exports rows into-edges into-vertices (export_lent n N rows into-edges into-vertices) answer edges vertices) where
  by_answer : (v : Verdict) → Exports rows into-edges into-vertices accepted v edges vertices → ((v ≡ refused 22 0 0 0) → NoRows rows) × (NoRows rows → v ≡ refused 22 0 0 0)
  by_answer accepted (m, z) = ((λ e. absurd (not_refused (sym e))), (λ none. absurd (none m edges vertices z)))
  by_answer (refused k l i d) w = ((λ e. w.1), (λ none. w.0))

  pub refused_exactly : ((answer ≡ refused 22 0 0 0) → NoRows rows) × (NoRows rows → answer ≡ refused 22 0 0 0)
  refused_exactly = by_answer answer (rw passes at x)
