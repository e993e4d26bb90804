-- What the import leaves: the base, where its three rows are written one after the other; or what was found. Assumes nothing.
use mathlib.Core.Path.{◌≡◌, refl, sym, ap, ◌∙◌}
use mathlib.Core.Logic.{inl}
use mathlib.Core.List.{List}
use Prim.Native.Nat.{ℕ, ◌+◌, ◌*◌, ◌<◌}
use native.Mathlib.Omega.{arith}
use lib.ListN.{get_or}
use Rattle.maps.specs.Verdict.{refused}
use Rattle.maps.specs.Table.{entry, each}
use Rattle.maps.specs.Partner.{Yields, import_lent, ImportLeaves}
use Rattle.answers.specs.Numbers.{refusal_of}
use Rattle.answers.specs.declared.Refusal.{Refusal}
use Rattle.answers.proofs.Refusals.{refusal_refuses}
use Rattle.combinatorial.specs.Rows.{Kept, Pairs, Turns}
use Rattle.combinatorial.proofs.Tests.{Taken, taken_accepted}

pub refusal_leaves : (M : ℕ) (edges vertices rows : List ℕ) (r : Refusal) → refusal_of r ≡ import_lent M edges vertices rows → ImportLeaves M edges vertices rows (import_lent M edges vertices rows) rows
refusal_leaves M edges vertices rows r e =
    let x = refusal_refuses r in
    let f : import_lent M edges vertices rows ≡ refused x.number x.level x.involution x.dart = sym e ∙ x.is in
    rw f refl

-- an entry at the same place
same_place : (list : List ℕ) (p q : ℕ) → p ≡ q → get_or list p 0 ≡ get_or list q 0
same_place list p q e = ap (λ (k : ℕ). get_or list k 0) e

module _ (M : ℕ) (edges vertices found first second rows : List ℕ) (t : Taken M edges vertices found)
    (pairs : Pairs M 0 (λ d. 2 * each edges d) first) (kept-first : Kept M 0 found first)
    (turns : Turns M (2 * M) (each vertices) second) (kept_second : Kept M (2 * M) first second)
    (sides : Pairs M (4 * M) (λ d. 2 * d) rows) (kept : Kept M (4 * M) second rows) where
  -- row 1 was written second, and row 0 first
  row_1 : (x : ℕ) → x < 2 * M → entry (2 * M) rows 1 x ≡ get_or second (2 * M + x) 0
  row_1 x l = same_place rows (1 * (2 * M) + x) (2 * M + x) (omega arith) ∙ kept.rest (2 * M + x) (inl (omega arith))

  row_0 : (x : ℕ) → x < 2 * M → entry (2 * M) rows 0 x ≡ get_or first (0 + x) 0
  row_0 x l =
      same_place rows (0 * (2 * M) + x) x (omega arith) ∙ kept.rest x (inl (omega arith)) ∙ kept_second.rest x (inl (omega arith)) ∙ same_place first x (0 + x) (omega arith)

  pub rows_yield : Yields M edges vertices rows
  rows_yield = record {
    taken = taken_accepted M edges vertices rows (record {
      one_dart = t.one_dart;
      darts = t.darts;
      edges_row = t.edges_row;
      vertices_row = t.vertices_row;
      rows_length = kept.long ∙ kept_second.long ∙ kept-first.long ∙ t.rows_length;
      twice = t.twice;
      one_to_one = t.one_to_one;
    });
    base = record {
      a2 = λ d l. (
        same_place rows (2 * (2 * M) + 2 * d) (4 * M + 2 * d) (omega arith) ∙ (sides d l).0,
        same_place rows (2 * (2 * M) + (2 * d + 1)) (4 * M + 2 * d + 1) (omega arith) ∙ (sides d l).1,
      );
      a1 = λ d l. (row_1 (2 * d + 1) (omega arith) ∙ (turns d l).0, row_1 (2 * each vertices d) (omega (arith, t.vertices_row.inside d l)) ∙ (turns d l).1);
      a0 = λ d l. (
        row_0 (2 * d) (omega arith) ∙ (pairs d l).0,
        row_0 (2 * d + 1) (omega arith) ∙ same_place first (0 + (2 * d + 1)) (0 + 2 * d + 1) (omega arith) ∙ (pairs d l).1,
      );
    };
  }
