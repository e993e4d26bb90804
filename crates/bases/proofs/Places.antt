-- Where the rows of a table lie, where 5, 6 and 7 are first refused, and what a 5 that is not refused tells of the entries. Assumes nothing.
use mathlib.Core.Path.{◌≡◌, refl, sym, subst}
use mathlib.Core.Bool.{Bool, true, false, ◌&&◌}
use mathlib.Core.List.{List}
use Prim.Native.Nat.{ℕ, suc, ◌+◌, ◌*◌, ◌≤◌, ◌<◌, zero-le}
use native.Mathlib.Nat.{mul-le-mul_right}
use native.Mathlib.Omega.{arith}
use lib.ListN.{length, get_or}
use lib.Dec.{eqb, ltb}
use borrow.Author.Tests.{ltb-true, lt-ltb, le-ltb, eqb-true, ne_eqb, not-false}
use Rattle.maps.specs.Verdict.{Verdict, accepted, refused, when, scan}
use Rattle.maps.specs.Sizes.{has_length}
use Rattle.maps.specs.Table.{entry}
use Rattle.maps.specs.Check.{at5, at6, at7, check5, check6, check7}
use Rattle.laws.proofs.Verdicts.{when_accepted, scan_accepted, scan_all, scan_first, and_both, and_false}
use Rattle.laws.proofs.Sizes.{lent_sized}
use Rattle.laws.proofs.Tables.{next_row, table_size, in_table}
use Rattle.answers.specs.declared.Dim.{Dim}
use Rattle.answers.specs.Lent.{lent_of}
use Rattle.answers.specs.Rows.{Rows}
use Rattle.bases.specs.declared.Place.{Place}
use Rattle.bases.specs.InTable.{Row, present_if, strays_in, not_twice_in, not_commuting_in, check5_in, check6_in, check7_in}
use Rattle.bases.specs.Places.{row as row_of, YesFirst, NeverYes}

-- a table of the exact length, of a map of one dimension or more
pub lent_rows : (n N : ℕ) (table : List ℕ) → lent_of n N 0 (has_length table (suc n * N)) ≡ accepted → Rows n N table × (0 < n)
lent_rows n N table e =
    let r = lent_sized n N 0 (has_length table (suc n * N)) e in
    (record { dimension = r.0.dimension; darts = r.0.darts; exact = eqb-true (length table) (suc n * N) r.1 }, r.0.one_dimension)

-- each of its rows lies in it
pub rows_row : (n N i : ℕ) (table : List ℕ) → Rows n N table → i ≤ n → Row N table i
rows_row n N i table r li =
    let m : (i + 1) * N ≤ (n + 1) * N = mul-le-mul_right N (omega arith) in
    let s = table_size n N i r.dimension r.darts li in
    record { whole = omega (arith, next_row i N); small = omega arith }

-- each entry of a row lies in the table
pub row_entry : {N i : ℕ} {table : List ℕ} → Row N table i → (d : ℕ) → d < N → (i * N + d < length table) × (length table ≤ 20480)
row_entry r d l = (omega (arith, r.whole), r.small)

-- rows, then darts: the test of each place, and the row that a refusal names
module _ (number N : ℕ) (row : ℕ → ℕ) (test : ℕ → ℕ → Bool) where
  abbrev place : ℕ → ℕ → Verdict
  place x d = when (test x d) (refused number 0 (row x) d)

  -- no place of the first m rows is refused
  rows_none : (m : ℕ) → ((x : ℕ) → x < m → (d : ℕ) → d < N → test x d ≡ false) → scan m (λ x. scan N (place x)) ≡ accepted
  rows_none m h = scan_all m (λ x. scan N (place x)) (λ x l. scan_all N (place x) (λ d k. rw (h x l d k)))

  -- one place is, and none before it
  rows_first : (m x d : ℕ) → x < m → d < N → ((k : ℕ) → k < x → (e : ℕ) → e < N → test k e ≡ false) → ((e : ℕ) → e < d → test x e ≡ false) → test x d ≡ true
      → scan m (λ x. scan N (place x)) ≡ refused number 0 (row x) d
  rows_first m x d lx ld rows darts t =
      scan_first m (λ x. scan N (place x)) x number 0 (row x) d lx (rows_none x rows)
      (scan_first N (place x) d number 0 (row x) d ld (scan_all d (place x) (λ e l. rw (darts e l))) (rw t))

  -- a closure that answers the test: what is first due by it is what is refused
  module _ (n : ℕ) (says : Dim → ℕ → Bool → Type 0) (answers : (x d : ℕ) (b : Bool) → x ≤ n → d < N → says (row_of x) d b → b ≡ test x d) where
    no_at : (x d : ℕ) → x ≤ n → d < N → says (row_of x) d false → test x d ≡ false
    no_at x d lx ld s = sym (answers x d false lx ld s)

    pub due_none : NeverYes says n N → scan (suc n) (λ x. scan N (place x)) ≡ accepted
    due_none h = rows_none (suc n) (λ x l d ld. no_at x d (omega arith) ld (h.rows x (omega arith) d ld))

    pub due_first : (at : Place) → YesFirst says n N at → scan (suc n) (λ x. scan N (place x)) ≡ refused number 0 (row at.row.0) at.dart
    due_first at h =
        rows_first (suc n) at.row.0 at.dart (omega (arith, h.in_rows)) h.in_darts
        (λ k l e le. no_at k e (omega (arith, h.in_rows)) le (h.rows k l e le))
        (λ e l. no_at at.row.0 e h.in_rows (omega (arith, h.in_darts)) (h.darts e l))
        (sym (answers at.row.0 at.dart true h.in_rows h.in_darts h.yes))

-- where 5 or 6 is due nowhere, it is not refused
module _ (explicit : Bool) (n N : ℕ) (table : List ℕ) where
  pub strays_none : ((i : ℕ) → i < suc n → (d : ℕ) → d < N → strays_in explicit N table i d ≡ false) → check5_in explicit n N table ≡ accepted
  unfolding at5 check5
  strays_none = rows_none 5 N (λ i. i) (strays_in explicit N table) (suc n)

  pub not_twice_none : ((i : ℕ) → i < suc n → (d : ℕ) → d < N → not_twice_in explicit N table i d ≡ false) → check6_in explicit n N table ≡ accepted
  unfolding at6 check6
  not_twice_none = rows_none 6 N (λ i. i) (not_twice_in explicit N table) (suc n)

-- where every entry is a dart, every dart is present
pub entry_dart : (n N : ℕ) (table : List ℕ) → Rows n N table → ((k : ℕ) → k < length table → get_or table k 0 < N) → (i d : ℕ) → i ≤ n → d < N → entry N table i d < N
entry_dart n N table r h i d li ld = h (i * N + d) (subst (λ m. i * N + d < m) (sym r.exact) (in_table n N i d li ld))

dart_present : (explicit : Bool) (n N : ℕ) (table : List ℕ) → Rows n N table → ((k : ℕ) → k < length table → get_or table k 0 < N) → (d : ℕ) → d < N → present_if explicit N table d ≡ true
dart_present true n N table r h d ld = rw (ne_eqb (entry N table 0 d) 65535 (λ e. let l = entry_dart n N table r h 0 d zero-le ld in omega (arith, r.darts)))
dart_present false n N table r h d ld = refl

-- and 5 is not refused
pub base_none : (explicit : Bool) (n N : ℕ) (table : List ℕ) → Rows n N table → ((k : ℕ) → k < length table → get_or table k 0 < N) → check5_in explicit n N table ≡ accepted
base_none explicit n N table r h =
    strays_none explicit n N table (λ i li d ld.
    let l = entry_dart n N table r h i d (omega arith) ld in
    rw (dart_present explicit n N table r h d ld, lt-ltb (entry N table i d) N l, dart_present explicit n N table r h (entry N table i d) l))

module _ (explicit : Bool) (n N : ℕ) (table : List ℕ) where
  -- pairs with j < i+2 are never refused
  pub near : (i j d : ℕ) → j < i + 2 → not_commuting_in explicit N table i j d ≡ false
  near i j d l = and_false (present_if explicit N table d) _ (λ p. rw (le-ltb (i + 1) j (omega arith)))

  -- nor is a pair that commutes
  pub commuting : (i j d : ℕ) → eqb (entry N table j (entry N table i d)) (entry N table i (entry N table j d)) ≡ true → not_commuting_in explicit N table i j d ≡ false
  commuting i j d e = and_false (present_if explicit N table d) _ (λ p. and_false (ltb (i + 1) j) _ (λ q. rw e))

  -- 7 of one i
  abbrev pairs : ℕ → Verdict
  pairs i = scan (suc n) (λ j. scan N (at7 (entry N table) (present_if explicit N table) i j))

  pairs_none : (i : ℕ) → ((j : ℕ) → j < suc n → (d : ℕ) → d < N → not_commuting_in explicit N table i j d ≡ false) → pairs i ≡ accepted
  unfolding at7
  pairs_none i h = rows_none 7 N (λ j. i) (not_commuting_in explicit N table i) (suc n) h

  -- 7 is refused nowhere; or at one place, and at none before it
  pub none7 : ((i : ℕ) → i < suc n → (j : ℕ) → j < suc n → (d : ℕ) → d < N → not_commuting_in explicit N table i j d ≡ false) → check7_in explicit n N table ≡ accepted
  unfolding check7
  none7 h = scan_all (suc n) pairs (λ i l. pairs_none i (h i l))

  pub first7 : (i j d : ℕ) → i < suc n → j < suc n → d < N → ((k : ℕ) → k < i → (f : ℕ) → f < suc n → (e : ℕ) → e < N → not_commuting_in explicit N table k f e ≡ false)
      → ((f : ℕ) → f < j → (e : ℕ) → e < N → not_commuting_in explicit N table i f e ≡ false) → ((e : ℕ) → e < d → not_commuting_in explicit N table i j e ≡ false)
      → not_commuting_in explicit N table i j d ≡ true → check7_in explicit n N table ≡ refused 7 0 i d
  unfolding at7 check7
  first7 i j d li lj ld before pairs-before darts t =
      scan_first (suc n) pairs i 7 0 i d li (scan_all i pairs (λ k l. pairs_none k (before k l)))
      (rows_first 7 N (λ j. i) (not_commuting_in explicit N table i) (suc n) j d lj ld pairs-before darts t)

  -- where 5 is not refused, the entries of the darts present are darts
  pub inside : check5_in explicit n N table ≡ accepted → (i d : ℕ) → i ≤ n → d < N → present_if explicit N table d ≡ true → entry N table i d < N
  unfolding at5 check5
  inside e i d li ld p =
      let v = at5 (entry N table) N (present_if explicit N table) in
      let s = when_accepted (strays_in explicit N table i d) 5 0 i d (scan_accepted N (v i) (scan_accepted (suc n) (λ i. scan N (v i)) e i (omega arith)) d ld) in
      let x = ltb (entry N table i d) N in
      let y = present_if explicit N table (entry N table i d) in
      ltb-true (entry N table i d) N (and_both x y (not-false (x && y) (rw p at s))).0
