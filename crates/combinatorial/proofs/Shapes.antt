-- The tests of the way back, and the shape of a base that two rows yield. Assumes nothing.
use mathlib.Core.Path.{◌≡◌, refl, sym, ap, subst, ◌∙◌}
use mathlib.Core.Bool.{Bool, true, false, ◌&&◌, not, true≢false}
use mathlib.Core.List.{List}
use Prim.Native.Nat.{ℕ, ◌+◌, ◌*◌, ◌/◌, ◌%◌, ◌≤◌, ◌<◌}
use native.Mathlib.Omega.{arith}
use lib.ListN.{length}
use lib.Dec.{eqb}
use borrow.Author.Tests.{eqb-true, eq-eqb}
use Rattle.maps.specs.Verdict.{Verdict, accepted, refused, when, ◌then◌}
use Rattle.maps.specs.Sizes.{sizes, number1, number2, number3, number4, has_length}
use Rattle.maps.specs.Map.{Involutions, Valid}
use Rattle.maps.specs.Table.{entry, each, listed}
use Rattle.maps.specs.Check.{check_map}
use Rattle.maps.specs.CheckBase.{check_base}
use Rattle.maps.specs.Partner.{Becomes, Yields, export_lent, Exports}
use Rattle.laws.proofs.Verdicts.{then_accepted, and_both}
use Rattle.laws.proofs.Sizes.{lent_sized, both_equal}
use Rattle.laws.proofs.Tables.{length_listed, get_or_listed}
use Rattle.answers.specs.Lent.{lent_of}
use Rattle.answers.specs.Numbers.{refusal_of}
use Rattle.answers.specs.declared.Refusal.{Refusal}
use Rattle.answers.proofs.Refusals.{refusal_refuses}
use Rattle.answers.specs.Rows.{Rows}
use Rattle.facts.proofs.Checks.{map_sound, valid_base}
use Rattle.combinatorial.specs.Back.{tests_back, Says, Alternates, edge_of, vertex_of}
use Rattle.combinatorial.proofs.Halves.{even_mod, odd_mod, even_half, even_is, odd_is}
use Rattle.combinatorial.proofs.Tests.{Taken, taken, taken_accepted}

-- what an answer says, where its negation was tested
pub denies : {P : Type 0} (b : Bool) → not b ≡ true → Says b P → P → ⊥
denies false q s = s
denies true q s = absurd (true≢false (sym q))

pub affirms : {P : Type 0} (b : Bool) → not b ≡ false → Says b P → P
affirms true q s = s
affirms false q s = absurd (true≢false q)

module _ (N : ℕ) (rows : List ℕ) (edges vertices : ℕ) where
  -- every slice lent has the exact length
  abbrev pub fits : Bool
  fits = has_length rows (3 * N) && (eqb edges (N / 2) && eqb vertices (N / 2))

  abbrev map : Verdict
  map = check_map (entry N rows) 2 N (λ d. true)

  -- the tests of sizes and lengths as other jobs make them, for n = 2 and h = 0
  pub tests_two : tests_back 2 N rows edges vertices ≡ lent_of 2 N 0 fits then map
  unfolding sizes number1 number3
  tests_two = go (number2 N)
    where
      go : (v : Verdict) → v then (number4 fits then map) ≡ ((v then accepted) then number4 fits) then map
      go accepted = refl
      go (refused k l i d) = refl

  -- where they are accepted, the base check goes on as the tests do
  pub check_two : lent_of 2 N 0 fits ≡ accepted → check_base 2 N rows ≡ map
  unfolding check_base number4
  check_two e =
      let s = then_accepted (sizes 2 N 0) (number4 fits) e in
      let exact = both_equal (length rows) (3 * N) (eqb edges (N / 2) && eqb vertices (N / 2)) (lent_sized 2 N 0 fits e).1 in
      rw (s.0, eq-eqb (length rows) (3 * N) exact.0)

-- what accepted tests tell
pub record Base (N : ℕ) (rows edges vertices : List ℕ) : Type 0 where
  pub one_dart : 1 ≤ N
  pub rows_fit : Rows 2 N rows
  pub edges_length : length edges ≡ N / 2
  pub vertices_length : length vertices ≡ N / 2
  pub valid : Valid (entry N rows) 2 (λ d. d < N)

pub export_base : (n N : ℕ) (rows edges vertices : List ℕ) → export_lent n N rows edges vertices ≡ accepted → Base N rows edges vertices
unfolding export_lent
export_base n N rows edges vertices e =
    let fit = fits N rows (length edges) (length vertices) in
    let a = entry N rows in
    let back = when (not (eqb n 2)) (refused 1 0 0 0) in
    let s = then_accepted back (number2 N then (number4 fit then check_map a 2 N (λ d. true))) e in
    let t = then_accepted (lent_of 2 N 0 fit) (check_map a 2 N (λ d. true)) (sym (tests_two N rows (length edges) (length vertices)) ∙ s.1) in
    let z = lent_sized 2 N 0 fit t.0 in
    let x = both_equal (length rows) (3 * N) (has_length edges (N / 2) && has_length vertices (N / 2)) z.1 in
    let y = both_equal (length edges) (N / 2) (has_length vertices (N / 2)) x.1 in
    record {
      one_dart = z.0.one_dart;
      rows_fit = record { dimension = z.0.dimension; darts = z.0.darts; exact = x.0 };
      edges_length = y.0;
      vertices_length = eqb-true (length vertices) (N / 2) y.1;
      valid = valid_base a 2 N 0 (λ d. d) (λ d. d) (omega arith) (map_sound a 2 N (λ d. true) t.1);
    }

-- the two rows that a base becomes are taken, and yield it
module _ (N : ℕ) (rows : List ℕ) (one_dart : 1 ≤ N) (fit : Rows 2 N rows) (twice_m : N ≡ 2 * (N / 2)) (b : Becomes (N / 2) (edge_of (entry N rows)) (vertex_of (entry N rows)) (entry N rows))
    (edge_low : (d : ℕ) → d < N / 2 → edge_of (entry N rows) d < N / 2) (vertex_low : (d : ℕ) → d < N / 2 → vertex_of (entry N rows) d < N / 2)
    (edge_twice : (d : ℕ) → d < N / 2 → edge_of (entry N rows) (edge_of (entry N rows) d) ≡ d) where
  abbrev K : ℕ
  K = N / 2

  abbrev partner : ℕ → ℕ
  partner = edge_of (entry N rows)

  abbrev successor : ℕ → ℕ
  successor = vertex_of (entry N rows)

  successor_one : (d e : ℕ) → d < K → e < K → successor d ≡ successor e → d ≡ e
  successor_one d e ld le f = omega (arith, sym (b.a1 d ld).1 ∙ ap (λ (x : ℕ). entry N rows 1 (2 * x)) f ∙ (b.a1 e le).1)

  abbrev edges : List ℕ
  edges = listed partner K

  abbrev vertices : List ℕ
  vertices = listed successor K

  edges_at : (d : ℕ) → d < K → each edges d ≡ partner d
  edges_at d l = get_or_listed partner K d 0 l

  vertices_at : (d : ℕ) → d < K → each vertices d ≡ successor d
  vertices_at d l = get_or_listed successor K d 0 l

  rows_taken : Taken K edges vertices rows
  rows_taken = record {
    one_dart = omega (arith, twice_m, one_dart);
    darts = omega (arith, twice_m, fit.darts);
    edges_row = record { exact = length_listed partner K; inside = λ d l. rw (edges_at d l) (edge_low d l) };
    vertices_row = record { exact = length_listed successor K; inside = λ d l. rw (vertices_at d l) (vertex_low d l) };
    rows_length = omega (arith, twice_m, fit.exact);
    twice = λ d l. ap (each edges) (edges_at d l) ∙ edges_at (partner d) (edge_low d l) ∙ edge_twice d l;
    one_to_one = λ d e ld le f. successor_one d e ld le (sym (vertices_at d ld) ∙ f ∙ vertices_at e le);
  }

  becomes : Becomes K (each edges) (each vertices) (entry N rows)
  becomes = record { a2 = b.a2; a1 = λ d l. rw (vertices_at d l) (b.a1 d l); a0 = λ d l. rw (edges_at d l) (b.a0 d l) }

  pub made_yields : Yields (N / 2) (listed (edge_of (entry N rows)) (N / 2)) (listed (vertex_of (entry N rows)) (N / 2)) rows
  made_yields = record {
    taken = taken_accepted K edges vertices rows rows_taken;
    base = subst (λ (x : ℕ). Becomes K (each edges) (each vertices) (entry x rows)) twice_m becomes;
  }

-- a valid base of that shape is the base of its two rows
module _ (N : ℕ) (rows : List ℕ) (one_dart : 1 ≤ N) (fit : Rows 2 N rows) (valid : Valid (entry N rows) 2 (λ d. d < N)) (shape : Alternates N (entry N rows)) where
  abbrev a : Involutions
  a = entry N rows

  abbrev M : ℕ
  M = N / 2

  abbrev edge : ℕ → ℕ
  edge = edge_of (entry N rows)

  abbrev vertex : ℕ → ℕ
  vertex = vertex_of (entry N rows)

  twice_m : N ≡ 2 * M
  twice_m = even_is N shape.even

  low : (d : ℕ) → d < M → 2 * d + 1 < N
  low d l = omega (arith, twice_m)

  at : (d : ℕ) → d < M → (a 2 (2 * d) ≡ 2 * d + 1) × (a 1 (2 * d + 1) ≡ 2 * vertex d) × (a 0 (2 * d) ≡ 2 * edge d + 1)
  at d l =
      let s = and_both (eqb (a 2 (2 * d)) (2 * d + 1) && eqb (a 1 (2 * d + 1) % 2) 0) (eqb (a 0 (2 * d) % 2) 1) (shape.darts d l) in
      let t = and_both (eqb (a 2 (2 * d)) (2 * d + 1)) (eqb (a 1 (2 * d + 1) % 2) 0) s.0 in
      (eqb-true (a 2 (2 * d)) (2 * d + 1) t.0, even_is (a 1 (2 * d + 1)) (eqb-true (a 1 (2 * d + 1) % 2) 0 t.1), odd_is (a 0 (2 * d)) (eqb-true (a 0 (2 * d) % 2) 1 s.1))

  edge_low : (d : ℕ) → d < M → edge d < M
  edge_low d l = omega (arith, (at d l).2, valid.inside 0 (2 * d) (omega arith) (omega (arith, low d l)), twice_m)

  vertex_low : (d : ℕ) → d < M → vertex d < M
  vertex_low d l = omega (arith, (at d l).1, valid.inside 1 (2 * d + 1) (omega arith) (low d l), twice_m)

  side : (d : ℕ) → d < M → a 2 (2 * d + 1) ≡ 2 * d
  side d l = ap (a 2) (sym (at d l).0) ∙ valid.twice 2 (2 * d) (omega arith) (omega (arith, low d l))

  turn : (d : ℕ) → d < M → a 1 (2 * vertex d) ≡ 2 * d + 1
  turn d l = ap (a 1) (sym (at d l).1) ∙ valid.twice 1 (2 * d + 1) (omega arith) (low d l)

  far : (d : ℕ) → d < M → a 0 (2 * d + 1) ≡ 2 * edge d
  far d l =
      ap (a 0) (sym (at d l).0) ∙ sym (valid.commute 0 2 (2 * d) (omega arith) (omega arith) (omega (arith, low d l))) ∙ ap (a 2) (at d l).2 ∙ side (edge d) (edge_low d l)

  edge_twice : (d : ℕ) → d < M → edge (edge d) ≡ d
  edge_twice d l = omega (arith, (at (edge d) (edge_low d l)).2, ap (a 0) (sym (far d l)) ∙ valid.twice 0 (2 * d + 1) (omega arith) (low d l))

  pub shape_yields : Yields (N / 2) (listed (edge_of (entry N rows)) (N / 2)) (listed (vertex_of (entry N rows)) (N / 2)) rows
  shape_yields =
      made_yields N rows one_dart fit twice_m (record { a2 = λ d l. ((at d l).0, side d l); a1 = λ d l. ((at d l).1, turn d l); a0 = λ d l. ((at d l).2, far d l) }) edge_low vertex_low edge_twice

-- and a base that two rows yield has that shape
pub yields_shape : (N M : ℕ) (rows edges vertices : List ℕ) → length rows ≡ 3 * N → Yields M edges vertices rows → Alternates N (entry N rows)
yields_shape N M rows edges vertices e y =
    let t = taken M edges vertices rows y.taken in
    let twice : 2 * M ≡ N = omega (arith, t.rows_length) in
    let b = y.base in
    subst (λ (K : ℕ). Alternates K (entry K rows)) twice (record {
      even = even_mod M;
      darts = λ d l. let f : d < M = omega (arith, even_half M) in
          rw ((b.a2 d f).0, (b.a1 d f).0, (b.a0 d f).0, eq-eqb (2 * d + 1) (2 * d + 1) refl, even_mod (each vertices d), odd_mod (each edges d));
    })

-- a refusal leaves the rows as found
pub export_refused : (rows edges vertices : List ℕ) (v : Verdict) (r : Refusal) → refusal_of r ≡ v → Exports rows edges vertices v (refusal_of r) edges vertices
export_refused rows edges vertices v r e =
    let x = refusal_refuses r in
    let f : v ≡ refused x.number x.level x.involution x.dart = sym e ∙ x.is in
    rw f (x.is, refl, refl)
