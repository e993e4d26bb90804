-- The pattern of three rows: where it is found, two rows yield them. Assumes nothing.
use mathlib.Core.Path.{◌≡◌, sym, ap, ap₂, ◌∙◌}
use mathlib.Core.List.{List}
use Prim.Native.Nat.{ℕ, ◌+◌, ◌-◌, ◌*◌, ◌/◌, ◌<◌}
use native.Mathlib.Omega.{arith}
use lib.Arith.{digits_div}
use lib.Bits.{bit_xor, differ, xor_step, xor_zero_r}
use lib.ListN.{length, take, drop, length-take, length-drop}
use lib.Seq.{get_or-take, get_or-drop}
use Rattle.maps.specs.Verdict.{accepted}
use Rattle.maps.specs.Map.{Involutions}
use Rattle.maps.specs.Table.{entry, each, listed}
use Rattle.maps.specs.Partner.{Yields, export_lent}
use Rattle.answers.specs.Rows.{Rows}
use Rattle.combinatorial.specs.Back.{edge_of, vertex_of, Fit, Pairs, Paired, Backward, Pattern}
use Rattle.combinatorial.proofs.Halves.{even_mod, odd_mod, even_half, even_is, odd_is}
use Rattle.combinatorial.proofs.Shapes.{made_yields}
use Rattle.combinatorial.proofs.TakenBack.{yields_passes}

-- the other dart of a pair
xor_even : (d : ℕ) → bit_xor (2 * d) 1 ≡ 2 * d + 1
xor_even d = xor_step (2 * d) 1 ∙ ap₂ (λ (x y : ℕ). bit_xor x 0 * 2 + differ y 1) (even_half d) (even_mod d) ∙ omega (arith, xor_zero_r d)

odd_half : (d : ℕ) → (2 * d + 1) / 2 ≡ d
odd_half d = let e : 2 * d + 1 ≡ d * 2 + 1 = omega arith in ap (λ (x : ℕ). x / 2) e ∙ digits_div d (omega arith)

xor_odd : (d : ℕ) → bit_xor (2 * d + 1) 1 ≡ 2 * d
xor_odd d = xor_step (2 * d + 1) 1 ∙ ap₂ (λ (x y : ℕ). bit_xor x 0 * 2 + differ y 1) (odd_half d) (odd_mod d) ∙ omega (arith, xor_zero_r d)

-- the part from place s on, its length, and what it has at place k
abbrev pub part : List ℕ → ℕ → List ℕ
part xs s = take (length xs - s) (drop s xs)

pub part_length : (xs : List ℕ) (s : ℕ) → length (part xs s) ≡ length xs - s
part_length xs s = simp (length-take, length-drop) (omega arith)

part_at : (xs : List ℕ) (s k : ℕ) → s + k < length xs → each (part xs s) k ≡ each xs (s + k)
part_at xs s k h = get_or-take (length xs - s) (drop s xs) k 0 (omega arith) ∙ get_or-drop s xs k 0

module _ (n N : ℕ) (rows : List ℕ) (edges vertices : ℕ) (fit : Fit n N (length rows) edges vertices) (low : (d : ℕ) → d < length rows → each rows d < N) where
  even_n : N ≡ 2 * (N / 2)
  even_n = even_is N fit.even

  -- the first row and the second, as they are lent
  pub lent_pairs : Pairs (N / 2) rows (part rows N)
  lent_pairs = record {
    darts = omega (arith, even_n, fit.darts);
    edge_length = omega (arith, even_n, fit.rows_length);
    turn_length = omega (arith, even_n, fit.rows_length, part_length rows N);
    edge_low = λ d f. omega (arith, even_n, low d (omega (arith, even_n, fit.rows_length)));
    turn_low = λ d f. omega (arith, even_n, part_at rows N d (omega (arith, even_n, fit.rows_length)), low (N + d) (omega (arith, even_n, fit.rows_length)));
  }

  first : (d : ℕ) → entry N rows 0 d ≡ each rows d
  first d = ap (each rows) (omega arith)

  second : (d : ℕ) → d < N → entry N rows 1 d ≡ each (part rows N) d
  second d f = ap (each rows) (omega arith) ∙ sym (part_at rows N d (omega (arith, fit.rows_length)))

  -- what the three passes find
  pub found : ((d : ℕ) → d < N → each (part rows (2 * N)) d ≡ bit_xor d 1) → ((d : ℕ) → d < N / 2 → Paired (each rows) (each (part rows N)) d) → ((d : ℕ) → d < N / 2 → Backward (each rows) (each (part rows N)) d) → Pattern n N rows edges vertices
  found sides pairs back = record {
    fit = fit;
    low = low;
    sides = λ d f. sym (part_at rows (2 * N) d (omega (arith, fit.rows_length))) ∙ sides d f;
    pairs = λ d f. let p = pairs d f in record {
      pair = first (2 * d) ∙ p.pair ∙ ap (λ (x : ℕ). x + 1) (sym (first (2 * d + 1)));
      odd = rw (first (2 * d)) p.odd;
      even = rw (second (2 * d + 1) (omega (arith, even_n))) p.even;
    };
    back = λ d f. let p = back d f in record {
      by_edge = ap (entry N rows 0) (first (2 * d)) ∙ first (each rows (2 * d)) ∙ p.by_edge;
      by_turn = ap (entry N rows 1) (second (2 * d + 1) (omega (arith, even_n))) ∙ second (each (part rows N) (2 * d + 1)) (omega (arith, even_n, lent_pairs.turn_low (2 * d + 1) (omega arith))) ∙ p.by_turn;
    };
  }

module _ (n N : ℕ) (rows : List ℕ) (edges vertices : ℕ) (p : Pattern n N rows edges vertices) where
  abbrev a : Involutions
  a = entry N rows

  abbrev M : ℕ
  M = N / 2

  twice_m : N ≡ 2 * M
  twice_m = even_is N p.fit.even

  pub pattern_rows : Rows 2 N rows
  pattern_rows = record { dimension = omega arith; darts = p.fit.darts; exact = p.fit.rows_length }

  edge_is : (d : ℕ) → d < M → a 0 (2 * d) ≡ 2 * edge_of a d + 1
  edge_is d l = odd_is (a 0 (2 * d)) (p.pairs d l).odd

  far : (d : ℕ) → d < M → a 0 (2 * d + 1) ≡ 2 * edge_of a d
  far d l = omega (arith, edge_is d l, (p.pairs d l).pair)

  vertex_is : (d : ℕ) → d < M → a 1 (2 * d + 1) ≡ 2 * vertex_of a d
  vertex_is d l = even_is (a 1 (2 * d + 1)) (p.pairs d l).even

  edge_low : (d : ℕ) → d < M → edge_of a d < M
  edge_low d l = omega (arith, twice_m, edge_is d l, p.low (0 * N + 2 * d) (omega (arith, twice_m, p.fit.rows_length)))

  vertex_low : (d : ℕ) → d < M → vertex_of a d < M
  vertex_low d l = omega (arith, twice_m, vertex_is d l, p.low (1 * N + (2 * d + 1)) (omega (arith, twice_m, p.fit.rows_length)))

  edge_twice : (d : ℕ) → d < M → edge_of a (edge_of a d) ≡ d
  edge_twice d l = omega (arith, far (edge_of a d) (edge_low d l), ap (a 0) (sym (edge_is d l)) ∙ (p.back d l).by_edge)

  pub pattern_yields : Yields (N / 2) (listed (edge_of (entry N rows)) (N / 2)) (listed (vertex_of (entry N rows)) (N / 2)) rows
  pattern_yields =
      made_yields N rows p.fit.one_dart pattern_rows twice_m (record {
        a2 = λ d l. (p.sides (2 * d) (omega (arith, twice_m)) ∙ xor_even d, p.sides (2 * d + 1) (omega (arith, twice_m)) ∙ xor_odd d);
        a1 = λ d l. (vertex_is d l, ap (a 1) (sym (vertex_is d l)) ∙ (p.back d l).by_turn);
        a0 = λ d l. (edge_is d l, far d l);
      }) edge_low vertex_low edge_twice

-- and the tests accept them
pub pattern_passes : (n N : ℕ) (rows into-edges into-vertices : List ℕ) → Pattern n N rows (length into-edges) (length into-vertices) → export_lent n N rows into-edges into-vertices ≡ accepted
pattern_passes n N rows into-edges into-vertices p =
    let K = N / 2 in
    let y = pattern_yields n N rows (length into-edges) (length into-vertices) p in
    ap₂ (λ (x z : ℕ). export_lent x z rows into-edges into-vertices) p.fit.two (even_is N p.fit.even)
    ∙ yields_passes K (listed (edge_of (entry N rows)) K) (listed (vertex_of (entry N rows)) K) rows into-edges into-vertices y p.fit.edges_length p.fit.vertices_length
