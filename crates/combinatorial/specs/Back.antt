-- The way back: the tests, the shape of a base that two rows yield, and the two rows of it. Assumes nothing: these are definitions.
use Rattle.std.specs.Prelude.{◌≡◌, Bool, true, false, ◌&&◌, not, List, ℕ, ◌+◌, ◌*◌, ◌/◌, ◌%◌, ◌≤◌, ◌<◌, eqb, length}
use Rattle.std.specs.Int.Bits.{bit_xor}
use Rattle.maps.specs.Verdict.{Verdict, refused, when, ◌then◌}
use Rattle.maps.specs.Sizes.{number2, number4, has_length}
use Rattle.maps.specs.Map.{Involutions}
use Rattle.maps.specs.Table.{entry, each}
use Rattle.maps.specs.Check.{check_map}

-- 1 2 4 5 6 7, of two rows that have these lengths
abbrev pub tests_back : ℕ → ℕ → List ℕ → ℕ → ℕ → Verdict
tests_back n N rows edges vertices =
    when (not (eqb n 2)) (refused 1 0 0 0)
    then (number2 N
    then (number4 (has_length rows (3 * N) && (eqb edges (N / 2) && eqb vertices (N / 2)))
    then check_map (entry N rows) 2 N (λ d. true)))

-- an answer says whether something holds
abbrev pub Says : Bool → Type 0 → Type 0
Says true P = P
Says false P = P → ⊥

-- an even dart and the next are a2-neighbours, the a1-neighbour of the next is even, the a0-neighbour of the first is odd
abbrev pub alternates_at : Involutions → ℕ → Bool
alternates_at a even = (eqb (a 2 even) (even + 1) && eqb (a 1 (even + 1) % 2) 0) && eqb (a 0 even % 2) 1

-- the number of darts is even, and it is so of all of them
pub record Alternates (N : ℕ) (a : Involutions) : Type 0 where
  pub even : N % 2 ≡ 0
  pub darts : (d : ℕ) → d < N / 2 → alternates_at a (2 * d) ≡ true

-- the edge partner and the vertex successor of d
abbrev pub edge_of : Involutions → ℕ → ℕ
edge_of a d = a 0 (2 * d) / 2

abbrev pub vertex_of : Involutions → ℕ → ℕ
vertex_of a d = a 1 (2 * d + 1) / 2

-- n, the darts and the lengths of a base that two rows yield
pub record Fit (n N rows edges vertices : ℕ) : Type 0 where
  pub two : n ≡ 2
  pub one_dart : 1 ≤ N
  pub darts : N ≤ 4096
  pub even : N % 2 ≡ 0
  pub rows_length : rows ≡ 3 * N
  pub edges_length : edges ≡ N / 2
  pub vertices_length : vertices ≡ N / 2

-- two rows of m pairs or more, whose entries are places of both
pub record Pairs (m : ℕ) (edge turn : List ℕ) : Type 0 where
  pub darts : m ≤ 2048
  pub edge_length : 2 * m ≤ length edge
  pub turn_length : 2 * m ≤ length turn
  pub edge_low : (d : ℕ) → d < 2 * m → each edge d < 2 * m
  pub turn_low : (d : ℕ) → d < 2 * m → each turn d < 2 * m

-- a0 takes the pair of d to a pair, turned round, and a1 takes its odd dart to an even one
pub record Paired (edge turn : ℕ → ℕ) (d : ℕ) : Type 0 where
  pub pair : edge (2 * d) ≡ edge (2 * d + 1) + 1
  pub odd : edge (2 * d) % 2 ≡ 1
  pub even : turn (2 * d + 1) % 2 ≡ 0

-- the even dart comes back by a0, the odd one by a1
pub record Backward (edge turn : ℕ → ℕ) (d : ℕ) : Type 0 where
  pub by_edge : edge (edge (2 * d)) ≡ 2 * d
  pub by_turn : turn (turn (2 * d + 1)) ≡ 2 * d + 1

-- the pattern of the three rows that two rows yield
pub record Pattern (n N : ℕ) (rows : List ℕ) (edges vertices : ℕ) : Type 0 where
  pub fit : Fit n N (length rows) edges vertices
  pub low : (d : ℕ) → d < length rows → each rows d < N
  pub sides : (d : ℕ) → d < N → entry N rows 2 d ≡ bit_xor d 1
  pub pairs : (d : ℕ) → d < N / 2 → Paired (entry N rows 0) (entry N rows 1) d
  pub back : (d : ℕ) → d < N / 2 → Backward (entry N rows 0) (entry N rows 1) d
