-- Bring in a 2D combinatorial map, and take it back. Assumes nothing: these are definitions.
use Rattle.std.specs.Prelude.{◌≡◌, Bool, true, false, ◌&&◌, ◌||◌, not, List, ℕ, zero, suc, ◌+◌, ◌*◌, ◌/◌, ◌<◌, eqb, leb, ltb}
use Rattle.maps.specs.Verdict.{Verdict, accepted, refused, when, ◌then◌, scan}
use Rattle.maps.specs.Sizes.{number2, number4, has_length}
use Rattle.maps.specs.Map.{Involutions}
use Rattle.maps.specs.Table.{entry, each}
use Rattle.maps.specs.Check.{check_map}

-- Scope: 'Combinatorial maps'. Dart d becomes darts 2d and 2d+1. These two are a2-neighbours; 2d+1 and twice the vertex successor of d are
-- a1-neighbours; a0 takes 2d to twice the edge partner plus 1, and 2d+1 to twice the edge partner.
pub record Becomes (M : ℕ) (edge vertex : ℕ → ℕ) (a : Involutions) : Type 0 where
  pub a2 : (d : ℕ) → d < M → (a 2 (2 * d) ≡ 2 * d + 1) × (a 2 (2 * d + 1) ≡ 2 * d)
  pub a1 : (d : ℕ) → d < M → (a 1 (2 * d + 1) ≡ 2 * vertex d) × (a 1 (2 * vertex d) ≡ 2 * d + 1)
  pub a0 : (d : ℕ) → d < M → (a 0 (2 * d) ≡ 2 * edge d + 1) × (a 0 (2 * d + 1) ≡ 2 * edge d)

-- Scope: 'Numbers of refusal'. 2 of a partner's map: M is not 1 to 2,048.
unfoldable pub number2_m : ℕ → Verdict
number2_m M = when (not (leb 1 M && leb M 2048)) (refused 2 0 0 0)

-- Scope: 'Numbers of refusal'. 5 of a partner's row: an entry is M or more. Edges are involution 0, vertices involution 1.
unfoldable pub outside : ℕ → ℕ → List ℕ → Verdict
outside M i row = scan M (λ d. when (not (ltb (each row d) M)) (refused 5 0 i d))

-- Scope: 'Numbers of refusal'. 6 of the edge row: it doesn't lead back.
unfoldable pub edges_back : ℕ → List ℕ → Verdict
edges_back M edges = scan M (λ d. when (not (eqb (each edges (each edges d)) d)) (refused 6 0 0 d))

-- had a dart before d this image
unfoldable pub had : List ℕ → ℕ → ℕ → Bool
had row image zero = false
had row image (suc d) = had row image d || eqb (each row d) image

-- Scope: 'Numbers of refusal'. 21: the vertex row sends two darts to one; the dart is the first whose image an earlier dart had.
unfoldable pub number21 : ℕ → List ℕ → Verdict
number21 M vertices = scan M (λ d. when (had vertices (each vertices d) d) (refused 21 0 1 d))

-- Scope: 'Bring in a combinatorial map'. M, the lengths, 5 of the edge row and of the vertex row, 6, 21.
unfoldable pub import_lent : ℕ → List ℕ → List ℕ → List ℕ → Verdict
import_lent M edges vertices rows =
    number2_m M
    then (number4 (has_length edges M && (has_length vertices M && has_length rows (6 * M)))
    then (outside M 0 edges
    then (outside M 1 vertices
    then (edges_back M edges
    then number21 M vertices))))

-- Scope: 'Bring in a combinatorial map'. Two rows that are taken yield these base rows.
pub record Yields (M : ℕ) (edges vertices rows : List ℕ) : Type 0 where
  pub taken : import_lent M edges vertices rows ≡ accepted
  pub base : Becomes M (each edges) (each vertices) (entry (2 * M) rows)

-- Scope: 'Bring in a combinatorial map'. Accepted, the base that the two rows yield; refused, as found.
abbrev pub ImportLeaves : ℕ → List ℕ → List ℕ → List ℕ → Verdict → List ℕ → Type 0
ImportLeaves M edges vertices found accepted rows = Yields M edges vertices rows
ImportLeaves M edges vertices found (refused number level involution dart) rows = rows ≡ found

-- Scope: 'Take a combinatorial map back'. 1 for n other than 2, then 2, 4, and 5, 6 and 7 as in the base check.
unfoldable pub export_lent : ℕ → ℕ → List ℕ → List ℕ → List ℕ → Verdict
export_lent n N rows edges vertices =
    when (not (eqb n 2)) (refused 1 0 0 0)
    then (number2 N
    then (number4 (has_length rows (3 * N) && (has_length edges (N / 2) && has_length vertices (N / 2)))
    then check_map (entry N rows) 2 N (λ d. true)))

-- Scope: 'Numbers of refusal'. 22: no two rows yield the base.
abbrev pub NoRows : List ℕ → Type 0
NoRows rows = (M : ℕ) (edges vertices : List ℕ) → Yields M edges vertices rows → ⊥

-- Scope: 'Take a combinatorial map back'. What is answered and left in the two rows, by what the tests say. A base that passes them is taken back to
-- the two rows that yield it, or is refused with 22. A refusal leaves the rows as found.
abbrev pub Exports : List ℕ → List ℕ → List ℕ → Verdict → Verdict → List ℕ → List ℕ → Type 0
Exports rows foundEdges foundVertices accepted accepted edges vertices = (M : ℕ) × Yields M edges vertices rows
Exports rows foundEdges foundVertices accepted (refused number level involution dart) edges vertices =
    (refused number level involution dart ≡ refused 22 0 0 0) × NoRows rows × (edges ≡ foundEdges) × (vertices ≡ foundVertices)
Exports rows foundEdges foundVertices (refused number level involution dart) answer edges vertices =
    (answer ≡ refused number level involution dart) × (edges ≡ foundEdges) × (vertices ≡ foundVertices)
