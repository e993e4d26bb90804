-- The marking on the small maps: on the segment no vertex is marked, on the square all but {0,7}. What is tested of each dart is tested by computation. Assumes nothing.
use mathlib.Core.Path.{◌≡◌, refl, sym}
use mathlib.Core.Logic.{◌⊎◌, inl, inr}
use mathlib.Core.Bool.{Bool, true, false, cond, ◌||◌, not}
use mathlib.Core.List.{List, [], ◌∷◌}
use Prim.Native.Nat.{ℕ, zero, suc, ◌+◌, ◌-◌, ◌≤◌, ◌<◌}
use native.Mathlib.Omega.{arith}
use lib.Dec.{eqb, lit<, lit≤}
use borrow.Author.Tests.{eqb-true, eqb-false, eq-eqb, not-true, not-false}
use Rattle.maps.specs.Verdict.{Verdict, accepted, refused, when, scan}
use Rattle.maps.specs.Map.{Involutions, Valid}
use Rattle.maps.specs.Cell.{Cell, itself, onward}
use Rattle.maps.specs.Orbit.{here, further}
use Rattle.maps.specs.Parts.{Part, Piece}
use Rattle.maps.specs.Mark.{stay}
use Rattle.maps.specs.Table.{entry, each}
use Rattle.maps.specs.Explicit.{present}
use Rattle.maps.specs.MarkCells.{WouldBeMarked, LeftUnmarked, Marked, CellsMarked}
use Rattle.maps.proofs.Small.{one as segment, corners as square, small_maps}
use Rattle.laws.proofs.Verdicts.{scan_accepted, when_accepted}
use Rattle.facts.proofs.Checks.{check_pyramid_lem}
use Rattle.cells.proofs.Parts.{besides_both, piece_join, piece_present, apart_two, open_end}

-- a test that holds at each of a few places
abbrev every : (ℕ → Bool) → ℕ → Verdict
every p m = scan m (λ d. when (not (p d)) (refused 0 0 0 0))

every_at : (p : ℕ → Bool) (m : ℕ) → every p m ≡ accepted → (d : ℕ) → d < m → p d ≡ true
every_at p m e d l = not-false (p d) (when_accepted (not (p d)) 0 0 0 0 (scan_accepted m (λ d. when (not (p d)) (refused 0 0 0 0)) e d l))

-- ---- the segment

abbrev pub segment_map : Involutions
segment_map = entry 2 segment.rows

segment_valid : Valid segment_map 1 (λ d. d < 2)
segment_valid = (check_pyramid_lem segment_map 1 2 1 (each segment.lambda) (each segment.delta) (lit≤ tt) small_maps.p1.0).base

-- its vertices are open ends
segment_ends : every (λ d. eqb (segment_map 1 d) d) 2 ≡ accepted
unfolding scan
segment_ends = refl

segment_row : every (λ d. eqb (each (255 ∷ 255 ∷ []) d) stay) 2 ≡ accepted
unfolding scan
segment_row = refl

-- On the segment no vertex is marked.
pub segment_marks : CellsMarked 1 2 segment.rows 0 (255 ∷ 255 ∷ [])
segment_marks = record { long = refl; mark = λ d l. inr (λ m. unmarked d l m.1, eqb-true (each (255 ∷ 255 ∷ []) d) stay (every_at (λ d. eqb (each (255 ∷ 255 ∷ []) d) stay) 2 segment_row d l)) }
  where
    unmarked : (d : ℕ) → d < 2 → Marked segment_map 1 0 d → ⊥
    unmarked d l = open_end segment_map 1 0 (λ d. d < 2) segment_valid (lit< tt) d l (eqb-true (segment_map 1 d) d (every_at (λ d. eqb (segment_map 1 d) d) 2 segment_ends d l))

-- ---- the square

abbrev pub square_map : Involutions
square_map = entry 8 square.rows

square_valid : Valid square_map 1 (λ d. d < 8)
square_valid = (check_pyramid_lem square_map 1 8 2 (each square.lambda) (each square.delta) (lit≤ tt) small_maps.p3.0).base

-- n = 1: when a0 and a1 are both left out, each dart is a part
part_alone : (x y : ℕ) → Part square_map 1 0 x y → y ≡ x
part_alone x _ here = refl
part_alone x _ (further d j p lj u) = absurd ((besides_both 0 j u).1 (omega (arith, (besides_both 0 j u).0)))

-- and a vertex is a dart and its a1-neighbour
vertex : (x y : ℕ) → x < 8 → Cell square_map 1 0 x y → (y ≡ x) ⊎ (y ≡ square_map 1 x)
vertex x _ l itself = inl refl
vertex x _ l (onward d j c lj ne) = go (vertex x d l c)
  where
    one : j ≡ 1
    one = omega arith

    go : (d ≡ x) ⊎ (d ≡ square_map 1 x) → (square_map j d ≡ x) ⊎ (square_map j d ≡ square_map 1 x)
    go (inl q) = inr (rw (one, q))
    go (inr q) = inl (rw (one, q) (square_valid.twice 1 x (lit≤ tt) l))

-- no vertex of the square is an open end
square_linked : every (λ d. not (eqb (square_map 1 d) d)) 8 ≡ accepted
unfolding scan
square_linked = refl

-- so every vertex would be marked
square_would : (d : ℕ) → d < 8 → WouldBeMarked square_map 1 0 d
square_would d l = record {
  removable = λ f. absurd (omega arith);
  two = apart_two square_map 1 0 (λ d. d < 8) square_valid (lit< tt) d l (λ f. absurd (omega arith))
      (λ p. eqb-false (square_map 1 d) d (not-true (eqb (square_map 1 d) d) (every_at (λ d. not (eqb (square_map 1 d) d)) 8 square_linked d l)) (part_alone d (square_map 1 d) p));
}

-- from each dart but the last a row leads to the next
square_next : every (λ d. eqb (square_map 0 d) (suc d) || eqb (square_map 1 d) (suc d)) 7 ≡ accepted
unfolding scan
square_next = refl

-- and from the last to 0, so each reaches 0
reaches_first : (k d : ℕ) → k + d ≡ 7 → Piece square_map 1 d 0
reaches_first zero d e = let q : d ≡ 7 = omega arith in rw q (further 7 1 here (lit≤ tt) refl)
reaches_first (suc k) d e = piece_join square_map 1 (λ d. d < 8) square_valid d (suc d) 0 (go (eqb (square_map 0 d) (suc d)) refl) (reaches_first k (suc d) (omega arith))
  where
    by : (j : ℕ) → j ≤ 1 → square_map j d ≡ suc d → Piece square_map 1 d (suc d)
    by j lj e = let p : Piece square_map 1 d (square_map j d) = further d j here lj refl in rw e at p

    go : (b : Bool) → eqb (square_map 0 d) (suc d) ≡ b → Piece square_map 1 d (suc d)
    go true q = by 0 (lit≤ tt) (eqb-true (square_map 0 d) (suc d) q)
    go false q =
        let r = every_at (λ d. eqb (square_map 0 d) (suc d) || eqb (square_map 1 d) (suc d)) 7 square_next d (omega arith) in
        by 1 (lit≤ tt) (eqb-true (square_map 1 d) (suc d) (rw q at r))

-- the vertex of dart 0 is {0,7}
square_first : every (λ d. not (eqb (square_map 1 d) 0) || eqb d 7) 8 ≡ accepted
unfolding scan
square_first = refl

first_vertex : (d : ℕ) → d < 8 → Cell square_map 1 0 d 0 → (d ≡ 0) ⊎ (d ≡ 7)
first_vertex d l c = go (vertex d 0 l c)
  where
    go : (0 ≡ d) ⊎ (0 ≡ square_map 1 d) → (d ≡ 0) ⊎ (d ≡ 7)
    go (inl e) = inl (sym e)
    go (inr e) =
        let r = every_at (λ d. not (eqb (square_map 1 d) 0) || eqb d 7) 8 square_first d l in
        let s : eqb d 7 ≡ true = rw (eq-eqb (square_map 1 d) 0 (sym e)) at r in
        inr (eqb-true d 7 s)

-- it is left unmarked, since every dart of the piece would be marked
square_left : (d : ℕ) → d < 8 → Cell square_map 1 0 d 0 → LeftUnmarked square_map 1 0 d
square_left d l c = record { every = λ e p. square_would e (piece_present square_map 1 (λ d. d < 8) square_valid d e l p); lowest = 0; in_cell = c; least = λ e p. omega arith }

-- and no other is
square_kept : (d : ℕ) → d < 8 → (d ≡ 0 → ⊥) → (d ≡ 7 → ⊥) → LeftUnmarked square_map 1 0 d → ⊥
square_kept d l f g s =
    let e : s.lowest ≡ 0 = omega (arith, s.least 0 (reaches_first (7 - d) d (omega arith))) in
    elim (first_vertex d l (rw e at s.in_cell)) [ inl q ↦ f q | inr q ↦ g q ]

-- all but {0,7}
abbrev pub square_row : List ℕ
square_row = 255 ∷ 0 ∷ 0 ∷ 0 ∷ 0 ∷ 0 ∷ 0 ∷ 255 ∷ []

square_row_lem : every (λ d. eqb (each square_row d) (cond (eqb d 0 || eqb d 7) stay 0)) 8 ≡ accepted
unfolding scan
square_row_lem = refl

square_present : every (λ d. present 8 square.rows d) 8 ≡ accepted
unfolding scan
square_present = refl

-- On the square all but {0,7} are marked.
pub square_marks : CellsMarked 1 8 square.rows 0 square_row
square_marks = record { long = refl; mark = λ d l. go d l (eqb d 0) refl (eqb d 7) refl (eqb-true _ _ (every_at (λ d. eqb (each square_row d) (cond (eqb d 0 || eqb d 7) stay 0)) 8 square_row_lem d l)) }
  where
    go : (d : ℕ) → d < 8 → (b : Bool) → eqb d 0 ≡ b → (c : Bool) → eqb d 7 ≡ c → each square_row d ≡ cond (eqb d 0 || eqb d 7) stay 0
        → ((present 8 square.rows d ≡ true) × Marked square_map 1 0 d × (each square_row d ≡ 0))
        ⊎ (((present 8 square.rows d ≡ true) × Marked square_map 1 0 d → ⊥) × (each square_row d ≡ stay))
    go d l true q c r e = inr (λ m. m.1.1 (square_left d l (rw (eqb-true d 0 q) itself)), rw q at e)
    go d l false q true r e =
        let to : Cell square_map 1 0 7 0 = onward 7 1 itself (lit≤ tt) (λ z. omega arith) in
        inr (λ m. m.1.1 (square_left d l (rw (eqb-true d 7 r) to)), rw (q, r) at e)
    go d l false q false r e =
        inl (every_at (λ d. present 8 square.rows d) 8 square_present d l, (square_would d l, square_kept d l (eqb-false d 0 q) (eqb-false d 7 r)), rw (q, r) at e)
