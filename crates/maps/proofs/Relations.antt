-- The jobs whose definitions are relations, on the small maps: the census of the segment, the square's marks, a base that no two rows yield. Assumes nothing.
use mathlib.Core.Path.{◌≡◌, refl, sym, ◌∙◌}
use mathlib.Core.Logic.{◌⊎◌, inl, inr, ⊎_elim}
use mathlib.Core.Bool.{Bool, true, false, not, true≢false}
use mathlib.Core.List.{List, [], ◌∷◌}
use Prim.Native.Nat.{ℕ, zero, suc, ◌+◌, ◌*◌, ◌≤◌, ◌<◌}
use native.Mathlib.Omega.{arith}
use lib.ListN.{get_or}
use lib.Dec.{eqb, ltb, lit<, lit≤}
use lib.IntN.{ℤ, pos, negsuc}
use borrow.Author.Tests.{eqb-true, eqb-false, ltb-true, not-true}
use Rattle.maps.specs.Verdict.{Verdict, accepted, refused, scan}
use Rattle.maps.specs.Map.{Involutions}
use Rattle.maps.specs.Count.{count}
use Rattle.maps.specs.Cell.{Cell, itself, onward}
use Rattle.maps.specs.Orbit.{here, further}
use Rattle.maps.specs.Parts.{besides, Part, TwoParts, Piece}
use Rattle.maps.specs.Sizes.{number2, number4}
use Rattle.maps.specs.Table.{entry, each}
use Rattle.maps.specs.Folded.{survives, marks, level, base, lambda_of, delta_of}
use Rattle.maps.specs.Check.{at5, at6, at7, check5, check6, check7, check_map}
use Rattle.maps.specs.MarkCells.{WouldBeMarked, LeftUnmarked, Marked, CellsMarked}
use Rattle.maps.specs.Census.{CellCount, alternating, CensusOf}
use Rattle.maps.specs.Partner.{number2_m, import_lent, export_lent, Yields, NoRows, Exports}
use Rattle.maps.proofs.Small.{one, corners, partner_base}
use Rattle.maps.proofs.Names.{every, every_at}

-- what holds of 0 and 1 holds below 2
below_two : (P : ℕ → Type 0) → P 0 → P 1 → (d : ℕ) → d < 2 → P d
below_two P p0 p1 zero l = p0
below_two P p0 p1 (suc zero) l = p1
below_two P p0 p1 (suc (suc d)) l = absurd (omega arith)

-- ---- the census of P1

-- two vertices and an edge, then a vertex and an edge
unfoldable pub segment_counts : ℕ → ℕ → ℕ
segment_counts zero zero = 2
segment_counts zero (suc zero) = 1
segment_counts zero (suc (suc i)) = 0
segment_counts (suc zero) zero = 1
segment_counts (suc zero) (suc zero) = 1
segment_counts (suc zero) (suc (suc i)) = 0
segment_counts (suc (suc l)) i = 0

unfoldable pub segment_sums : ℕ → ℤ
segment_sums zero = pos 1
segment_sums (suc l) = pos 0

-- of a map with n = 1: a dart that a_1 leaves where it is is a vertex by itself
end_alone : (a : Involutions) (x : ℕ) → a 1 x ≡ x → (e : ℕ) → Cell a 1 0 x e → e ≡ x
end_alone a x q _ itself = refl
end_alone a x q _ (onward d j c lj ne) = let s = end_alone a x q d c in let row : j ≡ 1 = omega arith in rw (row, s) q

ends_counted : CellCount (base one) 1 2 (survives (lambda_of one) 0) 0 2
unfolding count
ends_counted = record {
  counted = λ d. true;
  only = below_two _ (λ q. (refl, λ e c. omega (arith, end_alone (base one) 0 refl e c))) (λ q. (refl, λ e c. omega (arith, end_alone (base one) 1 refl e c)));
  every = λ d l p low. refl;
  is = refl;
}

-- its edge has both darts
edge_counted : CellCount (base one) 1 2 (survives (lambda_of one) 0) 1 1
unfolding count
edge_counted = record {
  counted = λ d. eqb d 0;
  only = below_two _ (λ q. (refl, λ e c. omega arith)) (λ q. absurd (true≢false (sym q)));
  every = below_two _ (λ p low. refl) (λ p low. let f : 1 ≤ 0 = low 0 (onward 1 0 itself (lit≤ tt) (λ q. omega arith)) in absurd (omega arith));
  is = refl;
}

-- on level 1 dart 0 is all there is
one_left : (i : ℕ) → CellCount (level (base one) 1 2 (marks 1 (lambda_of one) (delta_of one)) 1) 1 2 (survives (lambda_of one) 1) i 1
unfolding count
one_left i = record {
  counted = λ d. eqb d 0;
  only = below_two _ (λ q. (refl, λ e c. omega arith)) (λ q. absurd (true≢false (sym q)));
  every = below_two _ (λ p low. refl) (λ p low. absurd (true≢false (sym p)));
  is = refl;
}

-- and so any count says
one_only : (i number : ℕ) → CellCount (level (base one) 1 2 (marks 1 (lambda_of one) (delta_of one)) 1) 1 2 (survives (lambda_of one) 1) i number → number ≡ 1
unfolding count
one_only i number c = c.is ∙ rw (c.every 0 (lit< tt) refl (λ e w. omega arith), absent_not (c.counted 1) (λ q. (c.only 1 (lit< tt) q).0)) refl
  where
    absent_not : (b : Bool) → (b ≡ true → false ≡ true) → b ≡ false
    absent_not true f = absurd (true≢false (sym (f refl)))
    absent_not false f = refl

-- ---- the square's vertices

abbrev square : Involutions
square = base corners

twice : (d : ℕ) → d < 8 → square 1 (square 1 d) ≡ d
unfolding every
twice d l = eqb-true (square 1 (square 1 d)) d (every_at (λ d. eqb (square 1 (square 1 d)) d) 8 refl d l)

not_free : (d : ℕ) → d < 8 → square 1 d ≡ d → ⊥
unfolding every
not_free d l = eqb-false (square 1 d) d (not-true (eqb (square 1 d) d) (every_at (λ d. not (eqb (square 1 d) d)) 8 refl d l))

inside : (j d : ℕ) → j < 2 → d < 8 → square j d < 8
unfolding every
inside j d lj ld = ltb-true (square j d) 8 (below_two (λ j. ltb (square j d) 8 ≡ true) (every_at (λ d. ltb (square 0 d) 8) 8 refl d ld) (every_at (λ d. ltb (square 1 d) 8) 8 refl d ld) j lj)

-- of a map with n = 1: a vertex is a dart and its a_1-neighbour
in_vertex : (a : Involutions) (x y : ℕ) → a 1 (a 1 x) ≡ x → Cell a 1 0 x y → (y ≡ x) ⊎ (y ≡ a 1 x)
in_vertex a x _ f itself = inl refl
in_vertex a x _ f (onward d j c lj ne) = go (in_vertex a x d f c)
  where
    row : j ≡ 1
    row = omega arith

    go : (d ≡ x) ⊎ (d ≡ a 1 x) → (a j d ≡ x) ⊎ (a j d ≡ a 1 x)
    go (inl q) = inr (rw (row, q))
    go (inr q) = inl (rw (row, q) f)

-- with a_0 and a_1 both left out each dart is a part
no_row : (j : ℕ) → j ≤ 1 → besides 0 j ≡ true → ⊥
no_row zero l u = true≢false (sym u)
no_row (suc zero) l u = true≢false (sym u)
no_row (suc (suc j)) l u = omega arith

alone : (a : Involutions) (x y : ℕ) → Part a 1 0 x y → y ≡ x
alone a x _ here = refl
alone a x _ (further d j p lj u) = absurd (no_row j lj u)

-- so a vertex of two darts would be marked
two_marked : (a : Involutions) (d : ℕ) → a 1 (a 1 d) ≡ d → (a 1 d ≡ d → ⊥) → WouldBeMarked a 1 0 d
two_marked a d back free = record {
  removable = λ f. absurd (omega arith);
  two = record {
    one = d;
    other = a 1 d;
    one_in = itself;
    other_in = onward d 1 itself (lit≤ tt) (λ q. omega arith);
    apart = λ p. free (alone a d (a 1 d) p);
    all = λ e c. go e (in_vertex a d e back c);
  };
}
  where
    go : (e : ℕ) → (e ≡ d) ⊎ (e ≡ a 1 d) → Part a 1 0 d e ⊎ Part a 1 0 (a 1 d) e
    go e (inl q) = inl (rw q here)
    go e (inr q) = inr (rw q here)

-- as each of the square is
would : (d : ℕ) → d < 8 → WouldBeMarked square 1 0 d
would d l = two_marked square d (twice d l) (not_free d l)

piece_inside : (x y : ℕ) → x < 8 → Piece square 1 x y → y < 8
piece_inside x _ l here = l
piece_inside x _ l (further d j p lj u) = inside j d (omega arith) (piece_inside x d l p)

-- the lowest dart of such a vertex is another than 0
not_lowest : (d lowest : ℕ) → d < 8 → 0 < d → 0 < square 1 d → Cell square 1 0 d lowest → lowest ≤ 0 → ⊥
not_lowest d lowest l f g c z = go (in_vertex square d lowest (twice d l) c)
  where
    go : (lowest ≡ d) ⊎ (lowest ≡ square 1 d) → ⊥
    go (inl q) = omega arith
    go (inr q) = omega arith

marked_one : Marked square 1 0 1
marked_one = (would 1 (lit< tt), λ u. not_lowest 1 u.lowest (lit< tt) (lit< tt) (lit< tt) u.in_cell (u.least 0 (further 1 0 here (lit≤ tt) refl)))

left_at : (d : ℕ) → d < 8 → Cell square 1 0 d 0 → LeftUnmarked square 1 0 d
left_at d l c = record { every = λ e p. would e (piece_inside d e l p); lowest = 0; in_cell = c; least = λ e p. omega arith }

-- a vertex of one dart is one part
one_part : (a : Involutions) (x : ℕ) → a 1 x ≡ x → TwoParts a 1 0 x → ⊥
one_part a x free t =
    let p = end_alone a x free t.one t.one_in in
    let q = end_alone a x free t.other t.other_in in
    t.apart (rw (p, q) here)

-- two edges in a row, whose lowest dart is at the vertex between them
abbrev row_of_two : Involutions
row_of_two = entry 4 (2 ∷ 3 ∷ 0 ∷ 1 ∷ 1 ∷ 0 ∷ 2 ∷ 3 ∷ [])

-- the places that P1 doesn't use
nothing : (l i : ℕ) → (1 < l) ⊎ (1 < i) → segment_counts l i ≡ 0
unfolding segment_counts
nothing zero zero c = absurd (⊎_elim (λ f. omega arith) (λ f. omega arith) c)
nothing zero (suc zero) c = absurd (⊎_elim (λ f. omega arith) (λ f. omega arith) c)
nothing zero (suc (suc i)) c = refl
nothing (suc zero) zero c = absurd (⊎_elim (λ f. omega arith) (λ f. omega arith) c)
nothing (suc zero) (suc zero) c = absurd (⊎_elim (λ f. omega arith) (λ f. omega arith) c)
nothing (suc zero) (suc (suc i)) c = refl
nothing (suc (suc l)) i c = refl

no_sum : (l : ℕ) → 1 < l → segment_sums l ≡ pos 0
unfolding segment_sums
no_sum zero f = absurd (omega arith)
no_sum (suc l) f = refl

-- ---- a base that no two rows yield

-- a base of one dart
abbrev single : List ℕ
single = 0 ∷ 0 ∷ 0 ∷ []

zero_at : (k : ℕ) → get_or single k 0 ≡ 0
zero_at zero = refl
zero_at (suc zero) = refl
zero_at (suc (suc zero)) = refl
zero_at (suc (suc (suc k))) = refl

-- where two rows yield a base, a_2 of 0 is 1
single_none : NoRows single
unfolding number2_m import_lent
single_none zero edge vertex y = let q : refused 2 0 0 0 ≡ accepted = y.taken in let z : ◌≡◌ {A = ℕ} 0 1 = cc in omega arith
single_none (suc M) edge vertex y = omega (arith, (y.base.a2 0 (omega arith)).0, zero_at (2 * (2 * suc M) + 2 * 0))

-- in M1 0 leads to 3 by a_0, and 3 is 2·1 + 1
edge_first : (M : ℕ) (edge vertex : List ℕ) → Yields M edge vertex partner_base → each edge 0 ≡ 1
unfolding number2_m import_lent
edge_first zero edge vertex y = let q : refused 2 0 0 0 ≡ accepted = y.taken in let z : ◌≡◌ {A = ℕ} 0 1 = cc in absurd (omega arith)
edge_first (suc M) edge vertex y =
    let first : 0 * (2 * suc M) + 2 * 0 ≡ 0 = omega arith in
    let three : get_or partner_base (0 * (2 * suc M) + 2 * 0) 0 ≡ 3 = rw first refl in
    omega (arith, three, (y.base.a0 0 (omega arith)).0)

pub only_22 : (answer : Verdict) (edge vertex : List ℕ) → Exports single [] [] accepted answer edge vertex → answer ≡ refused 22 0 0 0
only_22 accepted edge vertex (M, y) = absurd (single_none M _ _ y)
only_22 (refused number l involution dart) edge vertex e = e.0

pub record SmallRelations : Type 0 where
  -- P1 has two vertices and an edge, then a vertex and an edge; in any census of it a dimension above n counts 0, and a level above h does
  pub census : CensusOf one segment_counts segment_sums
  -- of the star's first level 4 − 3 + 1; a sum may be below zero
  pub census_sum : (alternating (λ i. get_or (4 ∷ 3 ∷ 1 ∷ []) i 0) 3 ≡ pos 2) × (alternating (λ i. get_or (1 ∷ 2 ∷ []) i 0) 2 ≡ negsuc 0)
  -- and level 1 is counted, in both dimensions
  pub census_top : (counts : ℕ → ℕ → ℕ) (sums : ℕ → ℤ) → CensusOf one counts sums → (counts 1 0 ≡ 1) × (counts 1 1 ≡ 1) × (sums 1 ≡ pos 0)
  pub census_unused : (counts : ℕ → ℕ → ℕ) (sums : ℕ → ℤ) → CensusOf one counts sums → (counts 0 2 ≡ 0) × (counts 2 0 ≡ 0) × (sums 2 ≡ pos 0)
  -- the square: vertex {1,2} is marked
  pub marked : Marked square 1 0 1 × Marked square 1 0 2
  -- the segment's end is an open one: it has one part
  pub open_end : WouldBeMarked (base one) 1 0 0 → ⊥
  -- a piece with an open end has no cell left unmarked for it, though its lowest dart is at one that is marked
  pub open_piece : Marked row_of_two 1 0 0
  -- on the square that of 0 is left unmarked, since 0 is the lowest of its piece
  pub left : LeftUnmarked square 1 0 0 × LeftUnmarked square 1 0 7
  -- so a mark row that the job leaves has 0 at 1, and 255 at 0
  pub marks_left : (out : List ℕ) → CellsMarked 1 8 corners.rows 0 out → (each out 1 ≡ 0) × (each out 0 ≡ 255)
  -- M1 taken back: the first of the rows answered is the edge row
  pub taken_back : (edge vertex : List ℕ) → Exports partner_base [] [] accepted accepted edge vertex → each edge 0 ≡ 1
  -- a base of one dart passes the tests of the way back, and nothing but 22 may be answered then
  pub way_back : (export_lent 2 1 single [] [] ≡ accepted) × ((answer : Verdict) (edge vertex : List ℕ) → Exports single [] [] accepted answer edge vertex → answer ≡ refused 22 0 0 0)

pub small_relations : SmallRelations
unfolding scan at5 at6 at7 check5 check6 check7 check_map number2 number4 export_lent segment_counts segment_sums alternating level
small_relations = record {
  census = record {
    cells = λ l i ll li. below_two (λ l. (i : ℕ) → i < 2 → CellCount (level (base one) 1 2 (marks 1 (lambda_of one) (delta_of one)) l) 1 2 (survives (lambda_of one) l) i (segment_counts l i)) (below_two _ ends_counted edge_counted) (below_two _ (one_left 0) (one_left 1)) l (omega arith) i (omega arith);
    unused = λ l i ll li c. nothing l i c;
    sum = λ l ll. below_two (λ l. segment_sums l ≡ alternating (segment_counts l) 2) refl refl l (omega arith);
    unused_sum = λ l ll lh. no_sum l lh;
  };
  census_sum = (refl, refl);
  census_top = λ counts sums c.
      let p = one_only 0 (counts 1 0) (c.cells 1 0 (lit≤ tt) (lit≤ tt)) in
      let q = one_only 1 (counts 1 1) (c.cells 1 1 (lit≤ tt) (lit≤ tt)) in
      (p, q, c.sum 1 (lit≤ tt) ∙ rw (p, q) refl);
  census_unused = λ counts sums c. (c.unused 0 2 (lit< tt) (lit< tt) (inr (lit< tt)), c.unused 2 0 (lit< tt) (lit< tt) (inl (lit< tt)), c.unused_sum 2 (lit< tt) (lit< tt));
  marked = (
    marked_one,
    (would 2 (lit< tt), λ u. not_lowest 2 u.lowest (lit< tt) (lit< tt) (lit< tt) u.in_cell (u.least 0 (further 1 0 (further 2 1 here (lit≤ tt) refl) (lit≤ tt) refl))),
  );
  open_end = λ w. one_part (base one) 0 refl w.two;
  open_piece = (two_marked row_of_two 0 refl (λ q. let z : ◌≡◌ {A = ℕ} 1 0 = q in omega arith), λ u. one_part row_of_two 2 refl (u.every 2 (further 0 0 here (lit≤ tt) refl)).two);
  left = (left_at 0 (lit< tt) itself, left_at 7 (lit< tt) (onward 7 1 itself (lit≤ tt) (λ q. omega arith)));
  marks_left = λ out c. (
    elim (c.mark 1 (lit< tt)) [ inl w ↦ w.2 | inr w ↦ absurd (w.0 (refl, marked_one)) ],
    elim (c.mark 0 (lit< tt)) [ inl w ↦ absurd (w.1.1 (left_at 0 (lit< tt) itself)) | inr w ↦ w.1 ],
  );
  taken_back = λ edge vertex e. edge_first e.0 edge vertex e.1;
  way_back = (refl, only_22);
}
