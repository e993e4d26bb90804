-- Laws of parts and pieces: a removable cell has at most two parts, so that one dart tells whether there are two; what is marked is whole cells, and no whole piece. Assumes nothing.
use mathlib.Core.Path.{◌≡◌, refl, sym}
use mathlib.Core.Logic.{◌⊎◌, inl, inr}
use mathlib.Core.Bool.{Bool, true, false, not}
use Prim.Native.Nat.{ℕ, zero, suc, ◌+◌, ◌≤◌, ◌<◌}
use native.Mathlib.Omega.{arith}
use lib.Dec.{eqb, ltb}
use borrow.Author.Tests.{eqb-true, eqb-false, ne_eqb, not-true, ltb-true, ltb-false}
use Rattle.maps.specs.Map.{Involutions, Valid}
use Rattle.maps.specs.Cell.{Cell, itself, onward}
use Rattle.maps.specs.Orbit.{here, further, TwoWay}
use Rattle.maps.specs.Parts.{besides, Part, TwoParts, Piece}
use Rattle.maps.specs.Kernel.{Removable}
use Rattle.maps.specs.MarkCells.{WouldBeMarked, LeftUnmarked, Marked}
use Rattle.laws.proofs.Verdicts.{and_both}
use Rattle.facts.proofs.Removals.{crosses}
use Rattle.orbits.proofs.Orbits.{orbit_join, orbit_present, orbit_back}
use Rattle.orbits.proofs.Cells.{cell_join, cell_present, cell_back}

-- the rows left are neither a_δ nor a_(δ+1)
pub besides_both : (δ j : ℕ) → besides δ j ≡ true → (j ≡ δ → ⊥) × (j ≡ δ + 1 → ⊥)
besides_both δ j u = let w = and_both (not (eqb j δ)) (not (eqb j (δ + 1))) u in (eqb-false j δ (not-true (eqb j δ) w.0), eqb-false j (δ + 1) (not-true (eqb j (δ + 1)) w.1))

module _ (a : Involutions) (n δ : ℕ) where
  -- a part lies in its cell
  pub part_cell : (x y : ℕ) → Part a n δ x y → Cell a n δ x y
  part_cell x _ here = itself
  part_cell x _ (further d j p lj u) = onward d j (part_cell x d p) lj (besides_both δ j u).0

  -- a cell lies in its piece
  pub cell_piece : (x y : ℕ) → Cell a n δ x y → Piece a n x y
  cell_piece x _ itself = here
  cell_piece x _ (onward d j c lj ne) = further d j (cell_piece x d c) lj refl

  -- a removable cell is removable from each of its darts
  pub removable_along : (x y : ℕ) → Cell a n δ x y → Removable a n δ x → Removable a n δ y
  removable_along x y c r l d e = r l d (cell_join a n δ x y d c e)

-- a valid map
module _ (a : Involutions) (n : ℕ) (present : ℕ → Type 0) (v : Valid a n present) where
  -- the same rows from every dart present lead inside and back
  pub valid_two_way : (rows : ℕ → Bool) → TwoWay a n present (λ j d. rows j)
  valid_two_way rows = record { inside = λ j d lj p u. v.inside j d lj p; twice = λ j d lj p u. v.twice j d lj p; both = λ j d lj p u. u }

  -- a piece is joined, has darts present alone, and is the same from each of them
  pub piece_join : (x y z : ℕ) → Piece a n x y → Piece a n y z → Piece a n x z
  piece_join = orbit_join a n (λ j d. true)

  pub piece_present : (x y : ℕ) → present x → Piece a n x y → present y
  piece_present = orbit_present a n (λ j d. true) present (valid_two_way (λ j. true))

  pub piece_back : (x y : ℕ) → present x → Piece a n x y → Piece a n y x
  piece_back = orbit_back a n (λ j d. true) present (valid_two_way (λ j. true))

module _ (a : Involutions) (n δ : ℕ) (present : ℕ → Type 0) (v : Valid a n present) where
  -- so is a part
  pub part_join : (x y z : ℕ) → Part a n δ x y → Part a n δ y z → Part a n δ x z
  part_join = orbit_join a n (λ j d. besides δ j)

  pub part_back : (x y : ℕ) → present x → Part a n δ x y → Part a n δ y x
  part_back = orbit_back a n (λ j d. besides δ j) present (valid_two_way a n present v (besides δ))

  module _ (lδ : δ < n) where
    -- in a removable cell a_(δ+1) commutes with every other row but a_δ
    commutes : (d j : ℕ) → present d → Removable a n δ d → j ≤ n → (j ≡ δ → ⊥) → (j ≡ δ + 1 → ⊥) → a (δ + 1) (a j d) ≡ a j (a (δ + 1) d)
    commutes d j h r lj f g = go (eqb j (δ + 2)) refl (ltb j δ) refl
      where
        go : (b : Bool) → eqb j (δ + 2) ≡ b → (c : Bool) → ltb j δ ≡ c → a (δ + 1) (a j d) ≡ a j (a (δ + 1) d)
        go true q c s =
            let e : j ≡ δ + 2 = eqb-true j (δ + 2) q in
            rw e (sym (r (omega arith) d itself))
        go false q true s = crosses a n present v (δ + 1) j d (inr (omega (arith, ltb-true j δ s))) (omega arith) lj h
        go false q false s =
            let ne : j ≡ δ + 2 → ⊥ = eqb-false j (δ + 2) q in
            crosses a n present v (δ + 1) j d (inl (omega (arith, ltb-false j δ s))) (omega arith) lj h

    -- so it takes the part of a dart to the part of its a_(δ+1)-neighbour
    pub part_across : (x y : ℕ) → present x → Removable a n δ x → Part a n δ x y → Part a n δ (a (δ + 1) x) (a (δ + 1) y)
    part_across x _ h r here = here
    part_across x _ h r (further d j p lj u) =
        let c = part_cell a n δ x d p in
        let w = besides_both δ j u in
        let e = commutes d j (cell_present a n δ present v x d h c) (removable_along a n δ x d c r) lj w.0 w.1 in
        rw e (further (a (δ + 1) d) j (part_across x d h r p) lj u)

    -- a removable cell has at most two parts: that of a dart and that of its a_(δ+1)-neighbour
    pub at_most_two : (x y : ℕ) → present x → Removable a n δ x → Cell a n δ x y → Part a n δ x y ⊎ Part a n δ (a (δ + 1) x) y
    at_most_two x _ h r itself = inl here
    at_most_two x _ h r (onward d j c lj ne) = go (eqb j (δ + 1)) refl (at_most_two x d h r c)
      where
        go : (b : Bool) → eqb j (δ + 1) ≡ b → Part a n δ x d ⊎ Part a n δ (a (δ + 1) x) d → Part a n δ x (a j d) ⊎ Part a n δ (a (δ + 1) x) (a j d)
        go true q (inl p) = rw (eqb-true j (δ + 1) q) (inr (part_across x d h r p))
        go true q (inr p) =
            let to : Cell a n δ x (a (δ + 1) x) = onward x (δ + 1) itself (omega arith) (λ e. omega arith) in
            let w = part_across (a (δ + 1) x) d (v.inside (δ + 1) x (omega arith) h) (removable_along a n δ x (a (δ + 1) x) to r) p in
            let e : a (δ + 1) (a (δ + 1) x) ≡ x = v.twice (δ + 1) x (omega arith) h in
            rw (eqb-true j (δ + 1) q) (inl (rw e at w))
        go false q (inl p) = inl (further d j p lj (rw (ne_eqb j δ ne, q)))
        go false q (inr p) = inr (further d j p lj (rw (ne_eqb j δ ne, q)))

    -- it falls into exactly two parts where one dart and its a_(δ+1)-neighbour lie in different parts
    pub apart_two : (x : ℕ) → present x → Removable a n δ x → (Part a n δ x (a (δ + 1) x) → ⊥) → TwoParts a n δ x
    apart_two x h r f = record {
      one = x;
      other = a (δ + 1) x;
      one_in = itself;
      other_in = onward x (δ + 1) itself (omega arith) (λ e. omega arith);
      apart = f;
      all = λ d c. at_most_two x d h r c;
    }

    -- and then every dart of the cell and its a_(δ+1)-neighbour do
    pub two_apart : (x y : ℕ) → present x → Removable a n δ x → TwoParts a n δ x → Cell a n δ x y → Part a n δ y (a (δ + 1) y) → ⊥
    two_apart x y h r t c p =
        let hy = cell_present a n δ present v x y h c in
        let back = cell_back a n δ present v x y h c in
        let ry = removable_along a n δ x y c r in
        let one = reach hy ry t.one (cell_join a n δ y x t.one back t.one_in) in
        let other = reach hy ry t.other (cell_join a n δ y x t.other back t.other_in) in
        t.apart (part_join t.one y t.other (part_back y t.one hy one) other)
      where
        reach : present y → Removable a n δ y → (z : ℕ) → Cell a n δ y z → Part a n δ y z
        reach hy ry z e = elim (at_most_two y z hy ry e) [ inl q ↦ q | inr q ↦ part_join y (a (δ + 1) y) z p q ]

    -- 'exactly two' is 'd and a_(δ+1) of d lie in different parts', for every dart d of the cell, and for one
    pub exactly_two : (x y : ℕ) → present x → Removable a n δ x → Cell a n δ x y
        → (TwoParts a n δ x → Part a n δ y (a (δ + 1) y) → ⊥)
        × ((Part a n δ y (a (δ + 1) y) → ⊥) → TwoParts a n δ x)
    exactly_two x y h r c = (
      λ t. two_apart x y h r t c,
      λ f.
          let hy = cell_present a n δ present v x y h c in
          let back = cell_back a n δ present v x y h c in
          let t = apart_two y hy (removable_along a n δ x y c r) f in
          record {
            one = t.one;
            other = t.other;
            one_in = cell_join a n δ x y t.one c t.one_in;
            other_in = cell_join a n δ x y t.other c t.other_in;
            apart = t.apart;
            all = λ d e. t.all d (cell_join a n δ y x d back e);
          },
    )

    -- an open end isn't marked: a dart that a_(δ+1) leads back to itself has a cell of one part
    pub open_end : (x : ℕ) → present x → a (δ + 1) x ≡ x → Marked a n δ x → ⊥
    open_end x h e m = two_apart x x h m.0.removable m.0.two itself (rw e here)

    -- a cell would be marked as a whole
    pub would_along : (x y : ℕ) → present x → Cell a n δ x y → WouldBeMarked a n δ x → WouldBeMarked a n δ y
    would_along x y h c k = record {
      removable = removable_along a n δ x y c k.removable;
      two = apart_two y (cell_present a n δ present v x y h c) (removable_along a n δ x y c k.removable) (two_apart x y h k.removable k.two c);
    }

  -- a cell is left unmarked as a whole
  pub left_along : (x y : ℕ) → present x → Cell a n δ x y → LeftUnmarked a n δ x → LeftUnmarked a n δ y
  left_along x y h c s =
      let p = cell_piece a n δ x y c in
      record {
        every = λ d q. s.every d (piece_join a n present v x y d p q);
        lowest = s.lowest;
        in_cell = cell_join a n δ y x s.lowest (cell_back a n δ present v x y h c) s.in_cell;
        least = λ d q. s.least d (piece_join a n present v x y d p q);
      }

  -- so what is marked is whole cells
  pub marked_along : δ < n → (x y : ℕ) → present x → Cell a n δ x y → Marked a n δ x → Marked a n δ y
  marked_along lδ x y h c m = (would_along lδ x y h c m.0, λ s. m.1 (left_along y x (cell_present a n δ present v x y h c) (cell_back a n δ present v x y h c) s))

  -- no connected piece is marked as a whole
  pub piece_stays : (x : ℕ) → present x → ((y : ℕ) → Piece a n x y → Marked a n δ y) → ⊥
  piece_stays x h m = none (suc x) x (omega arith) here
    where
      -- no dart of the piece below k is there: the lowest one would be left unmarked
      none : (k y : ℕ) → y < k → Piece a n x y → ⊥
      none zero y l p = omega arith
      none (suc k) y l p = (m y p).1
          (record { every = λ d q. (m d (piece_join a n present v x y d p q)).0; lowest = y; in_cell = itself; least = λ d q. go d (ltb d y) refl (piece_join a n present v x y d p q) (none k) })
        where
          go : (d : ℕ) → (b : Bool) → ltb d y ≡ b → Piece a n x d → ((z : ℕ) → z < k → Piece a n x z → ⊥) → y ≤ d
          go d true q r below = absurd (below d (omega (arith, ltb-true d y q)) r)
          go d false q r below = ltb-false d y q
