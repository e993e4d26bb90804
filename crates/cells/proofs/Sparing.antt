-- Laws of the search for pieces, in rising order: which cells are left unmarked, of the pieces that would be marked as a whole. Assumes nothing.
use mathlib.Core.Path.{◌≡◌, refl, sym, ◌∙◌}
use mathlib.Core.Logic.{◌⊎◌, inl, inr}
use mathlib.Core.Bool.{Bool, true, false, ◌&&◌, true≢false}
use mathlib.Core.List.{List}
use Prim.Native.Nat.{ℕ, ◌+◌, ◌≤◌, ◌<◌}
use native.Mathlib.Omega.{arith}
use lib.Dec.{ltb}
use borrow.Author.Count.{below_more}
use borrow.Author.Tests.{ltb-true, ltb-false}
use Rattle.maps.specs.Map.{Valid}
use Rattle.maps.specs.Cell.{Cell, itself}
use Rattle.maps.specs.Orbit.{here}
use Rattle.maps.specs.Parts.{Piece}
use Rattle.maps.specs.Table.{entry}
use Rattle.maps.specs.Explicit.{present}
use Rattle.maps.specs.MarkCells.{WouldBeMarked, LeftUnmarked, Marked}
use Rattle.laws.proofs.Verdicts.{and_both}
use Rattle.orbits.specs.Orbits.{Closed, Added}
use Rattle.orbits.proofs.Orbits.{closed_orbit}
use Rattle.orbits.specs.Explicit.{ExplicitLevel, but}
use Rattle.orbits.proofs.Explicit.{Present, level_valid}
use Rattle.orbits.proofs.Cells.{cell_orbit, orbit_cell, cell_present, cell_back}
use Rattle.cells.specs.Marked.{Gathered, Lacks}
use Rattle.cells.proofs.Parts.{cell_piece, piece_join, piece_present, piece_back, left_along}

-- `first` has the darts that would not be marked
module _ (n N : ℕ) (table : List ℕ) (δ : ℕ) (first : ℕ → Bool) where
  abbrev P : ℕ → Type 0
  P = Present n N table

  -- dart s would be marked with all of its piece, and is the lowest of it
  abbrev Begins : ℕ → Type 0
  Begins s = LeftUnmarked (entry N table) n δ s × ((e : ℕ) → Piece (entry N table) n s e → s ≤ e)

  -- dart e is in the piece of a dart that would not be marked, or of one below k
  abbrev Sought : ℕ → ℕ → Type 0
  Sought k e = (b : ℕ) × P b × ((first b ≡ true) ⊎ (b < k)) × Piece (entry N table) n b e

  -- `done` has the pieces of the darts that would not be marked and of those below k; `within` has the former, and the cells of those below k that begin a piece
  pub record Sparing (within done : ℕ → Bool) (k : ℕ) : Type 0 where
    pub cells_closed : Closed (entry N table) n (λ j d. but δ j) within
    pub closed : Closed (entry N table) n (λ j d. true) done
    pub held : (d : ℕ) → P d → first d ≡ true → done d ≡ true
    pub passed : (d : ℕ) → d < k → P d → done d ≡ true
    pub source : (e : ℕ) → done e ≡ true → Sought k e
    pub kept : (d : ℕ) → first d ≡ true → within d ≡ true
    pub only : (d : ℕ) → P d → within d ≡ true → (first d ≡ true) ⊎ LeftUnmarked (entry N table) n δ d
    pub every : (s : ℕ) → s < k → P s → Begins s → (d : ℕ) → Cell (entry N table) n δ s d → within d ≡ true

  module _ (level : ExplicitLevel n N table) (tells : Lacks n N table (WouldBeMarked (entry N table) n δ) first) where
    v : Valid (entry N table) n (Present n N table)
    v = level_valid n N table level

    -- it begins with the pieces of the darts that would not be marked, and no other
    pub sparing_none : (done : ℕ → Bool) → Closed (entry N table) n (λ j d. but δ j) first → Gathered n N table (λ j. true) (λ d. present N table d && first d) done N → Sparing first done 0
    sparing_none done closed g = record {
      cells_closed = closed;
      closed = g.closed;
      held = λ d p q. g.passed d p.0 (rw (p.1, q));
      passed = λ d l. absurd (omega arith);
      source = λ e h. let w = g.source e h in let t = and_both (present N table w.0) (first w.0) w.2 in (w.0, (w.1, t.0), inl t.1, w.3);
      kept = λ d q. q;
      only = λ d p q. inl q;
      every = λ s l. absurd (omega arith);
    }

    module _ (within done : ℕ → Bool) (k : ℕ) (s : Sparing within done k) where
      later : (e : ℕ) → Sought k e → Sought (k + 1) e
      later e w = (w.0, w.1, elim w.2 [ inl q ↦ inl q | inr l ↦ inr (omega arith) ], w.3)

      -- a dart whose piece is done begins no piece
      begins_not : P k → done k ≡ true → Begins k → ⊥
      begins_not p q b =
          let w = s.source k q in
          let back = piece_back (entry N table) n P v w.0 k w.1 w.3 in
          elim w.2 [
            | inl r ↦ elim (tells w.0 w.1.0 w.1.1) [ inl t ↦ t.1 (b.0.every w.0 back) | inr t ↦ true≢false (sym r ∙ t.0) ]
            | inr l ↦ omega (arith, b.1 w.0 back)
          ]

      -- a dart that is done, or absent, is passed over
      pub sparing_pass : (P k → done k ≡ true) → Sparing within done (k + 1)
      sparing_pass f = record {
        cells_closed = s.cells_closed;
        closed = s.closed;
        held = s.held;
        passed = below_more (λ d. P d → done d ≡ true) k s.passed f;
        source = λ e h. later e (s.source e h);
        kept = s.kept;
        only = s.only;
        every = below_more (λ x. P x → Begins x → (d : ℕ) → Cell (entry N table) n δ x d → within d ≡ true) k s.every (λ p b. absurd (begins_not p (f p) b));
      }

      module _ (p : P k) (out : done k ≡ false) where
        -- any other begins a piece
        begins : Begins k
        begins = (record { every = would; lowest = k; in_cell = itself; least = least }, least)
          where
            -- no dart of its piece is done
            away : (d : ℕ) → Piece (entry N table) n k d → done d ≡ true → ⊥
            away d o q = true≢false (sym (closed_orbit (entry N table) n (λ j d. true) done s.closed d k q (piece_back (entry N table) n P v k d p o)) ∙ out)

            would : (d : ℕ) → Piece (entry N table) n k d → WouldBeMarked (entry N table) n δ d
            would d o =
                let h = piece_present (entry N table) n P v k d p o in
                elim (tells d h.0 h.1) [ inl w ↦ absurd (away d o (s.held d h w.0)) | inr w ↦ w.1 ]

            least : (d : ℕ) → Piece (entry N table) n k d → k ≤ d
            least d o = go (ltb d k) refl
              where
                go : (b : Bool) → ltb d k ≡ b → k ≤ d
                go true q = absurd (away d o (s.passed d (ltb-true d k q) (piece_present (entry N table) n P v k d p o)))
                go false q = ltb-false d k q

        -- its cell is left unmarked, and its piece is done
        pub sparing_add : (within' done' : ℕ → Bool) → Added (entry N table) n (λ j d. but δ j) k within within' → Added (entry N table) n (λ j d. true) k done done' → Sparing within' done' (k + 1)
        sparing_add within' done' c w = record {
          cells_closed = c.closed;
          closed = w.closed;
          held = λ d h q. w.kept d (s.held d h q);
          passed = below_more (λ d. P d → done' d ≡ true) k (λ d l h. w.kept d (s.passed d l h)) (λ h. w.whole k here);
          source = λ e h. elim (w.only e h) [ inl o ↦ later e (s.source e o) | inr o ↦ (k, p, inr (omega arith), o) ];
          kept = λ d q. c.kept d (s.kept d q);
          only = λ d h q. elim (c.only d q) [ inl o ↦ s.only d h o | inr o ↦ inr (left_along (entry N table) n δ P v k d p (orbit_cell (entry N table) n δ k d o) begins.0) ];
          every = below_more (λ x. P x → Begins x → (d : ℕ) → Cell (entry N table) n δ x d → within' d ≡ true) k (λ x l h b d z. c.kept d (s.every x l h b d z)) (λ h b d z. c.whole d (cell_orbit (entry N table) n δ k d z));
        }

    -- at the end the set has the darts that are not marked
    pub spared : (within done : ℕ → Bool) (k : ℕ) → N ≤ k → Sparing within done k → Lacks n N table (Marked (entry N table) n δ) within
    spared within done k all s d ld p = go (within d) refl
      where
        would : within d ≡ false → WouldBeMarked (entry N table) n δ d
        would q = elim (tells d ld p) [ inl w ↦ absurd (true≢false (sym (s.kept d w.0) ∙ q)) | inr w ↦ w.1 ]

        -- a cell that is left unmarked has the lowest dart of its piece, from which it was added
        within_left : LeftUnmarked (entry N table) n δ d → within d ≡ true
        within_left u =
            let low = cell_present (entry N table) n δ P v d u.lowest (ld, p) u.in_cell in
            let to = cell_piece (entry N table) n δ d u.lowest u.in_cell in
            let begins : Begins u.lowest = (left_along (entry N table) n δ P v d u.lowest (ld, p) u.in_cell u, λ e o. u.least e (piece_join (entry N table) n P v d u.lowest e to o)) in
            s.every u.lowest (omega (arith, low.0)) low begins d (cell_back (entry N table) n δ P v d u.lowest (ld, p) u.in_cell)

        go : (b : Bool) → within d ≡ b → ((within d ≡ true) × (Marked (entry N table) n δ d → ⊥)) ⊎ ((within d ≡ false) × Marked (entry N table) n δ d)
        go true q = inl (q, λ m. elim (s.only d (ld, p) q) [ inl f ↦ elim (tells d ld p) [ inl w ↦ w.1 m.0 | inr w ↦ true≢false (sym f ∙ w.0) ] | inr u ↦ m.1 u ])
        go false q = inr (q, (would q, λ u. true≢false (sym (within_left u) ∙ q)))
