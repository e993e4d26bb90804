-- No connected piece vanishes: each keeps a dart that is not marked, which is on the level that the marked row adds. Assumes nothing.
use mathlib.Core.Path.{◌≡◌, refl, sym, ap, ◌∙◌}
use mathlib.Core.Logic.{◌⊎◌, inl, inr}
use mathlib.Core.Bool.{Bool, true, false, ◌&&◌, true≢false}
use mathlib.Core.List.{List}
use Prim.Native.Nat.{ℕ, zero, suc, ◌*◌, ◌≤◌, ◌<◌, zero-le}
use native.Mathlib.Omega.{arith}
use lib.ListN.{length}
use lib.Dec.{eqb}
use borrow.Author.Count.{below_more}
use borrow.Author.Tests.{eqb-true, eqb-false, eq-eqb, ne_eqb, le-ltb}
use Rattle.maps.specs.Verdict.{accepted}
use Rattle.maps.specs.Map.{Involutions, Valid}
use Rattle.maps.specs.Orbit.{here, further}
use Rattle.maps.specs.Parts.{Piece}
use Rattle.maps.specs.Mark.{is_mark, stay}
use Rattle.maps.specs.Table.{entry, each}
use Rattle.maps.specs.Explicit.{present}
use Rattle.maps.specs.Folded.{On, survives, marks, addΛ, level, Folded, base, lambda_of, delta_of}
use Rattle.maps.specs.CheckPyramid.{check_lent, check_leaves, table_at}
use Rattle.maps.specs.AddLevel.{add_lambda}
use Rattle.maps.specs.MarkCells.{CellsMarked, mark_lent, MarkLeaves}
use Rattle.laws.proofs.Verdicts.{and_both}
use Rattle.laws.proofs.Tables.{get_or_listed, entry_explicit}
use Rattle.laws.proofs.Marks.{stay_none}
use Rattle.facts.proofs.Levels.{level_valid as level_on}
use Rattle.facts.proofs.AcceptedJobs.{accepted_pyramid, accepted_table}
use Rattle.orbits.proofs.Sets.{none_has}
use Rattle.orbits.proofs.Decided.{orbit_set}
use Rattle.orbits.specs.Explicit.{ExplicitLevel}
use Rattle.orbits.proofs.Explicit.{Present, level_valid}
use Rattle.cells.proofs.Parts.{piece_present, piece_stays}
use Rattle.cells.proofs.Lent.{accepted_level}
use Rattle.cells.proofs.Kernels.{marked_added}

-- of the numbers below m one passes a test, or none does
seek : (p : ℕ → Bool) (m : ℕ) → ((x : ℕ) × (x < m) × (p x ≡ true)) ⊎ ((x : ℕ) → x < m → p x ≡ false)
seek p zero = inr (λ x l. absurd (omega arith))
seek p (suc m) = go (p m) refl (seek p m)
  where
    go : (b : Bool) → p m ≡ b → ((x : ℕ) × (x < m) × (p x ≡ true)) ⊎ ((x : ℕ) → x < m → p x ≡ false) → ((x : ℕ) × (x < suc m) × (p x ≡ true)) ⊎ ((x : ℕ) → x < suc m → p x ≡ false)
    go true q r = inl (m, omega arith, q)
    go false q (inl w) = inl (w.0, omega (arith, w.1), w.2)
    go false q (inr f) = inr (λ x l. below_more (λ y. p y ≡ false) m f q x (omega arith))

module _ (n N : ℕ) (table : List ℕ) (δ : ℕ) (out : List ℕ) (marked : CellsMarked n N table δ out) (level : ExplicitLevel n N table) where
  -- each piece of the level keeps a dart that is not marked
  pub piece_left : (x : ℕ) → Present n N table x → (y : ℕ) × Piece (entry N table) n x y × Present n N table y × (each out y ≡ stay)
  piece_left x h = go (seek left N)
    where
      v : Valid (entry N table) n (Present n N table)
      v = level_valid n N table level

      stays : (y : ℕ) → Piece (entry N table) n x y → Present n N table y
      stays y p = piece_present (entry N table) n (Present n N table) v x y h p

      piece : (within : ℕ → Bool) × ((y : ℕ) → Piece (entry N table) n x y → within y ≡ true) × ((y : ℕ) → within y ≡ true → Piece (entry N table) n x y)
      piece = orbit_set n N table (λ j d. true) x
          (record { rows = level.rows; first = h.0; inside = λ d j o lj u. (v.inside j d lj (stays d o)).0; closed = λ d j q lj u. absurd (true≢false (sym q ∙ none_has 4096 d)) })

      left : ℕ → Bool
      left y = piece.0 y && eqb (each out y) stay

      go : ((y : ℕ) × (y < N) × (left y ≡ true)) ⊎ ((y : ℕ) → y < N → left y ≡ false) → (y : ℕ) × Piece (entry N table) n x y × Present n N table y × (each out y ≡ stay)
      go (inl w) =
          let t = and_both (piece.0 w.0) (eqb (each out w.0) stay) w.2 in
          let p = piece.2 w.0 t.0 in
          (w.0, p, stays w.0 p, eqb-true (each out w.0) stay t.1)
      go (inr f) = absurd (piece_stays (entry N table) n δ (Present n N table) v x h (λ y p.
          let there = stays y p in
          elim (marked.mark y there.0) [ inl w ↦ w.1 | inr w ↦ absurd (true≢false (sym (is y p w.1) ∙ f y there.0)) ]))
        where
          is : (y : ℕ) → Piece (entry N table) n x y → each out y ≡ stay → left y ≡ true
          is y p q = rw (piece.1 y p, eq-eqb (each out y) stay q)

-- a dart of level h that is not marked is on the level added
stays_on : (n h : ℕ) (Λ mark : ℕ → ℕ) (d : ℕ) → is_mark n (mark d) ≡ false → h ≤ Λ d → suc h ≤ addΛ n h Λ mark d
stays_on n h Λ mark d q l = go (eqb (Λ d) h) refl
  where
    go : (b : Bool) → eqb (Λ d) h ≡ b → suc h ≤ addΛ n h Λ mark d
    go true e = rw (q, e) (omega arith)
    go false e = let ne : Λ d ≡ h → ⊥ = eqb-false (Λ d) h e in rw (q, e) (omega arith)

-- the same of a level of an accepted pyramid, after what marking marked on the table that check left has been added
module _ (P : Folded) (table : List ℕ) (c : check_lent P table ≡ accepted) where
  open P use {n, N, h}

  abbrev A : Involutions
  A = level (base P) n N (marks h (lambda_of P) (delta_of P)) h

  abbrev T : List ℕ
  T = table_at P h

  valid : Valid A n (On N (lambda_of P) h)
  valid = level_on (base P) n N h (lambda_of P) (delta_of P) (accepted_pyramid P table c) h (omega arith)

  -- the table holds the neighbours of the darts of the level
  stored : (j d : ℕ) → j ≤ n → On N (lambda_of P) h d → entry N T j d ≡ A j d
  stored j d lj o = entry_explicit A n N (survives (lambda_of P) h) j d lj o.0 ∙ rw (le-ltb (lambda_of P d) h o.1)

  -- so a piece of the one is a piece of the other
  piece_of : (x y : ℕ) → On N (lambda_of P) h x → Piece (entry N T) n x y → Piece A n x y × On N (lambda_of P) h y
  piece_of x _ o here = (here, o)
  piece_of x _ o (further d j p lj u) =
      let r = piece_of x d o p in
      let e = stored j d lj r.1 in
      rw e (further d j r.0 lj refl, valid.inside j d lj r.1)

  pub piece_survives : (δ : ℕ) (found out table' : List ℕ) → h < 32
      → mark_lent n N (check_leaves P table) δ found ≡ accepted → MarkLeaves n N (check_leaves P table) δ found (mark_lent n N (check_leaves P table) δ found) out
      → length table' ≡ suc n * N → (x : ℕ) → On N (lambda_of P) h x → (y : ℕ) × Piece A n x y × On N (each (add_lambda P out table')) (suc h) y
  unfolding add_lambda
  piece_survives δ found out table' room e left as_long x o =
      let t = accepted_table P table c in
      let e' : mark_lent n N T δ found ≡ accepted = rw t at e in
      let marked : CellsMarked n N T δ out = rw (t, e') at left in
      let held = (accepted_level n N T δ found e').0 in
      let added = marked_added P table c room δ found out table' e left as_long in
      let few = held.rows in
      let there : present N T x ≡ true = rw (stored 0 x zero-le o, ne_eqb (A 0 x) 65535 (λ z. omega (arith, (valid.inside 0 x zero-le o).0, few.darts))) in
      let r = piece_left n N T δ out marked held x (o.0, there) in
      let p = piece_of x r.0 o r.1 in
      let unmarked : is_mark n (each out r.0) ≡ false = ap (is_mark n) r.3 ∙ stay_none n (omega (arith, few.dimension)) in
      (r.0, p.0, (p.1.0, rw (added, get_or_listed (addΛ n h (lambda_of P) (each out)) N r.0 0 p.1.0) (stays_on n h (lambda_of P) (each out) r.0 unmarked p.1.1)))
