-- The cells of a level of an accepted pyramid are those of its explicit table. Assumes nothing.
use mathlib.Core.Path.{◌≡◌, sym, ◌∙◌}
use mathlib.Core.Bool.{Bool, true}
use mathlib.Core.List.{List}
use Prim.Native.Nat.{ℕ, ◌≤◌, ◌<◌}
use native.Mathlib.Omega.{arith}
use borrow.Author.Tests.{ltb-false, le-ltb, not-true}
use Rattle.maps.specs.Map.{Involutions, Valid}
use Rattle.maps.specs.Cell.{Cell, itself, onward}
use Rattle.maps.specs.Table.{entry}
use Rattle.maps.specs.Folded.{On, gone, survives, marks, level, Folded, base, lambda_of, delta_of}
use Rattle.maps.specs.Explicit.{present, There}
use Rattle.maps.specs.Pyramid.{Pyramid}
use Rattle.maps.specs.Accepted.{Accepted}
use Rattle.maps.specs.Verdict.{accepted, ◌then◌}
use Rattle.maps.specs.Check.{check_map, check8, kernel_at, check_kernels, check_pyramid}
use Rattle.maps.specs.CheckPyramid.{left_behind, table_at}
use Rattle.maps.specs.Census.{CellCount}
use Rattle.laws.proofs.Tables.{length_explicit}
use Rattle.laws.proofs.Verdicts.{then_accepted, scan_accepted, scan_all}
use Rattle.facts.proofs.Checks.{sound_map, pyramid_check}
use Rattle.facts.proofs.Levels.{level_valid}
use Rattle.facts.proofs.Stored.{stored, stored_present, stored_sound}
use Rattle.orbits.specs.Explicit.{ExplicitLevel}
use Rattle.climbing.specs.Climb.{Base, climbs_to, climb_to_leaves}

-- two maps that agree on the darts of one
module _ (a b : Involutions) (n N : ℕ) (p : ℕ → Bool) (same : (j d : ℕ) → j ≤ n → There N p d → a j d ≡ b j d) (v : Valid a n (There N p)) (i : ℕ) where
  -- have the same cells there
  pub to_cell : (x y : ℕ) → There N p x → Cell a n i x y → Cell b n i x y × There N p y
  to_cell x _ h itself = (itself, h)
  to_cell x _ h (onward d j c lj ne) = let r = to_cell x d h c in (rw (same j d lj r.1) (onward d j r.0 lj ne), v.inside j d lj r.1)

  pub from_cell : (x y : ℕ) → There N p x → Cell b n i x y → Cell a n i x y × There N p y
  from_cell x _ h itself = (itself, h)
  from_cell x _ h (onward d j c lj ne) =
      let r = from_cell x d h c in
      let e : b j d ≡ a j d = sym (same j d lj r.1) in
      rw e (onward d j r.0 lj ne, v.inside j d lj r.1)

  -- and so many
  pub count_to : (q : ℕ → Bool) → ((d : ℕ) → d < N → q d ≡ p d) → (number : ℕ) → CellCount b n N q i number → CellCount a n N p i number
  count_to q alike number c = record {
    counted = c.counted;
    only = λ d l r. let w = c.only d l r in let there : There N p d = (l, sym (alike d l) ∙ w.0) in (there.1, λ e z. w.1 e (to_cell d e there z).0);
    every = λ d l there low. c.every d l (alike d l ∙ there) (λ e z. low e (from_cell d e (l, there) z).0);
    is = c.is;
  }

module _ (a : Involutions) (n N h : ℕ) (Λ Δ : ℕ → ℕ) (y : Pyramid a n N h Λ Δ) (l : ℕ) (k : l ≤ h) where
  -- every level is valid on its survivors
  pub survivors_valid : Valid (level a n N (marks h Λ Δ) l) n (There N (survives Λ l))
  survivors_valid = record {
    inside = λ i d li p. let o = v.inside i d li (on d p) in (o.0, rw (le-ltb (Λ (level a n N (marks h Λ Δ) l i d)) l o.1));
    twice = λ i d li p. v.twice i d li (on d p);
    commute = λ i j d f lj p. v.commute i j d f lj (on d p);
  }
    where
      v : Valid (level a n N (marks h Λ Δ) l) n (On N Λ l)
      v = level_valid a n N h Λ Δ y l k

      on : (d : ℕ) → (d < N) × (survives Λ l d ≡ true) → On N Λ l d
      on d p = (p.0, ltb-false (Λ d) l (not-true (gone Λ l d) p.1))

module _ (P : Folded) (table : List ℕ) (p : Accepted P table) (l : ℕ) (k : l ≤ P.h) where
  open P use {n, N, h}

  abbrev a : Involutions
  a = level (base P) n N (marks h (lambda_of P) (delta_of P)) l

  abbrev T : List ℕ
  T = table_at P l

  v : Valid a n (There N (survives (lambda_of P) l))
  v = survivors_valid (base P) n N h (lambda_of P) (delta_of P) p.pyramid l k

  -- the table of a level is an explicit level that is accepted
  pub table_explicit : ExplicitLevel n N T
  table_explicit = record {
    rows = record { dimension = p.dimension.1; darts = p.darts.1; exact = length_explicit a n N (survives (lambda_of P) l) };
    accepts = sound_map (entry N T) n N (present N T) (stored_sound a n N (survives (lambda_of P) l) (omega (arith, p.darts.1)) v);
  }

  -- and as long as it was
  pub table_accepted : Accepted P T
  table_accepted = record {
    dimension = p.dimension;
    darts = p.darts;
    height = p.height;
    rows_length = p.rows_length;
    lambda_length = p.lambda_length;
    delta_length = p.delta_length;
    table_length = length_explicit a n N (survives (lambda_of P) l);
    pyramid = p.pyramid;
  }

  -- a climb can begin
  pub climb_base : Base P
  climb_base = record {
    dimension = p.dimension.1;
    darts = p.darts.1;
    height = omega (arith, p.height);
    rows_long = p.rows_length;
    lambda_long = p.lambda_length;
    delta_long = p.delta_length;
    valid = p.pyramid.base;
    allowed = p.pyramid.allowed;
  }

  -- passes every kernel below
  pub climb_passes : climbs_to P l ≡ accepted
  unfolding check_kernels check_pyramid
  climb_passes =
      let marked = check8 n N h (lambda_of P) (delta_of P) in
      let kernels = check_kernels (base P) n N h (lambda_of P) (delta_of P) in
      let whole = pyramid_check (base P) n N h (lambda_of P) (delta_of P) p.pyramid.dimension p.pyramid in
      let below = (then_accepted (check_map (base P) n N (λ d. true)) (marked then kernels) whole).1 in
      let all = (then_accepted marked kernels below).1 in
      scan_all l (kernel_at (base P) n N h (lambda_of P) (delta_of P)) (λ x lx. scan_accepted h (kernel_at (base P) n N h (lambda_of P) (delta_of P)) all x (omega arith))

  -- and leaves it
  pub table_climbed : climb_to_leaves P l ≡ T
  unfolding left_behind
  table_climbed = rw climb_passes

  -- its cells are counted in the table
  pub table_counted : (i number : ℕ) → CellCount (entry N T) n N (present N T) i number → CellCount a n N (survives (lambda_of P) l) i number
  table_counted i number c =
      let few : N ≤ 65535 = omega (arith, p.darts.1) in
      count_to a (entry N T) n N (survives (lambda_of P) l) (λ j d lj o. stored a n N (survives (lambda_of P) l) few v j d lj o) v i (present N T) (λ d ld. stored_present a n N (survives (lambda_of P) l) few v d ld) number c
