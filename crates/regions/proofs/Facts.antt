-- Regions of accepted pyramids without contraction: reaching is symmetric, an n-cell of a level lies in one region, and names join and never part. Assumes nothing.
use mathlib.Core.Path.{◌≡◌, refl, sym, ap, ◌∙◌}
use mathlib.Core.Logic.{◌⊎◌, inl, inr}
use mathlib.Core.Bool.{Bool, true, false, cond, ◌&&◌, true≢false}
use mathlib.Core.List.{List, [], ◌∷◌}
use Prim.Native.Nat.{ℕ, zero, suc, ◌+◌, ◌≤◌, ◌<◌}
use native.Mathlib.Omega.{arith}
use lib.Dec.{eqb, ltb}
use borrow.Author.Tests.{eqb-true, ne_eqb, ltb-true, ltb-false, le-ltb}
use Rattle.maps.specs.Verdict.{accepted, scan}
use Rattle.maps.specs.Map.{Involutions}
use Rattle.maps.specs.Cell.{Cell, itself as cell_itself, onward}
use Rattle.maps.specs.Orbit.{TwoWay}
use Rattle.maps.specs.Mark.{is_mark, contracts, widest, between, across}
use Rattle.maps.specs.Removal.{go_on, removal}
use Rattle.maps.specs.Table.{each}
use Rattle.maps.specs.Folded.{On, gone, marks, level}
use Rattle.maps.specs.Trail.{trail}
use Rattle.maps.specs.Pyramid.{Pyramid}
use Rattle.maps.specs.Regions.{Region, itself, along, over, RegionName, Named, at23}
use Rattle.laws.proofs.Verdicts.{when_accepted, scan_accepted, and_both}
use Rattle.laws.proofs.Marks.{Kind, removes, shrinks, kind, is_removal, removed_rows}
use Rattle.laws.proofs.MarkRows.{taken_is, marks_at_lem, allowed_small}
use Rattle.facts.proofs.AcceptedWalks.{level_valid, Leads, trail_leads}
use Rattle.orbits.proofs.OrbitLaws.{orbit_back}
use Rattle.regions.specs.Searches.{region_rows}
use Rattle.regions.proofs.Regions.{region_join, name_unique, region_suc, region_orbit, orbit_region}

-- a dart marked with a dimension below n is removed with it, between two rows
removed_between : (n : ℕ) → n ≤ widest → (mark : ℕ) → mark < n → between mark ≡ (mark, mark + 1)
removed_between n ln mark s = (removed_rows n mark (le-ltb 8 mark (omega arith))).0

-- so its dimension isn't n
never_top : (n : ℕ) → n ≤ widest → (mark : ℕ → ℕ) (d : ℕ) → (is_mark n (mark d) ≡ true → mark d < n) → (is_mark n (mark d) && eqb (between (mark d)).0 n) ≡ false
never_top n ln mark d small = go (is_mark n (mark d)) refl
  where
    go : (b : Bool) → is_mark n (mark d) ≡ b → (is_mark n (mark d) && eqb (between (mark d)).0 n) ≡ false
    go true q = rw (q, removed_between n ln (mark d) (small q), ne_eqb (mark d) n (λ e. omega (arith, small q)))
    go false q = rw q

-- and its removal doesn't change a_n
go_on_top : (a : Involutions) (n : ℕ) → n ≤ widest → (mark : ℕ → ℕ) (k d : ℕ) → (is_mark n (mark d) ≡ true → mark d < n) → go_on a n mark k n d ≡ d
unfolding go_on
go_on_top a n ln mark zero d small = refl
go_on_top a n ln mark (suc k) d small = rw (never_top n ln mark d small, go_on)

-- an accepted pyramid in which no dart is contracted
module _ (a : Involutions) (n N h : ℕ) (Λ Δ : ℕ → ℕ) (y : Pyramid a n N h Λ Δ) (plain : scan N (at23 Δ) ≡ accepted) where
  -- every dart gone from level h is removed, with a dimension below n
  pub removed_only : (d : ℕ) → d < N → Λ d < h → Δ d < n
  removed_only d ld k = go (kind n (Δ d) (allowed_small n h Λ Δ d (y.allowed d ld) k)) (when_accepted (contracts (Δ d)) 23 0 0 d (scan_accepted N (at23 Δ) plain d ld))
    where
      go : Kind n (Δ d) → contracts (Δ d) ≡ false → Δ d < n
      go (removes f l) c = l
      go (shrinks f l m) c = absurd (true≢false (sym f ∙ c))

  -- a_n is the same on every level
  pub level_top : (l d : ℕ) → l ≤ h → d < N → level a n N (marks h Λ Δ) l n d ≡ a n d
  unfolding level removal
  level_top zero d k ld = refl
  level_top (suc l) d k ld =
      let small : is_mark n (marks h Λ Δ l (a n d)) ≡ true → marks h Λ Δ l (a n d) < n = λ q.
      let t = taken_is n h Λ Δ y.dimension l (a n d) q in
      omega (arith, t.mark, removed_only (a n d) (y.base.inside n d (omega arith) ld) (omega (arith, t.lambda, t.below))) in
      rw (level_top l d (omega arith) ld) (go_on_top (level a n N (marks h Λ Δ) l) n y.dimension (marks h Λ Δ l) N (a n d) small)

  -- it leads from a dart removed with dimension n−1 to one removed with it, in the same kernel
  pub over_both : (d : ℕ) → d < N → Λ d < h → Δ d + 1 ≡ n → (Λ (a n d) ≡ Λ d) × (Δ (a n d) ≡ Δ d)
  over_both d ld k e =
      let m : marks h Λ Δ (Λ d) d ≡ Δ d = marks_at_lem n h Λ Δ (Λ d) d k refl in
      let s : is_mark n (marks h Λ Δ (Λ d) d) ≡ true = rw m (is_removal n (Δ d) (omega arith)) in
      let w = (y.kernel (Λ d) k).whole d n (ld, omega arith) s (omega arith) (λ z. omega (arith, z ∙ ap (λ (x : ℕ). (between x).0) m ∙ ap (λ (x : ℕ × ℕ). x.0) (removed_between n y.dimension (Δ d) (omega arith)))) in
      let w₁ : marks h Λ Δ (Λ d) (a n d) ≡ marks h Λ Δ (Λ d) d = rw (level_top (Λ d) d (omega arith) ld) at w in
      let t = taken_is n h Λ Δ y.dimension (Λ d) (a n d) (rw w₁ s) in
      (t.lambda, sym t.mark ∙ w₁ ∙ m)

  module _ (l : ℕ) (k : l ≤ h) where
    -- the rows of a region lead to base darts, and back
    pub region_two_way : TwoWay a n (λ d. d < N) (region_rows n Λ Δ l)
    region_two_way = record {
      inside = λ j d lj ld u. y.base.inside j d lj ld;
      twice = λ j d lj ld u. y.base.twice j d lj ld;
      both = λ j d lj ld u. go j d lj ld u (ltb j n) refl;
    }
      where
        go : (j d : ℕ) → j ≤ n → d < N → region_rows n Λ Δ l j d ≡ true → (b : Bool) → ltb j n ≡ b → region_rows n Λ Δ l j (a j d) ≡ true
        go j d lj ld u true q = rw q
        go j d lj ld u false q =
            let e : j ≡ n = omega (arith, ltb-false j n q) in
            let w = and_both (ltb (Λ d) l) (eqb (Δ d + 1) n) (rw q at u) in
            let r = over_both d ld (omega (arith, ltb-true (Λ d) l w.0)) (eqb-true (Δ d + 1) n w.1) in
            rw (q, e, r.0, r.1, w.0, w.1)

    inside : (j d : ℕ) → j ≤ n → d < N → a j d < N
    inside j d lj ld = y.base.inside j d lj ld

    -- reaching is symmetric
    pub region_back : (x z : ℕ) → x < N → Region a n Λ Δ l x z → Region a n Λ Δ l z x
    region_back x z lx r =
        let o = region_orbit a n Λ Δ l N inside (region_rows n Λ Δ l) (λ j d lj ld. refl) x z lx r in
        orbit_region a n Λ Δ l N inside (region_rows n Λ Δ l) (λ j d lj ld. refl) z x (region_inside x z lx r) (orbit_back a n (region_rows n Λ Δ l) (λ d. d < N) region_two_way x z lx o)
      where
        region_inside : (x z : ℕ) → x < N → Region a n Λ Δ l x z → z < N
        region_inside x _ lx itself = lx
        region_inside x _ lx (along d i r li) = inside i d (omega arith) (region_inside x d lx r)
        region_inside x _ lx (over d r f e) = inside n d (omega arith) (region_inside x d lx r)

    -- so the lowest dart reached is the same for all darts of a region
    pub region_one_name : (x z p : ℕ) → x < N → Region a n Λ Δ l x z → RegionName a n Λ Δ l x p → RegionName a n Λ Δ l z p
    region_one_name x z p lx r m = record {
      reached = region_join a n Λ Δ l z x p (region_back x z lx r) m.reached;
      lowest = λ d s. m.lowest d (region_join a n Λ Δ l x z d r s);
    }

    -- and darts of one name are in one region
    pub name_region : (x z p : ℕ) → z < N → RegionName a n Λ Δ l x p → RegionName a n Λ Δ l z p → Region a n Λ Δ l x z
    name_region x z p lz m m' = region_join a n Λ Δ l x p z m.reached (region_back z p lz m'.reached)

    -- a walk that stays in the region may read row t of dart d: row n only of a dart removed with dimension n−1
    abbrev Readable : ℕ → ℕ → Type 0
    Readable t d = (t < n) ⊎ ((t ≡ n) × (Λ d < l) × (Δ d + 1 ≡ n))

    -- the row by which a walk goes on from a dart that it passes
    readable : (t d : ℕ) → d < N → gone Λ l d ≡ true → Readable (across (Δ d) t) d
    readable t d ld q =
        let b : Λ d < l = ltb-true (Λ d) l q in
        let s : Δ d < n = removed_only d ld (omega arith) in
        rw (removed_between n y.dimension (Δ d) s) (go (eqb t (Δ d)) (ltb (Δ d + 1) n) refl b s)
      where
        go : (c e : Bool) → ltb (Δ d + 1) n ≡ e → Λ d < l → Δ d < n → Readable (cond c (Δ d + 1) (Δ d)) d
        go true true r b s = inl (ltb-true (Δ d + 1) n r)
        go true false r b s = let f = ltb-false (Δ d + 1) n r in inr (omega arith, b, omega arith)
        go false e r b s = inl s

    read_region : (x t d : ℕ) → Readable t d → Region a n Λ Δ l x d → Region a n Λ Δ l x (a t d)
    read_region x t d (inl f) r = along d t r f
    read_region x t d (inr f) r = rw f.0 (over d r f.1 f.2)

    readable_le : (t d : ℕ) → Readable t d → t ≤ n
    readable_le t d (inl f) = omega arith
    readable_le t d (inr f) = omega (arith, f.0)

    -- so a walk over darts gone from level l stays in the region
    walk_region : (x t d e : ℕ) (passed : List ℕ) → d < N → Readable t d → Region a n Λ Δ l x d → Leads a Λ Δ l t d passed e → Region a n Λ Δ l x e
    walk_region x t d e [] ld f r w = rw w (read_region x t d f r)
    walk_region x t d e (z ∷ passed) ld f r w =
        let lz : z < N = rw w.0 (inside t d (readable_le t d f) ld) in
        walk_region x (across (Δ z) t) z e passed lz (readable t z lz w.1) (rw w.0 (read_region x t d f r)) w.3

    -- a neighbour on level l by a_0 to a_(n−1) is reached
    pub neighbour_region : (d i : ℕ) → On N Λ l d → i < n → Region a n Λ Δ l d (level a n N (marks h Λ Δ) l i d)
    neighbour_region d i o li = walk_region d i d (level a n N (marks h Λ Δ) l i d) (trail a N Λ Δ l i d) o.0 (inl li) itself (trail_leads a n N h Λ Δ y l k i d (omega arith) o)

    -- so the n-cell of a survivor, by the involutions of level l, lies in its region
    pub cell_region : (x z : ℕ) → On N Λ l x → Cell (level a n N (marks h Λ Δ) l) n n x z → On N Λ l z × Region a n Λ Δ l x z
    cell_region x _ o cell_itself = (o, itself)
    cell_region x _ o (onward d j c lj ne) =
        let r = cell_region x d o c in
        ((level_valid a n N h Λ Δ y l k).inside j d lj r.0, region_join a n Λ Δ l x d (level a n N (marks h Λ Δ) l j d) r.1 (neighbour_region d j r.0 (omega arith)))

    module _ (names : List ℕ) (row : Named a n N Λ Δ l names) where
      -- in a name row two darts have one name exactly if one reaches the other
      row_region : (x z : ℕ) → x < N → z < N → (each names x ≡ each names z → Region a n Λ Δ l x z) × (Region a n Λ Δ l x z → each names x ≡ each names z)
      row_region x z lx lz = (
        λ e. name_region x z (each names z) lz (rw e at (row.name x lx)) (row.name z lz),
        λ r. name_unique a n Λ Δ l z (each names x) (each names z) (region_one_name x z (each names x) lx r (row.name x lx)) (row.name z lz),
      )

      -- two survivors in one n-cell of level l have one name
      row_cell : (x z : ℕ) → On N Λ l x → Cell (level a n N (marks h Λ Δ) l) n n x z → each names x ≡ each names z
      row_cell x z o c = let r = cell_region x z o c in (row_region x z o.0 r.0.0).1 r.1

  -- names at level l+1 join names of level l and never part them
  rows_join : (l : ℕ) → l < h → (names above : List ℕ) → Named a n N Λ Δ l names → Named a n N Λ Δ (suc l) above → (x z : ℕ) → x < N → z < N → each names x ≡ each names z → each above x ≡ each above z
  rows_join l k names above row row' x z lx lz e = (row_region (suc l) k above row' x z lx lz).1 (region_suc a n Λ Δ l x z ((row_region l (omega arith) names row x z lx lz).0 e))

  -- What is promised of the name row of level l. The reverse of `cells` is not: a region may have several boundaries.
  pub record RegionFacts (l : ℕ) (names : List ℕ) : Type 0 where
    -- reaching is symmetric
    pub symmetric : (x z : ℕ) → x < N → Region a n Λ Δ l x z → Region a n Λ Δ l z x
    -- two darts have one name exactly if one reaches the other
    pub regions : (x z : ℕ) → x < N → z < N → (each names x ≡ each names z → Region a n Λ Δ l x z) × (Region a n Λ Δ l x z → each names x ≡ each names z)
    -- two survivors in one n-cell of level l have one name
    pub cells : (x z : ℕ) → On N Λ l x → Cell (level a n N (marks h Λ Δ) l) n n x z → each names x ≡ each names z
    -- names at level l+1 join names of level l and never part them
    pub joins : l < h → (above : List ℕ) → Named a n N Λ Δ (suc l) above → (x z : ℕ) → x < N → z < N → each names x ≡ each names z → each above x ≡ each above z

  pub region_facts : (l : ℕ) → l ≤ h → (names : List ℕ) → Named a n N Λ Δ l names → RegionFacts l names
  region_facts l k names row = record {
    symmetric = region_back l k;
    regions = row_region l k names row;
    cells = row_cell l k names row;
    joins = λ f above row'. rows_join l f names above row row';
  }
