-- Region names of the square and of a path, as the definition has them: each dart of a region bears its lowest dart's number. Assumes nothing.
use mathlib.Core.Path.{◌≡◌, refl, sym, ◌∙◌}
use mathlib.Core.Bool.{Bool, true, false, cond, ◌&&◌, ◌||◌, not, true≢false}
use mathlib.Core.List.{List, [], ◌∷◌}
use Prim.Native.Nat.{ℕ, zero, suc, ◌+◌, ◌%◌, ◌<◌}
use native.Mathlib.Omega.{arith}
use lib.ListN.{length}
use lib.Dec.{eqb, ltb, leb, lit<}
use borrow.Author.Tests.{eqb-true, eqb-false, eq-eqb, ltb-true, lt-ltb, leb-true}
use Rattle.maps.specs.Map.{Involutions}
use Rattle.maps.specs.Table.{each}
use Rattle.maps.specs.Folded.{Folded, base, lambda_of, delta_of}
use Rattle.maps.specs.Regions.{Region, itself, along, over, Named}
use Rattle.maps.proofs.Small.{corners}

-- a test that holds of every number below m
unfoldable pub every : (ℕ → Bool) → ℕ → Bool
every p zero = true
every p (suc m) = every p m && p m

pub and_both : (x y : Bool) → (x && y) ≡ true → (x ≡ true) × (y ≡ true)
and_both true y q = (refl, q)
and_both false y q = absurd (true≢false (sym q))

-- so of each of them
pub every_at : (p : ℕ → Bool) (m : ℕ) → every p m ≡ true → (d : ℕ) → d < m → p d ≡ true
unfolding every
every_at p zero e d l = absurd (omega arith)
every_at p (suc m) e d l = go (eqb d m) refl (every_at p m (and_both (every p m) (p m) e).0 d)
  where
    go : (b : Bool) → eqb d m ≡ b → (d < m → p d ≡ true) → p d ≡ true
    go true q ih = rw (eqb-true d m q) (and_both (every p m) (p m) e).1
    go false q ih = let ne : (d ≡ m → ⊥) = eqb-false d m q in ih (omega arith)

-- what tells of a row of names that it is the name row, where a dart that isn't its own name has a lower one by the row that `downward` gives
module _ (p : Folded) (l : ℕ) (names : List ℕ) (downward : ℕ → ℕ) where
  open p use {n, N}

  abbrev a : Involutions
  a = base p

  -- does a region go on by a_n from this dart?
  abbrev passes : ℕ → Bool
  passes d = ltb (lambda_of p d) l && eqb (delta_of p d + 1) n

  -- row j leads to a dart of the same name
  abbrev same : ℕ → ℕ → Bool
  same d j = ltb (a j d) N && eqb (each names (a j d)) (each names d)

  abbrev steady : ℕ → Bool
  steady d = every (same d) n && (not (passes d) || same d n)

  abbrev falls : ℕ → Bool
  falls d = eqb (each names d) d || ((ltb (downward d) n || (eqb (downward d) n && passes d)) && ltb (a (downward d) d) d)

  pub record Tested : Type 0 where
    pub long : length names ≡ N
    pub steadies : every steady N ≡ true
    pub low : every (λ d. leb (each names d) d) N ≡ true
    pub down : every falls N ≡ true

  abbrev Reached : ℕ → ℕ → Type 0
  Reached = Region a n (lambda_of p) (delta_of p) l

  joined : (x y z : ℕ) → Reached x y → Reached y z → Reached x z
  joined x y _ r itself = r
  joined x y _ r (along d i s li) = along d i (joined x y d r s) li
  joined x y _ r (over d s k e) = over d (joined x y d r s) k e

  module _ (t : Tested) where
    same_at : (d j : ℕ) → same d j ≡ true → (a j d < N) × (each names (a j d) ≡ each names d)
    same_at d j e = let w = and_both (ltb (a j d) N) (eqb (each names (a j d)) (each names d)) e in (ltb-true (a j d) N w.0, eqb-true (each names (a j d)) (each names d) w.1)

    steady_at : (d : ℕ) → d < N → (every (same d) n ≡ true) × ((not (passes d) || same d n) ≡ true)
    steady_at d ld = and_both (every (same d) n) (not (passes d) || same d n) (every_at steady N t.steadies d ld)

    along_at : (d i : ℕ) → d < N → i < n → (a i d < N) × (each names (a i d) ≡ each names d)
    along_at d i ld li = same_at d i (every_at (same d) n (steady_at d ld).0 i li)

    over_at : (d : ℕ) → d < N → passes d ≡ true → (a n d < N) × (each names (a n d) ≡ each names d)
    over_at d ld q = same_at d n (rw q at (steady_at d ld).1)

    passing : (d : ℕ) → lambda_of p d < l → delta_of p d + 1 ≡ n → passes d ≡ true
    passing d k e = rw (lt-ltb (lambda_of p d) l k, eq-eqb (delta_of p d + 1) n e)

    -- all that a dart reaches has its name
    kept : (x y : ℕ) → x < N → Reached x y → (y < N) × (each names y ≡ each names x)
    kept x _ lx itself = (lx, refl)
    kept x _ lx (along d i r li) = let s = kept x d lx r in let w = along_at d i s.0 li in (w.0, w.1 ∙ s.1)
    kept x _ lx (over d r k e) = let s = kept x d lx r in let w = over_at d s.0 (passing d k e) in (w.0, w.1 ∙ s.1)

    -- a step down, and what it leads to
    step : (d j : ℕ) → d < N → (ltb j n || (eqb j n && passes d)) ≡ true → Reached d (a j d) × (a j d < N) × (each names (a j d) ≡ each names d)
    step d j ld e = go (ltb j n) refl e
      where
        go : (b : Bool) → ltb j n ≡ b → (b || (eqb j n && passes d)) ≡ true → Reached d (a j d) × (a j d < N) × (each names (a j d) ≡ each names d)
        go true q f = let li = ltb-true j n q in let w = along_at d j ld li in (along d j itself li, w.0, w.1)
        go false q f =
            let w = and_both (eqb j n) (passes d) f in
            let v = and_both (ltb (lambda_of p d) l) (eqb (delta_of p d + 1) n) w.1 in
            let u = over_at d ld w.1 in
            rw (eqb-true j n w.0) (over d itself (ltb-true (lambda_of p d) l v.0) (eqb-true (delta_of p d + 1) n v.1), u.0, u.1)

    -- and its name is reached, dart by lower dart
    reaches : (m d : ℕ) → d < m → d < N → Reached d (each names d)
    reaches zero d lm ld = absurd (omega arith)
    reaches (suc m) d lm ld = go (eqb (each names d) d) refl (every_at falls N t.down d ld) (λ e k f. reaches m e k f)
      where
        j : ℕ
        j = downward d

        go : (b : Bool) → eqb (each names d) d ≡ b → falls d ≡ true → ((e : ℕ) → e < m → e < N → Reached e (each names e)) → Reached d (each names d)
        go true q f ih = rw (eqb-true (each names d) d q) itself
        go false q f ih =
            let w = and_both (ltb j n || (eqb j n && passes d)) (ltb (a j d) d) (rw q at f) in
            let s = step d j ld w.0 in
            let below = ltb-true (a j d) d w.1 in
            joined d (a j d) (each names d) s.0 (rw s.2 at (ih (a j d) (omega arith) s.1))

    pub tested_named : Named a n N (lambda_of p) (delta_of p) l names
    tested_named = record {
      long = t.long;
      name = λ d ld. record {
        reached = reaches (suc d) d (omega arith) ld;
        lowest = λ e r. let s = kept d e ld r in omega (arith, s.1, leb-true (each names e) e (every_at (λ d. leb (each names d) d) N t.low e s.0));
      };
    }

-- A path of three edges, the middle one removed: its region has two boundaries then.
abbrev pub path : Folded
path = record {
  n = 2;
  N = 12;
  h = 1;
  rows = 1 ∷ 0 ∷ 3 ∷ 2 ∷ 5 ∷ 4 ∷ 7 ∷ 6 ∷ 9 ∷ 8 ∷ 11 ∷ 10 ∷ 2 ∷ 4 ∷ 0 ∷ 6 ∷ 1 ∷ 8 ∷ 3 ∷ 10 ∷ 5 ∷ 11 ∷ 7 ∷ 9 ∷ 2 ∷ 3 ∷ 0 ∷ 1 ∷ 6 ∷ 7 ∷ 4 ∷ 5 ∷ 10 ∷ 11 ∷ 8 ∷ 9 ∷ [];
  lambda = 1 ∷ 1 ∷ 1 ∷ 1 ∷ 0 ∷ 0 ∷ 0 ∷ 0 ∷ 1 ∷ 1 ∷ 1 ∷ 1 ∷ [];
  delta = 2 ∷ 2 ∷ 2 ∷ 2 ∷ 1 ∷ 1 ∷ 1 ∷ 1 ∷ 2 ∷ 2 ∷ 2 ∷ 2 ∷ [];
}

-- the row that leads to a lower dart in both: a_0 from odd darts, a_1 from even ones
abbrev lower : ℕ → ℕ
lower d = cond (eqb (d % 2) 0) 1 0

abbrev NamedAt : Folded → ℕ → List ℕ → Type 0
NamedAt p l names = Named (base p) p.n p.N (lambda_of p) (delta_of p) l names

pub record SmallNames : Type 0 where
  -- from 0 a_0 leads to 1, which kernel 0 removes with Δ = n−1, and a_1 on to 2
  pub passed : Region (base corners) 1 (lambda_of corners) (delta_of corners) 1 0 2
  -- the edges of the square, joined where {1,2}, then {3,4} is removed
  pub square_0 : NamedAt corners 0 (0 ∷ 0 ∷ 2 ∷ 2 ∷ 4 ∷ 4 ∷ 6 ∷ 6 ∷ [])
  pub square_1 : NamedAt corners 1 (0 ∷ 0 ∷ 0 ∷ 0 ∷ 4 ∷ 4 ∷ 6 ∷ 6 ∷ [])
  pub square_2 : NamedAt corners 2 (0 ∷ 0 ∷ 0 ∷ 0 ∷ 0 ∷ 0 ∷ 6 ∷ 6 ∷ [])
  -- the path's two faces have one name when the edge between them is gone
  pub path_1 : NamedAt path 1 (0 ∷ 0 ∷ 0 ∷ 0 ∷ 0 ∷ 0 ∷ 0 ∷ 0 ∷ 0 ∷ 0 ∷ 0 ∷ 0 ∷ [])

pub small_names : SmallNames
unfolding every
small_names = record {
  passed = over 1 (along 0 0 itself (lit< tt)) (lit< tt) refl;
  square_0 = tested_named corners 0 (0 ∷ 0 ∷ 2 ∷ 2 ∷ 4 ∷ 4 ∷ 6 ∷ 6 ∷ []) lower (record { long = refl; steadies = refl; low = refl; down = refl });
  square_1 = tested_named corners 1 (0 ∷ 0 ∷ 0 ∷ 0 ∷ 4 ∷ 4 ∷ 6 ∷ 6 ∷ []) lower (record { long = refl; steadies = refl; low = refl; down = refl });
  square_2 = tested_named corners 2 (0 ∷ 0 ∷ 0 ∷ 0 ∷ 0 ∷ 0 ∷ 6 ∷ 6 ∷ []) lower (record { long = refl; steadies = refl; low = refl; down = refl });
  path_1 = tested_named path 1 (0 ∷ 0 ∷ 0 ∷ 0 ∷ 0 ∷ 0 ∷ 0 ∷ 0 ∷ 0 ∷ 0 ∷ 0 ∷ 0 ∷ []) lower (record { long = refl; steadies = refl; low = refl; down = refl });
}
