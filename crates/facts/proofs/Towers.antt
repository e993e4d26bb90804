-- Towers: levels built by taking kernel after kernel out of a map, for any two rows by which a dart is passed. Assumes nothing.
use mathlib.Core.Path.{◌≡◌, refl}
use mathlib.Core.Bool.{Bool, true, false}
use Prim.Native.Nat.{ℕ, zero, suc, ◌≤◌, ◌<◌}
use native.Mathlib.Omega.{arith}
use lib.Dec.{eqb}
use borrow.Author.Count.{below_more}
use borrow.Author.Tests.{eqb-true, eqb-false, eq-eqb, ne_eqb, ltb-true, lt-ltb}
use Rattle.maps.specs.Map.{Involutions, Valid}
use Rattle.maps.specs.Folded.{On, gone}
use Rattle.facts.proofs.Runs.{Ground}
use Rattle.facts.proofs.Removals.{Passing, without, without_valid}

-- is d in kernel l
abbrev pub in_kernel : (ℕ → ℕ) → ℕ → ℕ → Bool
in_kernel Λ l d = eqb (Λ d) l

-- Level 0 is the base, level l+1 is level l without kernel l.
unfoldable pub floor : Involutions → (ℕ → ℕ) → (ℕ → ℕ) → ℕ → (ℕ → ℕ) → ℕ → Involutions
floor a dim via N Λ zero = a
floor a dim via N Λ (suc l) = without (floor a dim via N Λ l) dim via (in_kernel Λ l) N

-- A valid base, and at each level below h a kernel of that level. (A dart d in a kernel is passed between the rows `dim d` and `via d`.)
pub record Tower (a : Involutions) (n N h : ℕ) (Λ dim via : ℕ → ℕ) : Type 0 where
  pub base : Valid a n (λ d. d < N)
  pub kernel : (l : ℕ) → l < h → Passing (floor a dim via N Λ l) n (On N Λ l) dim via (in_kernel Λ l)

-- a dart of level l+1 is one of level l that is not in kernel l
module _ (N : ℕ) (Λ : ℕ → ℕ) (l d : ℕ) where
  pub on_below : On N Λ (suc l) d → On N Λ l d × (in_kernel Λ l d ≡ false)
  on_below o = ((o.0, omega (arith, o.1)), ne_eqb (Λ d) l (λ e. omega (arith, o.1)))

  -- and the other way round
  pub on_above : On N Λ l d × (in_kernel Λ l d ≡ false) → On N Λ (suc l) d
  on_above p = let ne : Λ d ≡ l → ⊥ = eqb-false (Λ d) l p.1 in (p.0.0, omega (arith, p.0.1))

-- what is gone stays gone
module _ (Λ : ℕ → ℕ) (l d : ℕ) where
  pub gone_suc : gone Λ l d ≡ true → gone Λ (suc l) d ≡ true
  gone_suc q = lt-ltb (Λ d) (suc l) (omega (arith, ltb-true (Λ d) l q))

  -- kernel l is gone on level l+1
  pub gone_kernel : in_kernel Λ l d ≡ true → gone Λ (suc l) d ≡ true
  gone_kernel q = lt-ltb (Λ d) (suc l) (omega (arith, eqb-true (Λ d) l q))

-- A tower is built from below: each kernel may be shown from the tower up to its level.
module _ (a : Involutions) (n N : ℕ) (Λ dim via : ℕ → ℕ) (v : Valid a n (λ d. d < N)) where
  -- walks can pass kernel l of level l
  abbrev Passes : ℕ → Type 0
  Passes l = Passing (floor a dim via N Λ l) n (On N Λ l) dim via (in_kernel Λ l)

  pub tower_of : (h : ℕ) → ((l : ℕ) → l < h → Tower a n N l Λ dim via → Passing (floor a dim via N Λ l) n (On N Λ l) dim via (in_kernel Λ l)) → Tower a n N h Λ dim via
  tower_of zero new = record { base = v; kernel = λ l f. absurd (omega arith) }
  tower_of (suc h) new =
      let t = tower_of h (λ l f. new l (omega arith)) in
      record { base = v; kernel = λ l f. below_more Passes h t.kernel (new h (omega arith) t) l (omega arith) }

module _ (a : Involutions) (n N h : ℕ) (Λ dim via : ℕ → ℕ) (t : Tower a n N h Λ dim via) where
  -- every level is a valid map on exactly its survivors
  pub tower_valid : (l : ℕ) → l ≤ h → Valid (floor a dim via N Λ l) n (On N Λ l)
  unfolding floor
  tower_valid zero k = record { inside = λ i d li o. (t.base.inside i d li o.0, omega arith); twice = λ i d li o. t.base.twice i d li o.0; commute = λ i j d f lj o. t.base.commute i j d f lj o.0 }
  tower_valid (suc l) k =
      let A = floor a dim via N Λ l in
      let m = without_valid A n (On N Λ l) (tower_valid l (omega arith)) dim via (in_kernel Λ l) (t.kernel l k) N (λ d o. o.0) in
      record {
        inside = λ i d li o. on_above N Λ l (without A dim via (in_kernel Λ l) N i d) (m.inside i d li (on_below N Λ l d o));
        twice = λ i d li o. m.twice i d li (on_below N Λ l d o);
        commute = λ i j d f lj o. m.commute i j d f lj (on_below N Λ l d o);
      }

  -- the base is ground for the direct walks of level l
  pub tower_ground : (l : ℕ) → l ≤ h → Ground a dim via (gone Λ l) n (λ d. d < N)
  tower_ground l k = record {
    inside = t.base.inside;
    twice = t.base.twice;
    low = λ d ld q. let z = ltb-true (Λ d) l q in (t.kernel (Λ d) (omega arith)).low d (ld, omega arith) (eq-eqb (Λ d) (Λ d) refl);
    high = λ d ld q. let z = ltb-true (Λ d) l q in (t.kernel (Λ d) (omega arith)).high d (ld, omega arith) (eq-eqb (Λ d) (Λ d) refl);
  }
