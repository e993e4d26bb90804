-- A link of a tower: its walk, since which level it stands, and the walk back, for any two rows by which a dart is passed. Assumes nothing.
use mathlib.Core.Path.{◌≡◌, ap, ◌∙◌}
use mathlib.Core.List.{reverse}
use Prim.Native.Nat.{ℕ, ◌*◌, ◌≤◌, ◌<◌}
use native.Mathlib.Omega.{arith}
use borrow.Author.Tests.{ltb-false, le-ltb}
use Rattle.maps.specs.Map.{Involutions}
use Rattle.maps.specs.Folded.{On, gone, removed_below}
use Rattle.facts.proofs.Runs.{Run, unique, rev}
use Rattle.maps.specs.Trail.{since_of}
use Rattle.facts.proofs.Trails.{darts, darts_back, since_reverse, thin, thick}
use Rattle.facts.proofs.Towers.{floor, Tower, tower_ground}
use Rattle.facts.proofs.TowerFacts.{tower_facts}

-- The link of dart b by row i on level l. `since` is one more than the largest Λ passed, or 0 if no dart was passed.
pub record Link (a : Involutions) (N : ℕ) (Λ dim via : ℕ → ℕ) (l i b since passes : ℕ) : Type 0 where
  -- the walk passes so many darts and ends by row i at the level's neighbour
  pub there : Run a dim via (gone Λ l) passes i b i (floor a dim via N Λ l i b)
  pub few : passes ≤ 2 * removed_below N Λ l
  -- at every level from since to l the neighbour is the same, below since it is another dart
  pub at_most : since ≤ l
  pub same : (m : ℕ) → since ≤ m → m ≤ l → floor a dim via N Λ m i b ≡ floor a dim via N Λ l i b
  pub other : (m : ℕ) → m < since → floor a dim via N Λ m i b ≡ floor a dim via N Λ l i b → ⊥
  -- the walk back from the neighbour returns to the start, past as many darts, the same in the reverse order, and tells the same since
  pub back : Run a dim via (gone Λ l) passes i (floor a dim via N Λ l i b) i b
  pub reversed : darts a dim via (gone Λ l) passes i (floor a dim via N Λ l i b) ≡ reverse (darts a dim via (gone Λ l) passes i b)
  pub back_since : since_of Λ (darts a dim via (gone Λ l) passes i (floor a dim via N Λ l i b)) ≡ since

module _ (a : Involutions) (n N h : ℕ) (Λ dim via : ℕ → ℕ) (t : Tower a n N h Λ dim via) (l : ℕ) (k : l ≤ h) (i b : ℕ) (li : i ≤ n) (o : On N Λ l b) where
  -- the neighbour of b on level m
  abbrev neighbour : ℕ → ℕ
  neighbour m = floor a dim via N Λ m i b

  -- the walk passes p darts
  module _ (p : ℕ) (r : Run a dim via (gone Λ l) p i b i (neighbour l)) where
    -- from since upward a walk passes the same darts
    same_from : (m : ℕ) → since_of Λ (darts a dim via (gone Λ l) p i b) ≤ m → m ≤ l → neighbour m ≡ neighbour l
    same_from m x lm =
        let le = ltb-false (Λ (neighbour l)) l r.1 in
        let s : Run a dim via (gone Λ m) p i b i (neighbour l) = (thin a dim via Λ l m p i b i (neighbour l) r.0 x, le-ltb (Λ (neighbour l)) m (omega arith)) in
        let w = (tower_facts a n N Λ dim via h t m (omega arith)).course i b li (o.0, omega (arith, o.1)) in
        (unique a dim via (gone Λ m) w.passes p i b i (neighbour m) i (neighbour l) w.run s).2

    -- below since a walk that ends at the same dart would pass the same darts, and one of them is not yet gone
    other_below : (m : ℕ) → m ≤ l → m < since_of Λ (darts a dim via (gone Λ l) p i b) → neighbour m ≡ neighbour l → ⊥
    other_below m lm x q =
        let w = (tower_facts a n N Λ dim via h t m (omega arith)).course i b li (o.0, omega (arith, o.1)) in
        let y = thick a dim via Λ l m w.passes i b i (neighbour l) lm (rw q at w.run.0) in
        let u = unique a dim via (gone Λ l) w.passes p i b i (neighbour l) i (neighbour l) (y.0, r.1) r in
        let z : since_of Λ (darts a dim via (gone Λ l) p i b) ≤ m = rw u.0 at y.1 in
        omega arith

  -- every link of a tower
  pub link : (p : ℕ) × Link a N Λ dim via l i b (since_of Λ (darts a dim via (gone Λ l) p i b)) p
  link =
      let F = tower_facts a n N Λ dim via h t l k in
      let p = (F.course i b li o).passes in
      let r = (F.course i b li o).run in
      let g = tower_ground a n N h Λ dim via t l k in
      let q = le-ltb (Λ b) l o.1 in
      let z = (thick a dim via Λ l l p i b i (neighbour l) (omega arith) r.0).1 in
      let e = darts_back a dim via (gone Λ l) n (λ d. d < N) g p i b i (neighbour l) li o.0 r.0 in (
        p,
        record {
          there = r;
          few = F.few i b li o;
          at_most = z;
          same = same_from p r;
          other = λ m x. other_below p r m (omega arith) x;
          back = rev a dim via (gone Λ l) n (λ d. d < N) g p i b i (neighbour l) li o.0 q r.0;
          reversed = e;
          back_since = ap (since_of Λ) e ∙ since_reverse Λ (darts a dim via (gone Λ l) p i b);
        },
      )
