-- What a kernel changes of the cells of a level: a cell that meets no dart of it is a cell of the next level, dart for dart; every other cell of the next level has a survivor that a row of the cell led into the kernel. So the cells of the next level are those of this one, less those that meet the kernel, and those that have such a survivor. Assumes nothing.
use mathlib.Core.Path.{◌≡◌, refl, sym, ap, ◌∙◌}
use mathlib.Core.Logic.{◌⊎◌, inl, inr}
use mathlib.Core.Bool.{Bool, true, false, cond, ◌&&◌, not, true≢false}
use Prim.Native.Nat.{ℕ, zero, suc, ◌+◌, ◌≤◌, ◌<◌}
use native.Mathlib.Omega.{arith}
use borrow.Author.Tests.{ne_eqb}
use Rattle.maps.specs.Count.{one, count}
use Rattle.maps.specs.Map.{Involutions, Valid}
use Rattle.maps.specs.Cell.{Cell, itself, onward}
use Rattle.maps.specs.Explicit.{There}
use Rattle.maps.specs.Census.{Lowest, CellCount}
use Rattle.laws.proofs.Verdicts.{and_both}
use Rattle.orbits.specs.Orbits.{Closed}
use Rattle.orbits.specs.Explicit.{but}
use Rattle.counting.specs.Counts.{Met}

-- two maps: the second has the darts of the first less those of a kernel, and every link between them that the first has
pub record Shrinks (a b : Involutions) (n : ℕ) (present left kernel : ℕ → Type 0) : Type 0 where
  pub before : Valid a n present
  pub after : Valid b n left
  pub sub : (d : ℕ) → left d → present d
  pub lost : (d : ℕ) → kernel d → present d
  pub split : (d : ℕ) → present d → left d ⊎ kernel d
  pub apart : (d : ℕ) → left d → kernel d → ⊥
  pub stays : (j d : ℕ) → j ≤ n → left d → left (a j d) → b j d ≡ a j d

-- the rows of an i-cell
used : (i j : ℕ) → (j ≡ i → ⊥) → but i j ≡ true
used i j ne = rw (ne_eqb j i ne)

-- O has the darts of the i-cells that meet the kernel, F those of the i-cells of the second map that have a survivor which a row led into it
module _ (a b : Involutions) (n : ℕ) (P Q K : ℕ → Type 0) (s : Shrinks a b n P Q K) (i : ℕ) (O F : ℕ → Bool) (closed-O : Closed a n (λ j d. but i j) O) (closed-F : Closed b n (λ j d. but i j) F)
    (kernel_o : (d : ℕ) → K d → O d ≡ true) (edge_f : (j d : ℕ) → j ≤ n → (j ≡ i → ⊥) → Q d → K (a j d) → F d ≡ true) where
  back : (j d : ℕ) → j ≤ n → (j ≡ i → ⊥) → P d → O (a j d) ≡ true → O d ≡ true
  back j d lj ne p h = rw (s.before.twice j d lj p) at (closed-O (a j d) j h lj (used i j ne))

  -- a row of the cell leads from a survivor outside O to another, and the link stands
  outside : (j d : ℕ) → j ≤ n → (j ≡ i → ⊥) → Q d → O d ≡ false → Q (a j d) × (O (a j d) ≡ false) × (b j d ≡ a j d)
  outside j d lj ne q o =
      let out = no (O (a j d)) refl in
      let there : Q (a j d) = elim (s.split (a j d) (s.before.inside j d lj (s.sub d q))) [ inl r ↦ r | inr k ↦ absurd (true≢false (sym (kernel_o (a j d) k) ∙ out)) ] in
      (there, out, s.stays j d lj q there)
    where
      no : (x : Bool) → O (a j d) ≡ x → O (a j d) ≡ false
      no true e = absurd (true≢false (sym (back j d lj ne (s.sub d q) e) ∙ o))
      no false e = e

  -- so a cell that meets no dart of the kernel is a cell of the next level, dart for dart
  pub stands : (x y : ℕ) → Q x → O x ≡ false → Cell a n i x y → Cell b n i x y × Q y × (O y ≡ false)
  stands x _ q o itself = (itself, q, o)
  stands x _ q o (onward d j c lj ne) =
      let r = stands x d q o c in
      let w = outside j d lj ne r.1 r.2 in
      (rw w.2 at (onward d j r.0 lj ne), w.0, w.1)

  pub stood : (x y : ℕ) → Q x → O x ≡ false → Cell b n i x y → Cell a n i x y × Q y × (O y ≡ false)
  stood x _ q o itself = (itself, q, o)
  stood x _ q o (onward d j c lj ne) =
      let r = stood x d q o c in
      let w = outside j d lj ne r.1 r.2 in
      rw w.2 (onward d j r.0 lj ne, w.0, w.1)

  -- a survivor in a cell that meets the kernel is in F
  next : (j d : ℕ) → j ≤ n → (j ≡ i → ⊥) → P d → K d ⊎ (Q d × (F d ≡ true)) → Q (a j d) ⊎ K (a j d) → K (a j d) ⊎ (Q (a j d) × (F (a j d) ≡ true))
  next j d lj ne p w (inr k) = inl k
  next j d lj ne p (inl k) (inl q) = inr (q, edge_f j (a j d) lj ne q (rw (s.before.twice j d lj p) k))
  next j d lj ne p (inr w) (inl q) = inr (q, rw (s.stays j d lj w.0 q) at (closed-F d j w.1 lj (used i j ne)))

  pub reach : (k e : ℕ) → K k → Cell a n i k e → P e × (K e ⊎ (Q e × (F e ≡ true)))
  reach k _ h itself = (s.lost k h, inl h)
  reach k _ h (onward d j c lj ne) =
      let r = reach k d h c in
      let p = s.before.inside j d lj r.0 in
      (p, next j d lj ne r.0 r.1 (s.split (a j d) p))

  -- and what is in F is in O
  step : (m d : ℕ) → m ≤ n → (m ≡ i → ⊥) → Q d → O d ≡ true → Q (b m d) → Q (a m d) ⊎ K (a m d) → O (b m d) ≡ true
  step m d lm nm q o q' (inl r) = rw (s.stays m d lm q r) (closed-O d m o lm (used i m nm))
  step m d lm nm q o q' (inr k) = far (s.split (a m (b m d)) (s.before.inside m (b m d) lm (s.sub (b m d) q')))
    where
      far : Q (a m (b m d)) ⊎ K (a m (b m d)) → O (b m d) ≡ true
      far (inr x) = back m (b m d) lm nm (s.sub (b m d) q') (kernel_o (a m (b m d)) x)
      far (inl r) =
          let e : a m (b m d) ≡ d = sym (s.stays m (b m d) lm q' r) ∙ s.after.twice m d lm q in
          let f : a m d ≡ b m d = ap (a m) (sym e) ∙ s.before.twice m (b m d) lm (s.sub (b m d) q') in
          absurd (s.apart (b m d) q' (rw f at k))

  pub found_opened : (x e j : ℕ) → j ≤ n → (j ≡ i → ⊥) → Q x → K (a j x) → Cell b n i x e → Q e × (O e ≡ true)
  found_opened x _ j lj ne q k itself = (q, back j x lj ne (s.sub x q) (kernel_o (a j x) k))
  found_opened x _ j lj ne q k (onward d m c lm nm) =
      let r = found_opened x d j lj ne q k c in
      let q' = s.after.inside m d lm r.0 in
      (q', step m d lm nm r.0 r.1 q' (s.split (a m d) (s.before.inside m d lm (s.sub d r.0))))

-- four tests that count alike at each number count alike
count_four : (p q r s : ℕ → Bool) (m : ℕ) → ((d : ℕ) → d < m → one (p d) + one (q d) ≡ one (r d) + one (s d)) → count p m + count q m ≡ count r m + count s m
unfolding count
count_four p q r s zero h = refl
count_four p q r s (suc m) h =
    let e = count_four p q r s m (λ d l. h d (omega arith)) in
    let f = h m (omega arith) in
    omega arith

-- what is counted at a dart, by whether it is in F and in O
at_dart : (x y c o f : Bool) → (x ≡ true → o ≡ c) → (x ≡ false → f ≡ false) → (y ≡ true → o ≡ c) → (y ≡ false → o ≡ false) → one (cond x f (c && not y)) + one o ≡ one c + one f
at_dart true y c o f h g k m = let e = h refl in rw e (omega arith)
at_dart false true true o f h g k m = rw (k refl, g refl)
at_dart false true false o f h g k m = rw (k refl, g refl)
at_dart false false true o f h g k m = rw (m refl, g refl)
at_dart false false false o f h g k m = rw (m refl, g refl)

-- two tests that hold together are equal
both_ways : (x y : Bool) → (x ≡ true → y ≡ true) → (y ≡ true → x ≡ true) → x ≡ y
both_ways true y f g = sym (f refl)
both_ways false true f g = g refl
both_ways false false f g = refl

-- the cells counted before, those that meet the kernel, and those found after it
module _ (a b : Involutions) (n N : ℕ) (pa pb : ℕ → Bool) (K : ℕ → Type 0) (s : Shrinks a b n (There N pa) (There N pb) K) (i : ℕ) (S E : ℕ → Type 0)
    (kernel-starts : (d : ℕ) → K d → S d) (starts-kernel : (d : ℕ) → S d → K d)
    (edge-starts : (j d : ℕ) → j ≤ n → (j ≡ i → ⊥) → There N pb d → K (a j d) → E d)
    (starts-edge : (d : ℕ) → E d → (j : ℕ) × (j ≤ n) × (j ≡ i → ⊥) × There N pb d × K (a j d))
    (number opened found : ℕ) (c : CellCount a n N pa i number) (O : ℕ → Bool) (o : Met a n N i S O opened) (F : ℕ → Bool) (f : Met b n N i E F found) where
  kernel_o : (d : ℕ) → K d → O d ≡ true
  kernel_o d k = o.has_starts d (kernel-starts d k)

  edge_f : (j d : ℕ) → j ≤ n → (j ≡ i → ⊥) → There N pb d → K (a j d) → F d ≡ true
  edge_f j d lj ne q k = f.has_starts d (edge-starts j d lj ne q k)

  -- a dart of O is present, and in F where it survives
  in_o : (d : ℕ) → O d ≡ true → There N pa d × (There N pb d → F d ≡ true)
  in_o d h =
      let w = o.source d h in
      let r = reach a b n (There N pa) (There N pb) K s i O F o.closed f.closed kernel_o edge_f w.0 d (starts-kernel w.0 w.1) w.2 in
      (r.0, λ q. elim r.1 [ inl k ↦ absurd (s.apart d q k) | inr x ↦ x.1 ])

  -- a dart of F survives, and is in O
  in_f : (d : ℕ) → F d ≡ true → There N pb d × (O d ≡ true)
  in_f d h =
      let w = f.source d h in
      let e = starts-edge w.0 w.1 in
      found_opened a b n (There N pa) (There N pb) K s i O F o.closed f.closed kernel_o edge_f w.0 d e.0 e.1 e.2 e.3 e.4 w.2

  -- outside O the darts present survive
  survivor : (d : ℕ) → There N pa d → O d ≡ false → There N pb d
  survivor d p g = elim (s.split d p) [ inl q ↦ q | inr k ↦ absurd (true≢false (sym (kernel_o d k) ∙ g)) ]

  -- a dart of O is counted among the cells that meet the kernel where it was counted
  same : (d : ℕ) → d < N → O d ≡ true → o.counted d ≡ c.counted d
  same d l h = both_ways (o.counted d) (c.counted d) (λ q. c.every d l (in_o d h).0.1 (o.only d q)) (λ q. o.every d h (c.only d l q).1)

  none_o : (d : ℕ) → O d ≡ false → o.counted d ≡ false
  none_o d g = both_ways (o.counted d) false (λ q. absurd (true≢false (sym (o.inside d q) ∙ g))) (λ q. absurd (true≢false (sym q)))

  none_f : (d : ℕ) → F d ≡ false → f.counted d ≡ false
  none_f d g = both_ways (f.counted d) false (λ q. absurd (true≢false (sym (f.inside d q) ∙ g))) (λ q. absurd (true≢false (sym q)))

  only' : (d : ℕ) → d < N → (x : Bool) → F d ≡ x → (y : Bool) → O d ≡ y → cond x (f.counted d) (c.counted d && not y) ≡ true → (pb d ≡ true) × Lowest b n i d
  only' d l true e y g h = ((in_f d e).0.1, f.only d h)
  only' d l false e true g h = absurd (true≢false (sym (and_both (c.counted d) false h).1))
  only' d l false e false g h =
      let w = c.only d l (and_both (c.counted d) true h).0 in
      let q = survivor d (l, w.0) g in
      (q.1, λ x z. w.1 x (stood a b n (There N pa) (There N pb) K s i O F o.closed f.closed kernel_o edge_f d x q g z).0)

  every' : (d : ℕ) → d < N → pb d ≡ true → Lowest b n i d → (x : Bool) → F d ≡ x → (y : Bool) → O d ≡ y → cond x (f.counted d) (c.counted d && not y) ≡ true
  every' d l p low true e y g = f.every d e low
  every' d l p low false e true g = absurd (true≢false (sym ((in_o d g).1 (l, p)) ∙ e))
  every' d l p low false e false g = rw (c.every d l (s.sub d (l, p)).1 (λ x z. low x (stands a b n (There N pa) (There N pb) K s i O F o.closed f.closed kernel_o edge_f d x (l, p) g z).0))

  -- the cells of the second map, counted out of the three
  pub changed : (next : ℕ) × CellCount b n N pb i next × (next + opened ≡ number + found)
  changed = (count counted' N, record { counted = counted'; only = λ d l. only' d l (F d) refl (O d) refl; every = λ d l p low. every' d l p low (F d) refl (O d) refl; is = refl }, omega (arith, all, c.is, o.is, f.is))
    where
      counted' : ℕ → Bool
      counted' d = cond (F d) (f.counted d) (c.counted d && not (O d))

      all : count counted' N + count o.counted N ≡ count c.counted N + count f.counted N
      all = count_four counted' o.counted c.counted f.counted N (λ d l. at_dart (F d) (O d) (c.counted d) (o.counted d) (f.counted d) (λ e. same d l (in_f d e).1) (none_f d) (same d l) (none_o d))
