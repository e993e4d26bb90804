-- A map, a kernel of it, and the map with the kernel taken without. Assumes nothing.
use mathlib.Core.Path.{◌≡◌, refl, sym, ap, ◌∙◌}
use mathlib.Core.Logic.{◌⊎◌, inl, inr}
use mathlib.Core.Bool.{Bool, true, false, ◌&&◌}
use Prim.Native.Nat.{ℕ, zero, suc, ◌*◌, ◌≤◌, ◌<◌}
use native.Mathlib.Omega.{arith}
use lib.Dec.{eqb}
use borrow.Author.Tests.{eqb-true, eqb-false, eq-eqb}
use Rattle.maps.specs.Count.{count}
use Rattle.maps.specs.Map.{Involutions, Valid}
use Rattle.laws.proofs.Counting.{count_le}
use Rattle.laws.proofs.Marks.{Far}
use Rattle.facts.proofs.Runs.{swap, swap_fst, swap_snd, turn, Passable, Reaches, Run, unique, front, Ground, rev, at_present, short, ends, no_both}

pub far_ne : (i j : ℕ) → Far i j → i ≡ j → ⊥
far_ne i j (inl l) e = omega arith
far_ne i j (inr l) e = omega arith

pub far_sym : (i j : ℕ) → Far i j → Far j i
far_sym i j (inl l) = inr l
far_sym i j (inr l) = inl l

is_false : (b : Bool) → (b ≡ true → ⊥) → b ≡ false
is_false true h = absurd (h refl)
is_false false h = refl

-- a valid map's rows that are two or more apart commute, whichever is the higher
pub crosses : (a : Involutions) (n : ℕ) (present : ℕ → Type 0) → Valid a n present → (i j d : ℕ) → Far i j → i ≤ n → j ≤ n → present d → a i (a j d) ≡ a j (a i d)
crosses a n present m i j d (inl f) li lj h = sym (m.commute i j d f lj h)
crosses a n present m i j d (inr f) li lj h = m.commute j i d f li h

-- what walks need of a kernel: `removed d` says that d is in it, and it is passed between the rows `dim d`, its cell's dimension, and `via d`
pub record Passing (a : Involutions) (n : ℕ) (present : ℕ → Type 0) (dim via : ℕ → ℕ) (removed : ℕ → Bool) : Type 0 where
  pub low : (d : ℕ) → present d → removed d ≡ true → dim d ≤ n
  pub high : (d : ℕ) → present d → removed d ≡ true → via d ≤ n
  pub two : (d : ℕ) → present d → removed d ≡ true → dim d ≡ via d → ⊥
  pub whole : (d j : ℕ) → present d → removed d ≡ true → j ≤ n → (dim d ≡ j → ⊥) → (removed (a j d) ≡ true) × (dim (a j d) ≡ dim d) × (via (a j d) ≡ via d)
  pub pass : (d j : ℕ) → present d → removed d ≡ true → j ≤ n → Far (dim d) j → a (via d) (a j d) ≡ a j (a (via d) d)

-- the map without the kernel: go on from d by the row that passes it and by row i, while d is in the kernel with dimension i
module _ (a : Involutions) (dim via : ℕ → ℕ) (removed : ℕ → Bool) where
  unfoldable pub along : ℕ → ℕ → ℕ → ℕ
  along zero i d = d
  along (suc f) i d = elim (removed d && eqb (dim d) i) [ true ↦ along f i (a i (a (via d) d)) | false ↦ d ]

  -- N darts are fuel enough
  unfoldable pub without : ℕ → ℕ → ℕ → ℕ
  without N i b = along N i (a i b)

  pub along_stop : (f i d : ℕ) → removed d ≡ false → along f i d ≡ d
  unfolding along
  along_stop zero i d h = refl
  along_stop (suc f) i d h = rw (h, along)

  pub along_go : (f i d : ℕ) → removed d ≡ true → dim d ≡ i → along (suc f) i d ≡ along f i (a i (a (via d) d))
  unfolding along
  along_go f i d h e = rw (h, eq-eqb (dim d) i e, along)

  -- the darts x and y are passed one after the other
  pub record Pass (i x y : ℕ) : Type 0 where
    pub first : removed x ≡ true
    pub first_dim : dim x ≡ i
    pub second : removed y ≡ true
    pub second_dim : dim y ≡ dim x
    pub second_via : via y ≡ via x

  -- the walk of dart d by row i passes f pairs of darts and ends at e
  abbrev pub Pairs : ℕ → ℕ → ℕ → ℕ → Type 0
  Pairs zero i d e = (removed (a i d) ≡ false) × (e ≡ a i d)
  Pairs (suc f) i d e = Pass i (a i d) (a (via (a i d)) (a i d)) × Pairs f i (a (via (a i d)) (a i d)) e

  pub along_pairs : (f k i d e : ℕ) → f ≤ k → Pairs f i d e → along k i (a i d) ≡ e
  along_pairs zero k i d e l x = along_stop k i (a i d) x.0 ∙ sym x.1
  along_pairs (suc f) zero i d e l x = absurd (omega arith)
  along_pairs (suc f) (suc k) i d e l x =
      along_go k i (a i d) x.0.first x.0.first_dim ∙ along_pairs f k i (a (via (a i d)) (a i d)) e (omega arith) x.1

module _ (a : Involutions) (n : ℕ) (present : ℕ → Type 0) (m : Valid a n present) (dim via : ℕ → ℕ) (removed : ℕ → Bool) (k : Passing a n present dim via removed) where
  pub ground : Ground a dim via removed n present
  ground = record { inside = m.inside; twice = m.twice; low = k.low; high = k.high }

  abbrev Same : ℕ → ℕ → Type 0
  Same d e = (removed e ≡ true) × (dim e ≡ dim d) × (via e ≡ via d)

  -- a row of a kernel dart is its dimension, or leads to a dart of the same mark
  cell : (d j : ℕ) → present d → removed d ≡ true → j ≤ n → (dim d ≡ j) ⊎ Same d (a j d)
  cell d j h i l = go (eqb (dim d) j) refl
    where
      go : (b : Bool) → eqb (dim d) j ≡ b → (dim d ≡ j) ⊎ Same d (a j d)
      go true q = inl (eqb-true (dim d) j q)
      go false q = inr (k.whole d j h i l (eqb-false (dim d) j q))

  -- coming by row t from a survivor, one meets a dart of dimension t; and so, coming from a dart of dimension t
  dim_first : (t d : ℕ) → present d → t ≤ n → removed d ≡ false → removed (a t d) ≡ true → dim (a t d) ≡ t
  dim_first t d h l i j = go (cell (a t d) t (m.inside t d l h) j l)
    where
      go : (dim (a t d) ≡ t) ⊎ Same (a t d) (a t (a t d)) → dim (a t d) ≡ t
      go (inl e) = e
      go (inr s) = absurd (no_both (removed d) (ap removed (sym (m.twice t d l h)) ∙ s.0) i)

  dim_next : (t d : ℕ) → present d → t ≤ n → dim d ≡ t → removed (a t d) ≡ true → dim (a t d) ≡ t
  dim_next t d h l e j = go (cell (a t d) t (m.inside t d l h) j l)
    where
      go : (dim (a t d) ≡ t) ⊎ Same (a t d) (a t (a t d)) → dim (a t d) ≡ t
      go (inl x) = x
      go (inr s) = sym s.1 ∙ ap dim (m.twice t d l h) ∙ e

  module _ (i : ℕ) (li : i ≤ n) where
    -- where a walk by row i passable stand: about to read row t of d
    data Stand (t d : ℕ) : Type 0 where
      begin : present d → removed d ≡ false → t ≡ i → Stand t d
      onward : present d → removed d ≡ true → dim d ≡ i → t ≡ i → Stand t d
      across : present d → removed d ≡ true → dim d ≡ i → t ≡ via d → Stand t d

    to_across : (t e : ℕ) → present e → removed e ≡ true → dim e ≡ i → t ≡ i → Passable a dim via removed e t × Stand (turn a dim via removed e t) e
    to_across t e h j x y =
        let z : t ≡ dim e = y ∙ sym x in
        (inl z, across h j x (ap (swap (dim e) (via e)) z ∙ swap_fst (dim e) (via e)))

    -- on from a dart passed: the dart met is of the same mark, and is left by row i
    to_onward : (t d : ℕ) → present d → removed d ≡ true → dim d ≡ i → t ≡ via d → (t ≤ n) × Same d (a t d) × (t ≡ via (a t d)) × (turn a dim via removed (a t d) t ≡ i)
    to_onward t d h j y x =
        let l : t ≤ n = rw x (k.high d h j) in
        let w = k.whole d t h j l (λ e. k.two d h j (e ∙ x)) in
        let z : t ≡ via (a t d) = x ∙ sym w.2 in
        (l, w, z, ap (swap (dim (a t d)) (via (a t d))) z ∙ swap_snd (dim (a t d)) (via (a t d)) ∙ w.1 ∙ y)

    met_dim : (t d : ℕ) → Stand t d → t ≡ i → removed (a t d) ≡ true → dim (a t d) ≡ i
    met_dim t d (begin h j x) e q = dim_first t d h (rw x li) j q ∙ x
    met_dim t d (onward h j y x) e q = dim_next t d h (rw x li) (y ∙ sym x) q ∙ x
    met_dim t d (across h j y x) e q = absurd (k.two d h j (y ∙ sym e ∙ x))

    step : (t d : ℕ) → Stand t d → removed (a t d) ≡ true → Passable a dim via removed (a t d) t × Stand (turn a dim via removed (a t d) t) (a t d)
    step t d (begin h j x) q = to_across t (a t d) (m.inside t d (rw x li) h) q (met_dim t d (begin h j x) x q) x
    step t d (onward h j y x) q = to_across t (a t d) (m.inside t d (rw x li) h) q (met_dim t d (onward h j y x) x q) x
    step t d (across h j y x) q =
        let w = to_onward t d h j y x in
        (inr w.2, onward (m.inside t d w.0 h) q (w.1.1 ∙ y) w.3)

    -- a walk by row i ends by row i
    last_row : (p t d u e : ℕ) → Stand t d → Run a dim via removed p t d u e → u ≡ i
    last_row zero t d u e (begin h j x) r = r.0.0 ∙ x
    last_row zero t d u e (onward h j y x) r = r.0.0 ∙ x
    last_row zero t d u e (across h j y x) r =
        let w = k.whole d t h j (rw x (k.high d h j)) (λ z. k.two d h j (z ∙ x)) in
        absurd (no_both (removed (a t d)) w.0 (ap removed (sym r.0.1) ∙ r.1))
    last_row (suc p) t d u e s r = last_row p (turn a dim via removed (a t d) t) (a t d) u e (step t d s r.0.0).1 (r.0.2, r.1)

    pub record Ended (N b : ℕ) : Type 0 where
      pub passes : ℕ
      pub dart : ℕ
      pub run : Run a dim via removed passes i b i dart
      pub fits : passes ≤ 2 * count removed N
      pub is_present : present dart

    -- T1: the walk ends
    pub walk_ends : (N : ℕ) → ((d : ℕ) → present d → d < N) → (b : ℕ) → present b → removed b ≡ false → Ended N b
    walk_ends N bound b h j =
        let r = ends a dim via removed n present ground N bound Stand step i b li h j (begin h j refl) in
        let u = last_row r.0 i b r.1 r.2 (begin h j refl) r.3 in
        let x : Run a dim via removed r.0 i b i r.2 = rw u at r.3 in
        record { passes = r.0; dart = r.2; run = x; fits = short a dim via removed n present ground N bound r.0 i b i r.2 li h j x.0; is_present = at_present a dim via removed n present ground r.0 i b i r.2 li h x.0 }

    two_rows : (e : ℕ) → dim e ≡ i → turn a dim via removed e i ≡ via e
    two_rows e x = ap (swap (dim e) (via e)) (sym x) ∙ swap_fst (dim e) (via e)

    stand_present : (t d : ℕ) → Stand t d → present d
    stand_present t d (begin h j x) = h
    stand_present t d (onward h j y x) = h
    stand_present t d (across h j y x) = h

    stand_dim : (t d : ℕ) → Stand t d → removed d ≡ true → dim d ≡ i
    stand_dim t d (begin h j x) q = absurd (no_both (removed d) q j)
    stand_dim t d (onward h j y x) q = y
    stand_dim t d (across h j y x) q = y

    -- the walk, two darts at a time
    pairs : (p d u e : ℕ) → Stand i d → Run a dim via removed p i d u e → (f : ℕ) × (p ≡ 2 * f) × Pairs a dim via removed f i d e
    pairs zero d u e s r = (0, refl, (ap removed (sym r.0.1) ∙ r.1, r.0.1))
    pairs (suc zero) d u e s r =
        let g = met_dim i d s refl r.0.0 in
        let w = to_onward (turn a dim via removed (a i d) i) (a i d) (m.inside i d li (stand_present i d s)) r.0.0 g (two_rows (a i d) g) in
        absurd (no_both (removed e) (ap removed r.0.2.1 ∙ w.1.0) r.1)
    pairs (suc (suc p)) d u e s r =
        let e₁ = a i d in
        let h₁ : present e₁ = m.inside i d li (stand_present i d s) in
        let g = met_dim i d s refl r.0.0 in
        let x₁ : turn a dim via removed e₁ i ≡ via e₁ = two_rows e₁ g in
        let w = to_onward (via e₁) e₁ h₁ r.0.0 g refl in
        let e₂ = a (via e₁) e₁ in
        let r₁ : Reaches a dim via removed (suc p) (via e₁) e₁ u e = rw x₁ at r.0.2 in
        let s₂ : Stand i e₂ = onward (m.inside (via e₁) e₁ w.0 h₁) r₁.0 (w.1.1 ∙ g) refl in
        let r₂ : Run a dim via removed p i e₂ u e = (rw w.3 at r₁.2, r.1) in
        let v = pairs p e₂ u e s₂ r₂ in
        (suc v.0, omega (arith, v.1), (record { first = r.0.0; first_dim = g; second = r₁.0; second_dim = w.1.1; second_via = w.1.2 }, v.2))

  -- ---- the rows of the map without the kernel
  module _ (N : ℕ) (bound : (d : ℕ) → present d → d < N) where
    pub record Led (i b : ℕ) : Type 0 where
      pub passes : ℕ
      pub run : Run a dim via removed passes i b i (without a dim via removed N i b)
      pub fits : passes ≤ 2 * count removed N
      pub is_present : present (without a dim via removed N i b)
      pub half : ℕ
      pub halved : passes ≡ 2 * half
      pub half_le : half ≤ N
      pub by_two : Pairs a dim via removed half i b (without a dim via removed N i b)

    -- T1: the walk ends at a survivor, and that is the new neighbour
    pub led : (i b : ℕ) → i ≤ n → present b → removed b ≡ false → Led i b
    unfolding without
    led i b l h j =
        let r = walk_ends i l N bound b h j in
        let v = pairs i l r.passes b i r.dart (begin h j refl) r.run in
        let e = along_pairs a dim via removed v.0 N i b r.dart (omega (arith, r.fits, count_le removed N, v.1)) v.2 in
        record { passes = r.passes; run = rw e r.run; fits = r.fits; is_present = rw e r.is_present; half = v.0; halved = v.1; half_le = omega (arith, r.fits, count_le removed N, v.1); by_two = rw e v.2 }

    -- any run from a survivor by row i leads there
    pub without_run : (i b p u e : ℕ) → i ≤ n → present b → removed b ≡ false → Run a dim via removed p i b u e → without a dim via removed N i b ≡ e
    without_run i b p u e l h j r = let w = led i b l h j in (unique a dim via removed w.passes p i b i (without a dim via removed N i b) u e w.run r).2

    pub without_stays : (i b : ℕ) → i ≤ n → present b → removed b ≡ false → removed (a i b) ≡ false → without a dim via removed N i b ≡ a i b
    without_stays i b l h j q = without_run i b zero i (a i b) l h j ((refl, refl), q)

    -- T2: back again
    pub without_twice : (i b : ℕ) → i ≤ n → present b → removed b ≡ false → without a dim via removed N i (without a dim via removed N i b) ≡ b
    without_twice i b l h j =
        let w = led i b l h j in
        without_run i (without a dim via removed N i b) w.passes i b l w.is_present w.run.1 (rev a dim via removed n present ground w.passes i b i (without a dim via removed N i b) l h j w.run.0)

    -- T3: a walk by row i, seen through row j
    module _ (i j : ℕ) (li : i ≤ n) (lj : j ≤ n) (far : Far i j) where
      stand_cross : (t d : ℕ) → Stand i li t d → a t (a j d) ≡ a j (a t d)
      stand_cross t d (begin h q x) = rw x (crosses a n present m i j d far li lj h)
      stand_cross t d (onward h q y x) = rw x (crosses a n present m i j d far li lj h)
      stand_cross t d (across h q y x) = rw x (k.pass d j h q lj (rw y far))

      -- the survivor met has a survivor at its row j
      stay : (d : ℕ) → Stand i li i d → (removed d ≡ false → removed (a j d) ≡ false) → removed (a i d) ≡ false → removed (a j (a i d)) ≡ true → ⊥
      stay d s f q z =
          let h = stand_present i li i d s in
          let e = a i d in
          let he : present e = m.inside i d li h in
          let hf : present (a j e) = m.inside j e lj he in
          let y : dim (a j e) ≡ j = dim_first j e he lj q z in
          let w = k.whole (a j e) i hf z li (λ x. far_ne i j far (sym x ∙ y)) in
          let b : a i (a j e) ≡ a j d = crosses a n present m i j e far li lj he ∙ ap (a j) (m.twice i d li h) in
          let z₁ : removed (a j d) ≡ true = rw b at w.0 in
          let y₁ : dim (a j d) ≡ j = rw b at (w.1 ∙ y) in
          go s z₁ y₁
        where
          go : Stand i li i d → removed (a j d) ≡ true → dim (a j d) ≡ j → ⊥
          go (begin h g x) z₁ y₁ = no_both (removed (a j d)) z₁ (f g)
          go (onward h g y x) z₁ y₁ = far_ne i j far (sym ((k.whole d j h g lj (λ e. far_ne i j far (sym y ∙ e))).1 ∙ y) ∙ y₁)
          go (across h g y x) z₁ y₁ = k.two d h g (y ∙ x)

      mirror : (p t d u e : ℕ) → Stand i li t d → (removed d ≡ false → removed (a j d) ≡ false) → Run a dim via removed p t d u e → Run a dim via removed p t (a j d) u (a j e)
      mirror zero t d u e s f r =
          let ti : t ≡ i = sym r.0.0 ∙ last_row i li zero t d u e s r in
          let s₁ : Stand i li i d = rw ti at s in
          let e₁ : e ≡ a i d = r.0.1 ∙ ap (λ (x : ℕ). a x d) ti in
          let q : removed (a i d) ≡ false = ap removed (sym e₁) ∙ r.1 in
          ((r.0.0, ap (a j) r.0.1 ∙ sym (stand_cross t d s)), is_false (removed (a j e)) (λ z. stay d s₁ f q (ap (λ (x : ℕ). removed (a j x)) (sym e₁) ∙ z)))
      mirror (suc p) t d u e s f r =
          let e₁ = a t d in
          let w = step i li t d s r.0.0 in
          let t₁ = turn a dim via removed e₁ t in
          let y : dim e₁ ≡ i = stand_dim i li t₁ e₁ w.1 r.0.0 in
          let v = k.whole e₁ j (stand_present i li t₁ e₁ w.1) r.0.0 lj (λ x. far_ne i j far (sym y ∙ x)) in
          let c : Passable a dim via removed (a j e₁) t = rw (v.1, v.2) r.0.1 in
          let r₁ : Run a dim via removed p (turn a dim via removed (a j e₁) t) (a j e₁) u (a j e) =
          rw (v.1, v.2) (mirror p t₁ e₁ u e w.1 (λ q. absurd (no_both (removed e₁) r.0.0 q)) (r.0.2, r.1)) in
          front a dim via removed p t (a j d) u (a j e) (a j e₁) (stand_cross t d s) v.0 c r₁

      cross_if : (b : ℕ) → present b → removed b ≡ false → removed (a j b) ≡ false → without a dim via removed N i (without a dim via removed N j b) ≡ without a dim via removed N j (without a dim via removed N i b)
      cross_if b h q z =
          let w = led i b li h q in
          let e = without a dim via removed N i b in
          let mr = mirror w.passes i b i e (begin h q refl) (λ x. z) w.run in
          ap (without a dim via removed N i) (without_stays j b lj h q z)
          ∙ without_run i (a j b) w.passes i (a j e) li (m.inside j b lj h) z mr
          ∙ sym (without_stays j e lj w.is_present w.run.1 mr.1)

    without_cross : (i j b : ℕ) → Far i j → i ≤ n → j ≤ n → present b → removed b ≡ false → without a dim via removed N i (without a dim via removed N j b) ≡ without a dim via removed N j (without a dim via removed N i b)
    without_cross i j b far li lj h q = go (removed (a j b)) refl (removed (a i b)) refl
      where
        go : (x : Bool) → removed (a j b) ≡ x → (y : Bool) → removed (a i b) ≡ y → without a dim via removed N i (without a dim via removed N j b) ≡ without a dim via removed N j (without a dim via removed N i b)
        go false z y z' = cross_if i j li lj far b h q z
        go true z false z' = sym (cross_if j i lj li (far_sym i j far) b h q z')
        go true z true z' =
            let x : dim (a j b) ≡ j = dim_first j b h lj q z in
            let x' : dim (a i b) ≡ i = dim_first i b h li q z' in
            let w = k.whole (a j b) i (m.inside j b lj h) z li (λ e. far_ne i j far (sym e ∙ x)) in
            let w' = k.whole (a i b) j (m.inside i b li h) z' lj (λ e. far_ne i j far (sym x' ∙ e)) in
            absurd (far_ne i j far (sym (w'.1 ∙ x') ∙ ap dim (sym (crosses a n present m i j b far li lj h)) ∙ w.1 ∙ x))

    -- the map without the kernel is a map
    pub without_valid : Valid (without a dim via removed N) n (λ d. present d × (removed d ≡ false))
    without_valid = record {
      inside = λ t d l h. ((led t d l h.0 h.1).is_present, (led t d l h.0 h.1).run.1);
      twice = λ t d l h. without_twice t d l h.0 h.1;
      commute = λ i j d f lj h. without_cross j i d (inr f) lj (omega arith) h.0 h.1;
    }
