-- The work of removing a kernel: following the marks, over all links together, takes no more turns than the kernel has darts. Assumes nothing.
use mathlib.Core.Path.{◌≡◌, refl, sym, ap, ◌∙◌}
use mathlib.Core.Logic.{◌⊎◌, inl, inr}
use mathlib.Core.Bool.{Bool, true, false, cond, ◌&&◌, not}
use mathlib.Core.List.{List, [], ◌∷◌}
use Prim.Native.Nat.{ℕ, zero, suc, ◌+◌, ◌*◌, ◌≤◌, ◌<◌}
use native.Mathlib.Omega.{arith}
use lib.Dec.{eqb, ltb}
use borrow.Author.Tests.{eq-eqb, eqb-true, eqb-false, ltb-true, ltb-false, lt-ltb, le-ltb, not-true}
use Rattle.maps.specs.Count.{one, count, sum}
use Rattle.maps.specs.Map.{Involutions, Valid}
use Rattle.maps.specs.Mark.{is_mark, between}
use Rattle.maps.specs.Kernel.{Kernel}
use Rattle.maps.specs.Removal.{go_on, turns_from}
use Rattle.maps.specs.Table.{entry, each}
use Rattle.maps.specs.Folded.{On, removed_below, marks, level}
use Rattle.maps.specs.Pyramid.{Pyramid}
use Rattle.laws.proofs.Counting.{count_same}
use Rattle.laws.proofs.Verdicts.{and_both}
use Rattle.laws.proofs.MarkRows.{taken_is}
use Rattle.facts.proofs.Runs.{Reaches, Ground, no_both}
use Rattle.facts.proofs.AllWalks.{passes_le}
use Rattle.facts.proofs.Removals.{Passing, Pairs, Led, led, without, ground}
use Rattle.facts.proofs.Kernels.{passing}
use Rattle.facts.proofs.Levels.{taken_in, level_valid}

-- a sum of doubles is the double
sum_double : (p : ℕ → Bool) (f : ℕ → ℕ) (m : ℕ) → sum (λ x. cond (p x) (2 * f x) 0) m ≡ 2 * sum (λ x. cond (p x) (f x) 0) m
unfolding sum
sum_double p f zero = refl
sum_double p f (suc m) = omega (arith, sum_double p f m, go (p m) (f m))
  where
    go : (x : Bool) (y : ℕ) → cond x (2 * y) 0 ≡ 2 * cond x y 0
    go true y = refl
    go false y = refl

-- a way past the darts of a kernel: each is passed between the rows of its mark
module _ (a : Involutions) (n : ℕ) (mark : ℕ → ℕ) where
  abbrev dim : ℕ → ℕ
  dim d = (between (mark d)).0

  abbrev via : ℕ → ℕ
  via d = (between (mark d)).1

  abbrev in_kernel : ℕ → Bool
  in_kernel d = is_mark n (mark d)

  go_on_stop : (t i d : ℕ) → in_kernel d ≡ false → go_on a n mark t i d ≡ d
  unfolding go_on
  go_on_stop zero i d q = refl
  go_on_stop (suc t) i d q = rw (q, go_on)

  go_on_go : (t i d : ℕ) → in_kernel d ≡ true → dim d ≡ i → go_on a n mark (suc t) i d ≡ go_on a n mark t i (a i (a (via d) d))
  unfolding go_on
  go_on_go t i d q e = rw (q, eq-eqb (dim d) i e, go_on)

  -- each turn passes two darts
  turns_pairs : (f t i d e : ℕ) → f ≤ t → Pairs a dim via in_kernel f i d e → turns_from a n mark t i (a i d) ≡ f
  unfolding turns_from
  turns_pairs zero zero i d e l x = refl
  turns_pairs zero (suc t) i d e l x = rw (x.0, turns_from)
  turns_pairs (suc f) zero i d e l x = absurd (omega arith)
  turns_pairs (suc f) (suc t) i d e l x =
      rw (x.0.first, eq-eqb (dim (a i d)) i x.0.first_dim, turns_from) (ap suc (turns_pairs f t i (a (via (a i d)) (a i d)) e (omega arith) x.1))

  -- where the way is after t turns: at a dart of the kernel whose mark's first row is i, or at its end
  at_turn : (f t i d e : ℕ) → Pairs a dim via in_kernel f i d e → (x : ℕ) → go_on a n mark t i (a i d) ≡ x → ((t < f) × (in_kernel x ≡ true) × (dim x ≡ i)) ⊎ ((f ≤ t) × (x ≡ e) × (in_kernel x ≡ false))
  unfolding go_on
  at_turn zero t i d e p x g = let y : x ≡ a i d = sym g ∙ go_on_stop t i (a i d) p.0 in inr (omega arith, y ∙ sym p.1, ap in_kernel y ∙ p.0)
  at_turn (suc f) zero i d e p x g = inl (omega arith, ap in_kernel (sym g) ∙ p.0.first, ap dim (sym g) ∙ p.0.first_dim)
  at_turn (suc f) (suc t) i d e p x g =
      elim (at_turn f t i (a (via (a i d)) (a i d)) e p.1 x (sym (go_on_go t i (a i d) p.0.first p.0.first_dim) ∙ g)) [
        | inl r ↦ inl (omega (arith, r.0), r.1, r.2)
        | inr r ↦ inr (omega (arith, r.0), r.1, r.2)
      ]

  -- The way by row i that comes to dart d first, where it may turn N times.
  pub record Way (present : ℕ → Type 0) (N i d : ℕ) : Type 0 where
    -- it takes no more turns than the kernel has darts, and no more than it may
    pub few : turns_from a n mark N i d ≤ count (λ x. is_mark n (mark x)) N
    pub fits : turns_from a n mark N i d ≤ N
    -- until it has taken them it is at darts of the kernel
    pub going : (t : ℕ) → t < turns_from a n mark N i d → is_mark n (mark (go_on a n mark t i d)) ≡ true
    -- none of which has a mark with another first row
    pub alike : (t : ℕ) → is_mark n (mark (go_on a n mark t i d)) ≡ true → (between (mark (go_on a n mark t i d))).0 ≡ i
    -- then it is at a survivor, and stays there
    pub ended : (t : ℕ) → turns_from a n mark N i d ≤ t → go_on a n mark t i d ≡ go_on a n mark N i d
    pub survivor : present (go_on a n mark N i d) × (is_mark n (mark (go_on a n mark N i d)) ≡ false)

  -- a kernel of a valid level
  module _ (present : ℕ → Type 0) (v : Valid a n present) (k : Kernel a n present mark) (N : ℕ) (bound : (d : ℕ) → present d → d < N) where
    passes_kernel : Passing a n present dim via in_kernel
    passes_kernel = passing a n mark dim via (λ d q. (refl, refl)) present v k

    leads : (i b : ℕ) → i ≤ n → present b → in_kernel b ≡ false → Led a n present v dim via in_kernel passes_kernel N bound i b
    leads = led a n present v dim via in_kernel passes_kernel N bound

    grounded : Ground a dim via in_kernel n present
    grounded = ground a n present v dim via in_kernel passes_kernel

    -- from a survivor
    pub way : (i b : ℕ) → i ≤ n → present b → is_mark n (mark b) ≡ false → Way present N i (a i b)
    way i b li h q =
        let w = leads i b li h q in
        let z = without a dim via in_kernel N i b in
        let s = turns_pairs w.half N i b z w.half_le w.by_two in
        let at : (t : ℕ) → _ = λ t. at_turn w.half t i b z w.by_two (go_on a n mark t i (a i b)) refl in
        let end : (t : ℕ) → w.half ≤ t → go_on a n mark t i (a i b) ≡ z = λ t l. elim (at t) [ inl r ↦ absurd (omega (arith, r.0)) | inr r ↦ r.1 ] in
        record {
          few = omega (arith, w.fits, w.halved, s);
          fits = omega (arith, w.half_le, s);
          going = λ t l. elim (at t) [ inl r ↦ r.1 | inr r ↦ absurd (omega (arith, r.0, s)) ];
          alike = λ t x. elim (at t) [ inl r ↦ r.2 | inr r ↦ absurd (no_both (in_kernel (go_on a n mark t i (a i b))) x r.2) ];
          ended = λ t l. end t (omega (arith, s)) ∙ sym (end N w.half_le);
          survivor = rw (end N w.half_le) (w.is_present, w.run.1);
        }

    -- from a dart of the kernel whose mark's first row leads to a survivor
    pub way_from : (d : ℕ) → present d → is_mark n (mark d) ≡ true → is_mark n (mark (a (between (mark d)).0 d)) ≡ false → Way present N (between (mark d)).0 d
    way_from d h q s = let l = passes_kernel.low d h q in rw (v.twice (dim d) d l h) at (way (dim d) (a (dim d) d) l (v.inside (dim d) d l h) s)

    -- twice as many darts are passed as there are turns
    reach : (i b : ℕ) → i ≤ n → present b → in_kernel b ≡ false → (e : ℕ) × Reaches a dim via in_kernel (2 * turns_from a n mark N i (a i b)) i b i e
    reach i b li h q =
        let w = leads i b li h q in
        let x : 2 * turns_from a n mark N i (a i b) ≡ w.passes = omega (arith, w.halved, turns_pairs w.half N i b (without a dim via in_kernel N i b) w.half_le w.by_two) in
        (without a dim via in_kernel N i b, rw x w.run.0)

    -- All ways together take no more turns than the kernel has darts, each followed from the first dart that it passes: a dart of the kernel whose mark's first row
    -- leads to a survivor. (`starts` tells these darts, or some of them: a link may be followed from both its ends.)
    pub follow_bound : (starts : ℕ → Bool) → ((d : ℕ) → d < N → starts d ≡ true → present d × (is_mark n (mark d) ≡ true) × (is_mark n (mark (a (between (mark d)).0 d)) ≡ false))
        → sum (λ d. cond (starts d) (turns_from a n mark N (between (mark d)).0 d) 0) N ≤ count (λ d. is_mark n (mark d)) N
    unfolding sum
    follow_bound starts is =
        let p =
        passes_le a dim via in_kernel N 1 N (λ u d. starts d) (λ u d. dim d) (λ u d. a (dim d) d) (λ u d. 2 * turns_from a n mark N (dim d) d) n present grounded bound
        (λ u d lu ld q.
        let s = is d ld q in
        let l = passes_kernel.low d s.0 s.1 in
        let c = reach (dim d) (a (dim d) d) l (v.inside (dim d) d l s.0) s.2 in
        let x : Reaches a dim via in_kernel (2 * turns_from a n mark N (dim d) d) (dim d) (a (dim d) d) (dim d) c.0 = rw (v.twice (dim d) d l s.0) at c.1 in
        record { row_le = l; here = v.inside (dim d) d l s.0; stays = s.2; last = dim d; end = c.0; course = x })
        (λ u d u' d' lu ld lu' ld' q q' e f.
        let s = is d ld q in
        let s' = is d' ld' q' in
        let y : a (dim d) (a (dim d) d) ≡ a (dim d') (a (dim d') d') = cc in
        (omega arith, sym (v.twice (dim d) d (passes_kernel.low d s.0 s.1) s.0) ∙ y ∙ v.twice (dim d') d' (passes_kernel.low d' s'.0 s'.1) s'.0)) in
        omega (arith, p, sum_double starts (λ d. turns_from a n mark N (dim d) d) N)

-- a dart gone from level l+1 is gone from level l or in kernel l
gone_one : (x l : ℕ) → one (ltb x (suc l)) ≡ one (ltb x l) + one (eqb x l)
gone_one x l = go (ltb x l) refl (eqb x l) refl
  where
    go : (s : Bool) → ltb x l ≡ s → (t : Bool) → eqb x l ≡ t → one (ltb x (suc l)) ≡ one (ltb x l) + one (eqb x l)
    go true p true q = omega (arith, ltb-true x l p, eqb-true x l q)
    go true p false q = rw (p, q, lt-ltb x (suc l) (omega (arith, ltb-true x l p))) (omega arith)
    go false p true q = rw (p, q, lt-ltb x (suc l) (omega (arith, eqb-true x l q))) (omega arith)
    go false p false q =
        let ne : x ≡ l → ⊥ = eqb-false x l q in
        let f : suc l ≤ x = omega (arith, ltb-false x l p) in
        rw (p, q, le-ltb x (suc l) f) (omega arith)

pub removed_suc : (Λ : ℕ → ℕ) (l m : ℕ) → removed_below m Λ (suc l) ≡ removed_below m Λ l + count (λ d. eqb (Λ d) l) m
unfolding count
removed_suc Λ l zero = refl
removed_suc Λ l (suc m) = omega (arith, removed_suc Λ l m, gone_one (Λ m) l)

module _ (a : Involutions) (n N h : ℕ) (Λ Δ : ℕ → ℕ) where
  -- the turns from those darts of kernel l that `starts` tells
  unfoldable pub turns_at : (ℕ → ℕ → Bool) → ℕ → ℕ
  turns_at starts l = sum (λ d. cond (starts l d) (turns_from (level a n N (marks h Λ Δ) l) n (marks h Λ Δ l) N (between (marks h Λ Δ l d)).0 d) 0) N

  -- is d in kernel l, next to a survivor by the first row of its mark?
  abbrev pub starting : ℕ → ℕ → Bool
  starting l d = is_mark n (marks h Λ Δ l d) && not (is_mark n (marks h Λ Δ l (level a n N (marks h Λ Δ) l (between (marks h Λ Δ l d)).0 d)))

  -- an accepted pyramid; `starts` tells such darts of each kernel, or some of them
  module _ (y : Pyramid a n N h Λ Δ) (starts : ℕ → ℕ → Bool) (is : (l d : ℕ) → l < h → d < N → starts l d ≡ true → starting l d ≡ true) where
    -- no more turns than kernel l has darts
    pub level_turns : (l : ℕ) → l < h → turns_at starts l ≤ count (λ d. eqb (Λ d) l) N
    unfolding turns_at
    level_turns l k =
        let A = level a n N (marks h Λ Δ) l in
        let mark = marks h Λ Δ l in
        rw (← (count_same (λ d. is_mark n (mark d)) (λ d. eqb (Λ d) l) N (λ d ld. taken_in a n N h Λ Δ y.dimension y.allowed l d k ld)))
        (follow_bound A n mark (On N Λ l) (level_valid a n N h Λ Δ y l (omega arith)) (y.kernel l k) N (λ d o. o.0) (starts l)
        (λ d ld q.
        let X = is_mark n (mark (A (between (mark d)).0 d)) in
        let s = and_both (is_mark n (mark d)) (not X) (is l d k ld q) in
        let t = taken_is n h Λ Δ y.dimension l d s.0 in
        ((ld, omega arith), s.0, not-true X s.1)))

    -- all kernels below level l together: no more turns than darts gone from level l
    pub pyramid_turns : (l : ℕ) → l ≤ h → sum (turns_at starts) l ≤ removed_below N Λ l
    unfolding sum
    pyramid_turns zero k = omega arith
    pyramid_turns (suc l) k = omega (arith, pyramid_turns l (omega arith), level_turns l k, removed_suc Λ l N)

-- P4 with three of the square's vertices removed
abbrev square : List ℕ
square = 1 ∷ 0 ∷ 3 ∷ 2 ∷ 5 ∷ 4 ∷ 7 ∷ 6 ∷ 7 ∷ 2 ∷ 1 ∷ 4 ∷ 3 ∷ 6 ∷ 5 ∷ 0 ∷ []

abbrev vertices : ℕ → ℕ
vertices = each (1 ∷ 0 ∷ 0 ∷ 0 ∷ 0 ∷ 0 ∷ 0 ∷ 1 ∷ [])

-- the bound is reached: the one link is followed from both ends, by three turns from each, and the kernel has six darts
pub turns_reached : (turns_at (entry 8 square) 1 8 1 vertices vertices (starting (entry 8 square) 1 8 1 vertices vertices) 0 ≡ 6) × (removed_below 8 vertices 1 ≡ 6)
unfolding turns_at turns_from level sum count is_mark between
turns_reached = (refl, refl)
