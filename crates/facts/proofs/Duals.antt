-- Duality: the rows in the other order, removed cells as contracted ones and contracted ones as removed. Assumes nothing.
use mathlib.Core.Path.{◌≡◌, refl, sym, ap, ◌∙◌}
use mathlib.Core.Bool.{Bool, true, false, cond}
use Prim.Native.Nat.{ℕ, zero, suc, ◌+◌, ◌-◌, ◌*◌, ◌≤◌, ◌<◌}
use native.Mathlib.Omega.{arith}
use lib.Dec.{eqb, ltb}
use borrow.Author.Tests.{eqb-true, eqb-false, eq-eqb, ne_eqb, ltb-true, ltb-false, lt-ltb, le-ltb}
use Rattle.maps.specs.Count.{sum}
use Rattle.maps.specs.Map.{Involutions, Valid}
use Rattle.maps.specs.Mark.{is_mark, contracts, stay, widest, between, has_beyond, beyond, can_pass, across}
use Rattle.maps.specs.Kernel.{Kernel}
use Rattle.maps.specs.Removal.{go_on, removal}
use Rattle.maps.specs.Folded.{On, gone, survives, refused_marks, marks, level}
use Rattle.maps.specs.Walk.{Walked, ended, stopped, count_of, walk_from, walk}
use Rattle.maps.specs.Cost.{reads, cost}
use Rattle.maps.specs.Pyramid.{Pyramid}
use Rattle.laws.proofs.Counting.{sum_same, sum_reverse}
use Rattle.laws.proofs.Marks.{Kind, removes, shrinks, kind, is_removal, is_contraction, removed_rows, contracted_rows, stay_none, mark_rows, same_mark, beyond_row}
use Rattle.facts.proofs.Commuting.{kernel_commutes, commutes_kernel}
use Rattle.laws.proofs.MarkRows.{allowed_small}
use Rattle.facts.proofs.Levels.{level_valid}
use Rattle.facts.proofs.Agreement.{kernel_same}

-- a_i becomes a_(n−i)
abbrev pub dual : ℕ → Involutions → Involutions
dual n a i d = a (n - i) d

-- removed with dimension δ becomes contracted with dimension n−δ, and contracted with δ becomes removed with n−δ; what is no mark stays
unfoldable pub dual_mark : ℕ → ℕ → ℕ
dual_mark n mark = cond (is_mark n mark) (cond (contracts mark) (n - (mark - 8)) (8 + (n - mark))) mark

-- the rows of the mark m are those of the mark, in the other order
pub record Mirrors (n mark m : ℕ) : Type 0 where
  pub is_mark_lem : is_mark n m ≡ true
  pub first : (between m).0 ≡ n - (between mark).0
  pub second : (between m).1 ≡ n - (between mark).1
  pub has : has_beyond n m ≡ has_beyond n mark
  pub third : has_beyond n mark ≡ true → beyond m ≡ n - beyond mark

-- two tests that hold together
same_test : (x y u w : ℕ) → (x < y → u < w) → (u < w → x < y) → ltb x y ≡ ltb u w
same_test x y u w f g = go (ltb x y) refl (ltb u w) refl
  where
    go : (p : Bool) → ltb x y ≡ p → (q : Bool) → ltb u w ≡ q → ltb x y ≡ ltb u w
    go true p true q = p ∙ sym q
    go false p false q = p ∙ sym q
    go true p false q = absurd (omega (arith, f (ltb-true x y p), ltb-false u w q))
    go false p true q = absurd (omega (arith, g (ltb-true u w q), ltb-false x y p))

module _ (n : ℕ) (ln : n ≤ widest) where
  pub mirrors : (mark : ℕ) → is_mark n mark ≡ true → Mirrors n mark (dual_mark n mark)
  unfolding dual_mark
  mirrors mark q = go (kind n mark q)
    where
      go : Kind n mark → Mirrors n mark (dual_mark n mark)
      go (removes e l) =
          let m = 8 + (n - mark) in
          let w : dual_mark n mark ≡ m = rw (q, e) in
          let r = removed_rows n mark e in
          let c = contracted_rows n m (lt-ltb 8 m (omega arith)) in
          rw w (record {
            is_mark_lem = is_contraction n m (omega arith) (omega arith);
            first = rw (r.0, c.0) (omega arith);
            second = rw (r.0, c.0) (omega arith);
            has = rw (r.1, c.1) (same_test 1 (m - 8) (mark + 1) n (λ x. omega arith) (λ x. omega arith));
            third = λ h. rw (r.2, c.2) (omega arith);
          })
      go (shrinks e l u) =
          let m = n - (mark - 8) in
          let w : dual_mark n mark ≡ m = rw (q, e) in
          let r = removed_rows n m (le-ltb 8 m (omega arith)) in
          let c = contracted_rows n mark e in
          rw w (record {
            is_mark_lem = is_removal n m (omega arith);
            first = rw (r.0, c.0) (omega arith);
            second = rw (r.0, c.0) (omega arith);
            has = rw (r.1, c.1) (same_test (m + 1) n 1 (mark - 8) (λ x. omega arith) (λ x. omega arith));
            third = λ h. let f = ltb-true 1 (mark - 8) (sym c.1 ∙ h) in rw (r.2, c.2) (omega arith);
          })

  pub dual_is : (mark : ℕ) → is_mark n (dual_mark n mark) ≡ is_mark n mark
  unfolding dual_mark
  dual_is mark = go (is_mark n mark) refl
    where
      go : (x : Bool) → is_mark n mark ≡ x → is_mark n (dual_mark n mark) ≡ is_mark n mark
      go true q = (mirrors mark q).is_mark_lem ∙ sym q
      go false q = ap (is_mark n) (rw q)

  pub dual_stays : (mark : ℕ) → is_mark n mark ≡ false → dual_mark n mark ≡ mark
  unfolding dual_mark
  dual_stays mark q = rw q

  -- the dual of the dual is the mark
  pub dual_twice : (mark : ℕ) → dual_mark n (dual_mark n mark) ≡ mark
  dual_twice mark = go (is_mark n mark) refl
    where
      go : (x : Bool) → is_mark n mark ≡ x → dual_mark n (dual_mark n mark) ≡ mark
      go true q =
          let m = mirrors mark q in
          let w = mirrors (dual_mark n mark) m.is_mark_lem in
          let r = mark_rows n mark q in
          same_mark (dual_mark n (dual_mark n mark)) mark (omega (arith, w.first, m.first, r.first)) (omega (arith, w.second, m.second, r.second))
      go false q = ap (dual_mark n) (dual_stays mark q) ∙ dual_stays mark q

  pub dual_equal : (x y : ℕ) → eqb (dual_mark n x) (dual_mark n y) ≡ eqb x y
  dual_equal x y = go (eqb x y) refl
    where
      go : (b : Bool) → eqb x y ≡ b → eqb (dual_mark n x) (dual_mark n y) ≡ eqb x y
      go true q = eq-eqb (dual_mark n x) (dual_mark n y) (ap (dual_mark n) (eqb-true x y q)) ∙ sym q
      go false q = ne_eqb (dual_mark n x) (dual_mark n y) (λ e. eqb-false x y q (sym (dual_twice x) ∙ ap (dual_mark n) e ∙ dual_twice y)) ∙ sym q

  -- a walk's turn, mirrored
  mirror_test : (x t : ℕ) → x ≤ n → t ≤ n → eqb t (n - x) ≡ eqb (n - t) x
  mirror_test x t lx lt = go (eqb (n - t) x) refl
    where
      go : (b : Bool) → eqb (n - t) x ≡ b → eqb t (n - x) ≡ eqb (n - t) x
      go true q = let e = eqb-true (n - t) x q in eq-eqb t (n - x) (omega arith) ∙ sym q
      go false q = let ne = eqb-false (n - t) x q in ne_eqb t (n - x) (λ e. ne (omega arith)) ∙ sym q

  pub first_test : (mark t : ℕ) → is_mark n mark ≡ true → t ≤ n → eqb (between (dual_mark n mark)).0 t ≡ eqb (between mark).0 (n - t)
  first_test mark t q lt = rw (mirrors mark q).first (go (eqb (between mark).0 (n - t)) refl)
    where
      go : (b : Bool) → eqb (between mark).0 (n - t) ≡ b → eqb (n - (between mark).0) t ≡ eqb (between mark).0 (n - t)
      go true r = let e = eqb-true (between mark).0 (n - t) r in eq-eqb (n - (between mark).0) t (omega arith) ∙ sym r
      go false r = let ne = eqb-false (between mark).0 (n - t) r in ne_eqb (n - (between mark).0) t (λ e. ne (omega (arith, (mark_rows n mark q).first))) ∙ sym r

  pub dual_passes : (mark t : ℕ) → is_mark n mark ≡ true → t ≤ n → can_pass (dual_mark n mark) t ≡ can_pass mark (n - t)
  dual_passes mark t q lt =
      let m = mirrors mark q in
      let r = mark_rows n mark q in
      rw (m.first, m.second, mirror_test (between mark).0 t r.first lt, mirror_test (between mark).1 t r.second lt)

  pub dual_across : (mark t : ℕ) → is_mark n mark ≡ true → t ≤ n → (across mark (n - t) ≤ n) × (across (dual_mark n mark) t ≡ n - across mark (n - t))
  dual_across mark t q lt =
      let m = mirrors mark q in
      let r = mark_rows n mark q in
      rw (m.first, m.second, mirror_test (between mark).0 t r.first lt) (go (eqb (n - t) (between mark).0))
    where
      go : (x : Bool) → (cond x (between mark).1 (between mark).0 ≤ n) × (cond x (n - (between mark).1) (n - (between mark).0) ≡ n - cond x (between mark).1 (between mark).0)
      go true = ((mark_rows n mark q).second, refl)
      go false = ((mark_rows n mark q).first, refl)

  -- a valid map's dual is valid
  pub dual_valid : (a : Involutions) (present : ℕ → Type 0) → Valid a n present → Valid (dual n a) n present
  dual_valid a present v = record {
    inside = λ i d li p. v.inside (n - i) d (omega arith) p;
    twice = λ i d li p. v.twice (n - i) d (omega arith) p;
    commute = λ i j d f lj p. sym (v.commute (n - j) (n - i) d (omega arith) (omega arith) p);
  }

  -- a kernel's dual is a kernel of the dual
  pub dual_kernel : (a : Involutions) (present : ℕ → Type 0) (mark : ℕ → ℕ) → Valid a n present → Kernel a n present mark → Kernel (dual n a) n present (λ d. dual_mark n (mark d))
  dual_kernel a present mark v k =
      commutes_kernel (dual n a) n present (λ d. dual_mark n (mark d)) (λ t d lt p. v.inside (n - t) d (omega arith) p)
      (λ d j p q' lj ne.
      let q = sym (dual_is (mark d)) ∙ q' in
      let m = mirrors (mark d) q in
      ap (dual_mark n) (k.whole d (n - j) p q (omega arith) (λ e. ne (omega (arith, m.first)))))
      (λ d p q' h'.
      let q = sym (dual_is (mark d)) ∙ q' in
      let m = mirrors (mark d) q in
      let h : has_beyond n (mark d) ≡ true = sym m.has ∙ h' in
      let e₁ : n - (between (dual_mark n (mark d))).1 ≡ (between (mark d)).1 = omega (arith, m.second, (mark_rows n (mark d) q).second) in
      let e₂ : n - beyond (dual_mark n (mark d)) ≡ beyond (mark d) = omega (arith, m.third h, (beyond_row n (mark d) q h).0) in
      rw (e₁, e₂) (kernel_commutes a n present mark k d p q h))

  -- a table with the rows of a in the other order, and the dual marks: the removal has its rows in the other order
  module _ (a a' : Involutions) (mark mark' : ℕ → ℕ) (mirror : (i d : ℕ) → i ≤ n → a' i d ≡ a (n - i) d) (marked : (d : ℕ) → mark' d ≡ dual_mark n (mark d)) where
    go_on_dual : (times i d : ℕ) → i ≤ n → go_on a' n mark' times i d ≡ go_on a n mark times (n - i) d
    unfolding go_on
    go_on_dual zero i d li = refl
    go_on_dual (suc times) i d li = go (is_mark n (mark d)) refl (eqb (between (mark d)).0 (n - i)) refl (λ e. go_on_dual times i e li)
      where
        go : (x : Bool) → is_mark n (mark d) ≡ x → (y : Bool) → eqb (between (mark d)).0 (n - i) ≡ y → ((e : ℕ) → go_on a' n mark' times i e ≡ go_on a n mark times (n - i) e) → go_on a' n mark' (suc times) i d ≡ go_on a n mark (suc times) (n - i) d
        go false q y r ih = rw (marked d, dual_is (mark d), q, go_on)
        go true q false r ih = rw (marked d, dual_is (mark d), q, first_test (mark d) i q li, r, go_on)
        go true q true r ih =
            let m = mirrors (mark d) q in
            let l = (mark_rows n (mark d) q).second in
            let u = (between (dual_mark n (mark d))).1 in
            let e : n - u ≡ (between (mark d)).1 = omega (arith, m.second) in
            let s : a' i (a' u d) ≡ a (n - i) (a (between (mark d)).1 d) = mirror i (a' u d) li ∙ ap (a (n - i)) (mirror u d (omega (arith, m.second)) ∙ ap (λ (x : ℕ). a x d) e) in
            rw (marked d, dual_is (mark d), q, first_test (mark d) i q li, r, go_on, marked d, s) (ih (a (n - i) (a (between (mark d)).1 d)))

    pub removal_dual : (N i b : ℕ) → i ≤ n → removal a' n mark' N i b ≡ removal a n mark N (n - i) b
    unfolding removal
    removal_dual N i b li = go_on_dual N i (a' i b) li ∙ ap (go_on a n mark N (n - i)) (mirror i b li)

  -- the levels of the dual are the duals of the levels
  pub level_dual : (a : Involutions) (N : ℕ) (kernels kernels' : ℕ → ℕ → ℕ) → ((l d : ℕ) → kernels' l d ≡ dual_mark n (kernels l d)) → (l i d : ℕ) → i ≤ n → level (dual n a) n N kernels' l i d ≡ level a n N kernels l (n - i) d
  unfolding level
  level_dual a N kernels kernels' same zero i d li = refl
  level_dual a N kernels kernels' same (suc l) i d li =
      removal_dual (level a n N kernels l) (level (dual n a) n N kernels' l) (kernels l) (kernels' l) (level_dual a N kernels kernels' same l) (same l) N i d li

-- The dual of a folded form: Λ stays; a dart never removed keeps its Δ, which is n.
abbrev pub dualΔ : ℕ → ℕ → (ℕ → ℕ) → (ℕ → ℕ) → ℕ → ℕ
dualΔ n h Λ Δ d = cond (ltb (Λ d) h) (dual_mark n (Δ d)) (Δ d)

-- a walk that reads the rows in the other order, to the same dart with the same count
abbrev pub dual_walked : ℕ → Walked → Walked
dual_walked n (ended row dart count) = ended (n - row) dart count
dual_walked n (stopped number row dart) = stopped number (n - row) dart

module _ (n N h : ℕ) (Λ Δ : ℕ → ℕ) (ln : n ≤ widest) where
  abbrev Δ' : ℕ → ℕ
  Δ' = dualΔ n h Λ Δ

  pub marks_dual : (l d : ℕ) → marks h Λ Δ' l d ≡ dual_mark n (marks h Λ Δ l d)
  marks_dual l d = go (ltb l h) refl (eqb (Λ d) l) refl
    where
      go : (x : Bool) → ltb l h ≡ x → (y : Bool) → eqb (Λ d) l ≡ y → marks h Λ Δ' l d ≡ dual_mark n (marks h Λ Δ l d)
      go false e y f = rw e (sym (dual_stays n ln stay (stay_none n ln)))
      go true e false f = rw (e, f) (sym (dual_stays n ln stay (stay_none n ln)))
      go true e true f = let z = eqb-true (Λ d) l f in let k = ltb-true l h e in rw (e, f, lt-ltb (Λ d) h (omega arith))

  pub dual_refused : (d : ℕ) → refused_marks n h (Λ d) (Δ' d) ≡ refused_marks n h (Λ d) (Δ d)
  dual_refused d = go (ltb (Λ d) h) refl
    where
      go : (x : Bool) → ltb (Λ d) h ≡ x → refused_marks n h (Λ d) (Δ' d) ≡ refused_marks n h (Λ d) (Δ d)
      go true e = rw (e, dual_is n ln (Δ d))
      go false e = rw e

  -- On any tables, at a level up to h, the walk of the dual is the dual of the walk, with the same count.
  module _ (a : Involutions) (l i b : ℕ) (k : l ≤ h) (li : i ≤ n) where
    walk_from_dual : (f t d c : ℕ) → t ≤ n → walk_from (dual n a) n N h Λ Δ' l i b f t d c ≡ dual_walked n (walk_from a n N h Λ Δ l (n - i) b f (n - t) d c)
    unfolding walk_from
    walk_from_dual zero t d c lt = let e : n - (n - i) ≡ i = omega arith in rw e
    walk_from_dual (suc f) t d c lt = go (ltb (a (n - t) d) N) refl (refused_marks n h (Λ (a (n - t) d)) (Δ (a (n - t) d))) refl (gone Λ l (a (n - t) d)) refl (can_pass (Δ (a (n - t) d)) (n - t)) refl (λ u. walk_from_dual f u (a (n - t) d) (suc c))
      where
        back : n - (n - t) ≡ t
        back = omega arith

        go : (v : Bool) → ltb (a (n - t) d) N ≡ v → (w : Bool) → refused_marks n h (Λ (a (n - t) d)) (Δ (a (n - t) d)) ≡ w → (x : Bool) → gone Λ l (a (n - t) d) ≡ x → (z : Bool) → can_pass (Δ (a (n - t) d)) (n - t) ≡ z
            → ((u : ℕ) → u ≤ n → walk_from (dual n a) n N h Λ Δ' l i b f u (a (n - t) d) (suc c) ≡ dual_walked n (walk_from a n N h Λ Δ l (n - i) b f (n - u) (a (n - t) d) (suc c)))
            → walk_from (dual n a) n N h Λ Δ' l i b (suc f) t d c ≡ dual_walked n (walk_from a n N h Λ Δ l (n - i) b (suc f) (n - t) d c)
        go false o w p x q z m ih = rw (o, walk_from, back)
        go true o true p x q z m ih = rw (o, dual_refused (a (n - t) d), p, walk_from, back)
        go true o false p false q z m ih = rw (o, dual_refused (a (n - t) d), p, q, walk_from, back)
        go true o false p true q z m ih = passed z m
          where
            less : Λ (a (n - t) d) < h
            less = omega (arith, ltb-true (Λ (a (n - t) d)) l q)

            mark : is_mark n (Δ (a (n - t) d)) ≡ true
            mark = allowed_small n h Λ Δ (a (n - t) d) p less

            is : Δ' (a (n - t) d) ≡ dual_mark n (Δ (a (n - t) d))
            is = rw (lt-ltb (Λ (a (n - t) d)) h less)

            turned : (across (Δ (a (n - t) d)) (n - t) ≤ n) × (across (dual_mark n (Δ (a (n - t) d))) t ≡ n - across (Δ (a (n - t) d)) (n - t))
            turned = dual_across n ln (Δ (a (n - t) d)) t mark lt

            passed : (z : Bool) → can_pass (Δ (a (n - t) d)) (n - t) ≡ z → walk_from (dual n a) n N h Λ Δ' l i b (suc f) t d c ≡ dual_walked n (walk_from a n N h Λ Δ l (n - i) b (suc f) (n - t) d c)
            passed false m = rw (o, dual_refused (a (n - t) d), p, q, is, dual_passes n ln (Δ (a (n - t) d)) t mark lt, m, walk_from, back)
            passed true m =
                let r = ih (n - across (Δ (a (n - t) d)) (n - t)) (omega arith) in
                let s : n - (n - across (Δ (a (n - t) d)) (n - t)) ≡ across (Δ (a (n - t) d)) (n - t) = omega (arith, turned.0) in
                rw (o, dual_refused (a (n - t) d), p, q, is, dual_passes n ln (Δ (a (n - t) d)) t mark lt, m, walk_from, is, turned.1) (rw s at r)

    pub walk_dual : walk (dual n a) n N h Λ Δ' l i b ≡ dual_walked n (walk a n N h Λ Δ l (n - i) b)
    unfolding walk
    walk_dual = walk_from_dual (1 + 2 * N) i b 0 li

    -- with the same count
    pub reads_dual : reads (dual n a) n N h Λ Δ' l i b ≡ reads a n N h Λ Δ l (n - i) b
    unfolding reads
    reads_dual = rw walk_dual (go (survives Λ l b) (walk a n N h Λ Δ l (n - i) b))
      where
        go : (x : Bool) (w : Walked) → cond x (count_of (dual_walked n w)) 0 ≡ cond x (count_of w) 0
        go x (ended row dart count) = refl
        go x (stopped number row dart) = refl

  pub cost_dual : (a : Involutions) (l : ℕ) → l ≤ h → cost (dual n a) n N h Λ Δ' l ≡ cost a n N h Λ Δ l
  unfolding cost
  cost_dual a l k =
      sum_same (λ i. sum (λ b. reads (dual n a) n N h Λ Δ' l i b) N) (λ i. sum (λ b. reads a n N h Λ Δ l (n - i) b) N) (suc n)
      (λ i li. sum_same (λ b. reads (dual n a) n N h Λ Δ' l i b) (λ b. reads a n N h Λ Δ l (n - i) b) N (λ b lb. reads_dual a l i b k (omega arith)))
      ∙ sum_reverse (λ i. sum (λ b. reads a n N h Λ Δ l i b) N) n

module _ (a : Involutions) (n N h : ℕ) (Λ Δ : ℕ → ℕ) (y : Pyramid a n N h Λ Δ) where
  pub levels_dual : (l i d : ℕ) → i ≤ n → level (dual n a) n N (marks h Λ (dualΔ n h Λ Δ)) l i d ≡ level a n N (marks h Λ Δ) l (n - i) d
  levels_dual = level_dual n y.dimension a N (marks h Λ Δ) (marks h Λ (dualΔ n h Λ Δ)) (marks_dual n N h Λ Δ y.dimension)

  -- the dual of an accepted pyramid is an accepted pyramid
  pub pyramid_dual : Pyramid (dual n a) n N h Λ (dualΔ n h Λ Δ)
  pyramid_dual = record {
    dimension = y.dimension;
    base = dual_valid n y.dimension a (λ d. d < N) y.base;
    allowed = λ d ld. dual_refused n N h Λ Δ y.dimension d ∙ y.allowed d ld;
    kernel = λ l k.
        let A = level a n N (marks h Λ Δ) l in
        let v = level_valid a n N h Λ Δ y l (omega arith) in
        kernel_same (dual n A) (level (dual n a) n N (marks h Λ (dualΔ n h Λ Δ)) l) n (On N Λ l) (On N Λ l) (λ d. dual_mark n (marks h Λ Δ l d)) (marks h Λ (dualΔ n h Λ Δ) l) (dual_valid n y.dimension A (On N Λ l) v)
        (dual_kernel n y.dimension A (On N Λ l) (marks h Λ Δ l) v (y.kernel l k)) (λ t d lt o. sym (levels_dual l t d lt)) (λ d o. sym (marks_dual n N h Λ Δ y.dimension l d)) (λ d o. o);
  }
