-- The pyramid check accepts exactly the accepted pyramids. Assumes nothing.
use mathlib.Core.Path.{◌≡◌, refl, ap}
use mathlib.Core.Bool.{Bool, true, false, ◌&&◌, not, true≢false}
use Prim.Native.Nat.{ℕ, zero, suc, ◌+◌, ◌≤◌, ◌<◌}
use native.Mathlib.Omega.{arith}
use lib.Dec.{eqb, ltb}
use borrow.Author.Count.{below_more}
use borrow.Author.Tests.{ltb-true, lt-ltb, eqb-true, eqb-false, eq-eqb, ne_eqb, not-false}
use Rattle.maps.specs.Verdict.{accepted, refused, when, ◌then◌, scan}
use Rattle.maps.specs.Map.{Involutions, Valid}
use Rattle.maps.specs.Mark.{is_mark, widest, between, has_beyond, beyond}
use Rattle.maps.specs.Kernel.{Kernel, WholeCells}
use Rattle.maps.specs.Table.{absent}
use Rattle.maps.specs.Explicit.{Sound}
use Rattle.maps.specs.Folded.{On, refused_marks, marks, level}
use Rattle.maps.specs.Pyramid.{Pyramid}
use Rattle.maps.specs.Check.{strays, not_twice, not_commuting, at5, at6, at7, check5, check6, check7, check_map, leaves, differs, not_fitting, at9, at10, check9, check10, check_kernel, at8, check8, kernel_at, check_kernels, check_pyramid}
use Rattle.laws.proofs.Verdicts.{then_accepted, when_accepted, scan_accepted, scan_all, and_rest, and_both, and_false}
use Rattle.facts.proofs.Commuting.{kernel_commutes, commutes_kernel}
use Rattle.laws.proofs.MarkRows.{taken_is}
use Rattle.facts.proofs.Levels.{levels_valid, level_valid}

-- a test that is refused at no place
not_eq : (x y : ℕ) → x ≡ y → not (eqb x y) ≡ false
not_eq x y e = rw (eq-eqb x y e)

-- the check of a map: a valid map on the darts present, and nothing but 65,535 at the others
module _ (a : Involutions) (n N : ℕ) (present : ℕ → Bool) where
  pub map_sound : check_map a n N present ≡ accepted → Sound a n N present
  unfolding at5 at6 at7 check5 check6 check7 check_map
  map_sound e =
      let e₅ = then_accepted (check5 a n N present) (check6 a n N present then check7 a n N present) e in
      let e₆ = then_accepted (check6 a n N present) (check7 a n N present) e₅.1 in
      let five : (i d : ℕ) → i ≤ n → d < N → strays a N present i d ≡ false = λ i d li ld. when_accepted (strays a N present i d) 5 0 i d (scan_accepted N (at5 a N present i) (scan_accepted (suc n) (λ i. scan N (at5 a N present i)) e₅.0 i (omega arith)) d ld) in
      let six : (i d : ℕ) → i ≤ n → d < N → not_twice a present i d ≡ false = λ i d li ld. when_accepted (not_twice a present i d) 6 0 i d (scan_accepted N (at6 a present i) (scan_accepted (suc n) (λ i. scan N (at6 a present i)) e₆.0 i (omega arith)) d ld) in
      let seven : (i j d : ℕ) → i ≤ n → j ≤ n → d < N → not_commuting a present i j d ≡ false = λ i j d li lj ld. when_accepted (not_commuting a present i j d) 7 0 i d (scan_accepted N (at7 a present i j) (scan_accepted (suc n) (λ j. scan N (at7 a present i j)) (scan_accepted (suc n) (λ i. scan (suc n) (λ j. scan N (at7 a present i j))) e₆.1 i (omega arith)) j (omega arith)) d ld) in
      record {
        valid = record {
          inside = λ i d li p.
              let r = not-false (ltb (a i d) N && present (a i d)) (rw p.1 at (five i d li p.0)) in
              let w = and_both (ltb (a i d) N) (present (a i d)) r in
              (ltb-true (a i d) N w.0, w.1);
          twice = λ i d li p. eqb-true (a i (a i d)) d (not-false (eqb (a i (a i d)) d) (and_rest (present d) (not (eqb (a i (a i d)) d)) p.1 (six i d li p.0)));
          commute = λ i j d f lj p.
              let X = eqb (a j (a i d)) (a i (a j d)) in
              eqb-true (a j (a i d)) (a i (a j d)) (not-false X (and_rest (ltb (i + 1) j) (not X) (lt-ltb (i + 1) j (omega arith)) (and_rest (present d) (ltb (i + 1) j && not X) p.1 (seven i j d (omega arith) lj p.0))));
        };
        empty = λ i d li ld q. eqb-true (a i d) absent (not-false (eqb (a i d) absent) (rw q at (five i d li ld)));
      }

  pub sound_map : Sound a n N present → check_map a n N present ≡ accepted
  unfolding at5 at6 at7 check5 check6 check7 check_map
  sound_map s =
      let v = s.valid in
      let five : (i d : ℕ) → i ≤ n → d < N → strays a N present i d ≡ false = λ i d li ld. five_at s i d li ld (present d) refl in
      let six : (i d : ℕ) → i ≤ n → d < N → not_twice a present i d ≡ false = λ i d li ld. and_false (present d) (not (eqb (a i (a i d)) d)) (λ p. not_eq (a i (a i d)) d (v.twice i d li (ld, p))) in
      let seven : (i j d : ℕ) → i ≤ n → j ≤ n → d < N → not_commuting a present i j d ≡ false = λ i j d li lj ld.
      and_false (present d) (ltb (i + 1) j && not (eqb (a j (a i d)) (a i (a j d)))) (λ p. and_false (ltb (i + 1) j) (not (eqb (a j (a i d)) (a i (a j d)))) (λ f. not_eq (a j (a i d)) (a i (a j d)) (v.commute i j d (omega (arith, ltb-true (i + 1) j f)) lj (ld, p)))) in
      rw (
        scan_all (suc n) (λ i. scan N (at5 a N present i)) (λ i li. scan_all N (at5 a N present i) (λ d ld. ap (λ (t : Bool). when t (refused 5 0 i d)) (five i d (omega arith) ld))),
        scan_all (suc n) (λ i. scan N (at6 a present i)) (λ i li. scan_all N (at6 a present i) (λ d ld. ap (λ (t : Bool). when t (refused 6 0 i d)) (six i d (omega arith) ld))),
        scan_all (suc n) (λ i. scan (suc n) (λ j. scan N (at7 a present i j))) (λ i li. scan_all (suc n) (λ j. scan N (at7 a present i j)) (λ j lj.
            scan_all N (at7 a present i j) (λ d ld. ap (λ (t : Bool). when t (refused 7 0 i d)) (seven i j d (omega arith) (omega arith) ld)))),
      )
    where
      five_at : Sound a n N present → (i d : ℕ) → i ≤ n → d < N → (x : Bool) → present d ≡ x → strays a N present i d ≡ false
      five_at s i d li ld true q = let w = s.valid.inside i d li (ld, q) in rw (q, lt-ltb (a i d) N w.0, w.1)
      five_at s i d li ld false q = rw q (not_eq (a i d) absent (s.empty i d li ld q))

-- number 9 tests whole cells
pub check9_whole : (a : Involutions) (n N : ℕ) (mark : ℕ → ℕ) (l : ℕ) (present : ℕ → Type 0) → ((d : ℕ) → present d → d < N) → check9 a n N mark l ≡ accepted → WholeCells a n present mark
unfolding at9 check9
check9_whole a n N mark l present bound e d j p q lj ne =
    let x = when_accepted (leaves a n mark d j) 9 l j d (scan_accepted (suc n) (at9 a n mark l d) (scan_accepted N (λ d. scan (suc n) (at9 a n mark l d)) e d (bound d p)) j (omega arith)) in
    let X = eqb (mark (a j d)) (mark d) in
    let r = and_rest (is_mark n (mark d)) (not (eqb j (between (mark d)).0) && not X) q x in
    eqb-true (mark (a j d)) (mark d) (not-false X (and_rest (not (eqb j (between (mark d)).0)) (not X) (rw (ne_eqb j (between (mark d)).0 ne)) r))

-- the check of a kernel
module _ (a : Involutions) (n N : ℕ) (mark : ℕ → ℕ) (l : ℕ) (present : ℕ → Type 0) (v : Valid a n present) (bound : (d : ℕ) → present d → d < N) where
  pub kernel_sound : check_kernel a n N mark l ≡ accepted → Kernel a n present mark
  unfolding at9 at10 check9 check10 check_kernel
  kernel_sound e =
      let e₉ = then_accepted (check9 a n N mark l) (check10 a n N mark l) e in
      let ten : (d : ℕ) → d < N → not_fitting a n mark d ≡ false = λ d ld. when_accepted (not_fitting a n mark d) 10 l (between (mark d)).1 d (scan_accepted N (at10 a n mark l) e₉.1 d ld) in
      let whole = check9_whole a n N mark l present bound e₉.0 in
      commutes_kernel a n present mark v.inside whole (λ d p q h.
      let X = a (beyond (mark d)) (a (between (mark d)).1 d) in
      let Y = a (between (mark d)).1 (a (beyond (mark d)) d) in
      let s = and_rest (is_mark n (mark d)) (has_beyond n (mark d) && differs a mark d) q (ten d (bound d p)) in
      eqb-true X Y (not-false (eqb X Y) (and_rest (has_beyond n (mark d)) (differs a mark d) h s)))

  pub sound_kernel : ((d : ℕ) → d < N → is_mark n (mark d) ≡ true → present d) → Kernel a n present mark → check_kernel a n N mark l ≡ accepted
  unfolding at9 at10 check9 check10 check_kernel
  sound_kernel marked k =
      let nine : (d j : ℕ) → d < N → j ≤ n → leaves a n mark d j ≡ false = λ d j ld lj.
      and_false (is_mark n (mark d)) (not (eqb j (between (mark d)).0) && not (eqb (mark (a j d)) (mark d))) (λ q. leaves_at d j ld lj q (eqb j (between (mark d)).0) refl marked k) in
      let ten : (d : ℕ) → d < N → not_fitting a n mark d ≡ false = λ d ld.
      and_false (is_mark n (mark d)) (has_beyond n (mark d) && differs a mark d) (λ q. and_false (has_beyond n (mark d)) (differs a mark d) (λ h.
      not_eq (a (beyond (mark d)) (a (between (mark d)).1 d)) (a (between (mark d)).1 (a (beyond (mark d)) d)) (kernel_commutes a n present mark k d (marked d ld q) q h))) in
      rw (
        scan_all N (λ d. scan (suc n) (at9 a n mark l d)) (λ d ld. scan_all (suc n) (at9 a n mark l d) (λ j lj. ap (λ (t : Bool). when t (refused 9 l j d)) (nine d j ld (omega arith)))),
        scan_all N (at10 a n mark l) (λ d ld. ap (λ (t : Bool). when t (refused 10 l (between (mark d)).1 d)) (ten d ld)),
      )
    where
      leaves_at : (d j : ℕ) → d < N → j ≤ n → is_mark n (mark d) ≡ true → (x : Bool) → eqb j (between (mark d)).0 ≡ x → ((d : ℕ) → d < N → is_mark n (mark d) ≡ true → present d) → Kernel a n present mark → (not (eqb j (between (mark d)).0) && not (eqb (mark (a j d)) (mark d))) ≡ false
      leaves_at d j ld lj q true e marked k = rw e
      leaves_at d j ld lj q false e marked k = rw e (not_eq (mark (a j d)) (mark d) (k.whole d j (marked d ld q) q lj (eqb-false j (between (mark d)).0 e)))

-- the whole pyramid
module _ (a : Involutions) (n N h : ℕ) (Λ Δ : ℕ → ℕ) (ln : n ≤ widest) where
  pub base_valid : Valid a n (λ d. d < N) → Sound a n N (λ d. true)
  base_valid v = record {
    valid = record { inside = λ i d li p. (v.inside i d li p.0, refl); twice = λ i d li p. v.twice i d li p.0; commute = λ i j d f lj p. v.commute i j d f lj p.0 };
    empty = λ i d li ld q. absurd (true≢false q);
  }

  pub valid_base : Sound a n N (λ d. true) → Valid a n (λ d. d < N)
  valid_base s = record { inside = λ i d li p. (s.valid.inside i d li (p, refl)).0; twice = λ i d li p. s.valid.twice i d li (p, refl); commute = λ i j d f lj p. s.valid.commute i j d f lj (p, refl) }

  marked_on : (l d : ℕ) → d < N → is_mark n (marks h Λ Δ l d) ≡ true → On N Λ l d
  marked_on l d ld q = let t = taken_is n h Λ Δ ln l d q in (ld, omega arith)

  module _ (base : Valid a n (λ d. d < N)) (allowed : (d : ℕ) → d < N → refused_marks n h (Λ d) (Δ d) ≡ false)
      (top : ℕ) (lt : top ≤ h) (checked : scan top (kernel_at a n N h Λ Δ) ≡ accepted) where
    -- what the kernels' check accepts are kernels: each is tested on its own level, which those below it leave valid
    pub checked_below : (k : ℕ) → k ≤ top → (l : ℕ) → l < k → Kernel (level a n N (marks h Λ Δ) l) n (On N Λ l) (marks h Λ Δ l)
    unfolding kernel_at
    checked_below zero z l f = absurd (omega arith)
    checked_below (suc k) z l f =
        let r = checked_below k (omega arith) in
        let v = levels_valid a n N h Λ Δ ln allowed base k (omega arith) r k (omega arith) in
        below_more (λ l. Kernel (level a n N (marks h Λ Δ) l) n (On N Λ l) (marks h Λ Δ l)) k r
        (kernel_sound (level a n N (marks h Λ Δ) k) n N (marks h Λ Δ k) k (On N Λ k) v (λ d o. o.0) (scan_accepted top (kernel_at a n N h Λ Δ) checked k z)) l (omega arith)

    -- all of them
    pub checked_kernels : (l : ℕ) → l < top → Kernel (level a n N (marks h Λ Δ) l) n (On N Λ l) (marks h Λ Δ l)
    checked_kernels = checked_below top (omega arith)

    -- and the level above them is valid
    pub checked_valid : Valid (level a n N (marks h Λ Δ) top) n (On N Λ top)
    checked_valid = levels_valid a n N h Λ Δ ln allowed base top lt checked_kernels top (omega arith)

  -- what the check accepts is an accepted pyramid
  pub check_pyramid_lem : check_pyramid a n N h Λ Δ ≡ accepted → Pyramid a n N h Λ Δ
  unfolding at8 check8 kernel_at check_kernels check_pyramid
  check_pyramid_lem e =
      let e₁ = then_accepted (check_map a n N (λ d. true)) (check8 n N h Λ Δ then check_kernels a n N h Λ Δ) e in
      let e₂ = then_accepted (check8 n N h Λ Δ) (check_kernels a n N h Λ Δ) e₁.1 in
      let base = valid_base (map_sound a n N (λ d. true) e₁.0) in
      let allowed : (d : ℕ) → d < N → refused_marks n h (Λ d) (Δ d) ≡ false = λ d ld. when_accepted (refused_marks n h (Λ d) (Δ d)) 8 0 0 d (scan_accepted N (at8 n h Λ Δ) e₂.0 d ld) in
      record { dimension = ln; base = base; allowed = allowed; kernel = checked_kernels base allowed h (omega arith) e₂.1 }

  -- and an accepted pyramid is accepted by the check
  pub pyramid_check : Pyramid a n N h Λ Δ → check_pyramid a n N h Λ Δ ≡ accepted
  unfolding at8 check8 kernel_at check_kernels check_pyramid
  pyramid_check y =
      rw (
        sound_map a n N (λ d. true) (base_valid y.base),
        scan_all N (at8 n h Λ Δ) (λ d ld. ap (λ (t : Bool). when t (refused 8 0 0 d)) (y.allowed d ld)),
        scan_all h (kernel_at a n N h Λ Δ) (λ l f.
            sound_kernel (level a n N (marks h Λ Δ) l) n N (marks h Λ Δ l) l (On N Λ l) (level_valid a n N h Λ Δ y l (omega arith)) (λ d o. o.0) (marked_on l) (y.kernel l f)),
      )
