-- Kernels l and l+1 of an accepted pyramid joined: the levels up to l stay, those from l+2 upward are the same maps under their new numbers. Assumes nothing.
use mathlib.Core.Path.{◌≡◌, refl, sym, ap, ◌∙◌, fun_ext}
use mathlib.Core.Bool.{Bool, true, false, not}
use Prim.Native.Nat.{ℕ, zero, suc, ◌≤◌, ◌<◌}
use native.Mathlib.Omega.{arith}
use lib.Dec.{ltb}
use borrow.Author.Tests.{ltb-true, ltb-false, lt-ltb, le-ltb, not-true}
use Rattle.maps.specs.Verdict.{accepted}
use Rattle.maps.specs.Map.{Involutions}
use Rattle.maps.specs.Mark.{is_mark, between}
use Rattle.maps.specs.Kernel.{Kernel, WholeCells}
use Rattle.maps.specs.Removal.{removal}
use Rattle.maps.specs.Table.{explicit}
use Rattle.maps.specs.Folded.{On, survives, refused_marks, marks, level, level_table}
use Rattle.maps.specs.Pyramid.{Pyramid}
use Rattle.maps.specs.Check.{check9, check_kernel}
use Rattle.laws.proofs.Tables.{explicit_same}
use Rattle.laws.proofs.MarkRows.{taken, taken_is}
use Rattle.facts.proofs.Levels.{low, high, taken_in, pyramid_tower, level_floor, level_valid}
use Rattle.facts.proofs.Agreement.{kernel_same}
use Rattle.facts.proofs.Adding.{Allowed, removed, never, allowed_cases, cases_allowed}
use Rattle.facts.proofs.Checks.{check9_whole, sound_kernel}
use Rattle.maps.specs.Join.{joinΛ}
use Rattle.facts.proofs.Splits.{Whole}
use Rattle.facts.proofs.Towers.{in_kernel, floor, Tower}
use Rattle.facts.proofs.TowerJoins.{Falls, stays, falls, falls_at, kernel_lower, on_lower, on_upper, on_raised, on_kept, tower_joins}
use Rattle.facts.proofs.Pyramids.{tower_pyramid}

-- the survivors and the marks under a join
module _ (n h : ℕ) (Λ Δ : ℕ → ℕ) (l : ℕ) where
  -- up to l the same darts survive
  survives_lower : (k d : ℕ) → k ≤ l → survives Λ k d ≡ survives (joinΛ l Λ) k d
  survives_lower k d z = go (falls_at l Λ d)
    where
      go : Falls l (Λ d) (joinΛ l Λ d) → survives Λ k d ≡ survives (joinΛ l Λ) k d
      go (stays f g) = ap (λ (x : ℕ). not (ltb x k)) (sym g)
      go (falls f g) = ap not (le-ltb (Λ d) k (omega arith) ∙ sym (le-ltb (joinΛ l Λ d) k (omega arith)))

  -- above l they are those of one level higher
  survives_upper : (k d : ℕ) → l < k → survives Λ (suc k) d ≡ survives (joinΛ l Λ) k d
  survives_upper k d z = go (falls_at l Λ d) (ltb (joinΛ l Λ d) k) refl
    where
      go : Falls l (Λ d) (joinΛ l Λ d) → (x : Bool) → ltb (joinΛ l Λ d) k ≡ x → survives Λ (suc k) d ≡ survives (joinΛ l Λ) k d
      go (stays f g) x e = ap not (lt-ltb (Λ d) (suc k) (omega arith) ∙ sym (lt-ltb (joinΛ l Λ d) k (omega arith)))
      go (falls f g) true e = let r = ltb-true (joinΛ l Λ d) k e in ap not (lt-ltb (Λ d) (suc k) (omega arith) ∙ sym e)
      go (falls f g) false e = let r = ltb-false (joinΛ l Λ d) k e in ap not (le-ltb (Λ d) (suc k) (omega arith) ∙ sym e)

  -- marks that are allowed stay allowed
  pub allowed_joined : l < h → (d : ℕ) → refused_marks n (suc h) (Λ d) (Δ d) ≡ false → refused_marks n h (joinΛ l Λ d) (Δ d) ≡ false
  allowed_joined lh d a = cases_allowed n h (joinΛ l Λ d) (Δ d) (go (falls_at l Λ d) (allowed_cases n (suc h) (Λ d) (Δ d) a))
    where
      go : Falls l (Λ d) (joinΛ l Λ d) → Allowed n (suc h) (Λ d) (Δ d) → Allowed n h (joinΛ l Λ d) (Δ d)
      go (stays f g) (removed z q) = removed (omega arith) q
      go (stays f g) (never z q) = absurd (omega arith)
      go (falls f g) (removed z q) = removed (omega arith) q
      go (falls f g) (never z q) = never (omega arith) q

-- the levels up to l stay, whatever the joined kernel is
module _ (a : Involutions) (n N h : ℕ) (Λ Δ : ℕ → ℕ) (l : ℕ) (lh : l < h) where
  -- the mark rows below l
  pub marks_lower : (k : ℕ) → k < l → marks (suc h) Λ Δ k ≡ marks h (joinΛ l Λ) Δ k
  marks_lower k z = fun_ext (λ d. rw (lt-ltb k (suc h) (omega arith), lt-ltb k h (omega arith), kernel_lower N Λ l k d z))

  -- the levels as maps
  pub level_lower : (k : ℕ) → k ≤ l → level a n N (marks (suc h) Λ Δ) k ≡ level a n N (marks h (joinΛ l Λ) Δ) k
  unfolding level
  level_lower zero z = refl
  level_lower (suc k) z =
      ap (λ (b : Involutions). removal b n (marks (suc h) Λ Δ k) N) (level_lower k (omega arith))
      ∙ ap (λ (row : ℕ → ℕ). removal (level a n N (marks h (joinΛ l Λ) Δ) k) n row N) (marks_lower k z)

  -- their tables
  pub table_lower : (k : ℕ) → k ≤ l → level_table a n N (suc h) Λ Δ k ≡ level_table a n N h (joinΛ l Λ) Δ k
  table_lower k z =
      ap (λ (b : Involutions). explicit b n N (survives Λ k)) (level_lower k z)
      ∙ ap (explicit (level a n N (marks h (joinΛ l Λ) Δ) k) n N) (fun_ext (λ d. survives_lower n h Λ Δ l k d z))

-- Kernels l and l+1 joined, in a pyramid of height h+1: Λ above l falls by 1 and so does the height.
pub record Joined (a : Involutions) (n N h : ℕ) (Λ Δ : ℕ → ℕ) (l : ℕ) : Type 0 where
  -- the joined kernel is a kernel of level l: each of its cells is removable there
  pub kernel : Kernel (level a n N (marks (suc h) Λ Δ) l) n (On N Λ l) (marks h (joinΛ l Λ) Δ l)
  -- the joined pyramid is accepted
  pub pyramid : Pyramid a n N h (joinΛ l Λ) Δ
  -- the levels up to l are the same maps, on the same survivors
  pub lower : (k : ℕ) → k ≤ l → level a n N (marks (suc h) Λ Δ) k ≡ level a n N (marks h (joinΛ l Λ) Δ) k
  pub lower_on : (k : ℕ) → k ≤ l → (d : ℕ) → survives Λ k d ≡ survives (joinΛ l Λ) k d
  pub lower_table : (k : ℕ) → k ≤ l → level_table a n N (suc h) Λ Δ k ≡ level_table a n N h (joinΛ l Λ) Δ k
  -- level k+1 is, under the new number k, the same map on the same survivors, from l+2 upward
  pub upper : (k : ℕ) → l < k → k ≤ h → (i d : ℕ) → i ≤ n → On N Λ (suc k) d → level a n N (marks (suc h) Λ Δ) (suc k) i d ≡ level a n N (marks h (joinΛ l Λ) Δ) k i d
  pub upper_on : (k : ℕ) → l < k → (d : ℕ) → survives Λ (suc k) d ≡ survives (joinΛ l Λ) k d
  pub upper_table : (k : ℕ) → l < k → k ≤ h → level_table a n N (suc h) Λ Δ (suc k) ≡ level_table a n N h (joinΛ l Λ) Δ k

-- an accepted pyramid of height h+1, and kernels l and l+1 of it
module _ (a : Involutions) (n N h : ℕ) (Λ Δ : ℕ → ℕ) (y : Pyramid a n N (suc h) Λ Δ) (l : ℕ) (lh : l < h) where
  -- Λ of the joined pyramid
  abbrev Λ' : ℕ → ℕ
  Λ' = joinΛ l Λ

  -- the levels as they were
  abbrev old : ℕ → Involutions
  old k = level a n N (marks (suc h) Λ Δ) k

  -- the levels of the joined pyramid
  abbrev new : ℕ → Involutions
  new k = level a n N (marks h Λ' Δ) k

  -- the pyramid as a tower
  tower : Tower a n N (suc h) Λ (low Δ) (high Δ)
  tower = pyramid_tower a n N (suc h) Λ Δ y

  -- its levels are the tower's
  old_floor : (k : ℕ) → k ≤ suc h → (i d : ℕ) → i ≤ n → On N Λ k d → old k i d ≡ floor a (low Δ) (high Δ) N Λ k i d
  old_floor = level_floor a n N (suc h) Λ Δ y

  -- the marks of the joined pyramid are allowed
  allowed : (d : ℕ) → d < N → refused_marks n h (Λ' d) (Δ d) ≡ false
  allowed d ld = allowed_joined n h Λ Δ l lh d (y.allowed d ld)

  -- the joined kernel, as walks see it
  whole_rows : WholeCells (old l) n (On N Λ l) (marks h Λ' Δ l) → Whole (floor a (low Δ) (high Δ) N Λ l) n (On N Λ l) (low Δ) (high Δ) (in_kernel Λ' l)
  whole_rows whole d j o q lj z =
      let ln = y.dimension in
      let q' : taken n h Λ' Δ l d ≡ true = taken_in a n N h Λ' Δ ln allowed l d lh o.0 ∙ q in
      let e = (taken_is n h Λ' Δ ln l d q').mark in
      let w : marks h Λ' Δ l (old l j d) ≡ marks h Λ' Δ l d = whole d j o q' lj (λ x. z (sym (x ∙ ap (λ (x : ℕ). (between x).0) e))) in
      let r : taken n h Λ' Δ l (old l j d) ≡ true = rw w q' in
      let f = (taken_is n h Λ' Δ ln l (old l j d) r).mark in
      let g : Δ (old l j d) ≡ Δ d = sym f ∙ w ∙ e in
      rw (← (old_floor l (omega arith) j d lj o))
      (sym (taken_in a n N h Λ' Δ ln allowed l (old l j d) lh ((level_valid a n N (suc h) Λ Δ y l (omega arith)).inside j d lj o).0) ∙ r, ap (λ (x : ℕ). (between x).0) g, ap (λ (x : ℕ). (between x).1) g)

  -- a dart of the joined kernel is on level l
  pub marked_on : (d : ℕ) → d < N → is_mark n (marks h Λ' Δ l d) ≡ true → On N Λ l d
  marked_on d ld q = let t = taken_is n h Λ' Δ y.dimension l d q in on_lower N Λ l l d (omega arith) (ld, omega arith)

  -- The way back: a joined pyramid is accepted only where the joined kernel is whole cells of level l.
  pub joined_whole : Pyramid a n N h (joinΛ l Λ) Δ → WholeCells (level a n N (marks (suc h) Λ Δ) l) n (On N Λ l) (marks h (joinΛ l Λ) Δ l)
  joined_whole y' d j o q lj ne = ap (λ (b : Involutions). marks h Λ' Δ l (b j d)) (level_lower a n N h Λ Δ l lh l (omega arith)) ∙ (y'.kernel l lh).whole d j (on_kept N Λ l l d (omega arith) o) q lj ne

  -- Joining: in an accepted pyramid where the joined kernel is whole cells of level l, the joined pyramid is accepted and has the same maps.
  pub joins : WholeCells (level a n N (marks (suc h) Λ Δ) l) n (On N Λ l) (marks h (joinΛ l Λ) Δ l) → Joined a n N h Λ Δ l
  joins whole =
      let J = tower_joins a n N h Λ (low Δ) (high Δ) tower l lh (whole_rows whole) in
      let y' = tower_pyramid a n N h Λ' Δ y.dimension allowed J.tower in
      let down = level_lower a n N h Λ Δ l lh in
      let up : (k : ℕ) → l < k → k ≤ h → (i d : ℕ) → i ≤ n → On N Λ (suc k) d → old (suc k) i d ≡ new k i d = λ k z kh i d li o.
      old_floor (suc k) (omega arith) i d li o ∙ J.upper k z kh i d li o ∙ sym (level_floor a n N h Λ' Δ y' k kh i d li (on_raised N Λ l k d z o)) in
      record {
        kernel = kernel_same (new l) (old l) n (On N Λ' l) (On N Λ l) (marks h Λ' Δ l) (marks h Λ' Δ l) (level_valid a n N h Λ' Δ y' l (omega arith)) (y'.kernel l lh)
            (λ i d li o. ap (λ (b : Involutions). b i d) (sym (down l (omega arith)))) (λ d o. refl) (λ d o. on_kept N Λ l l d (omega arith) o);
        pyramid = y';
        lower = down;
        lower_on = λ k z d. survives_lower n h Λ Δ l k d z;
        lower_table = table_lower a n N h Λ Δ l lh;
        upper = up;
        upper_on = λ k z d. survives_upper n h Λ Δ l k d z;
        upper_table = λ k z kh. explicit_same (old (suc k)) (new k) n N (survives Λ (suc k)) (survives Λ' k) (λ d ld. survives_upper n h Λ Δ l k d z)
            (λ i d li ld q. up k z kh i d li (on_upper N Λ l k d z (ld, ltb-false (Λ' d) k (not-true (ltb (Λ' d) k) q))));
      }

-- The finding: the joined kernel of an accepted pyramid is refused by 9 or not at all; number 10 can't occur.
pub never_ten : (a : Involutions) (n N h : ℕ) (Λ Δ : ℕ → ℕ) → Pyramid a n N (suc h) Λ Δ → (l : ℕ) → l < h
    → check9 (level a n N (marks (suc h) Λ Δ) l) n N (marks h (joinΛ l Λ) Δ l) l ≡ accepted → check_kernel (level a n N (marks (suc h) Λ Δ) l) n N (marks h (joinΛ l Λ) Δ l) l ≡ accepted
never_ten a n N h Λ Δ y l lh e =
    let A = level a n N (marks (suc h) Λ Δ) l in
    let mark = marks h (joinΛ l Λ) Δ l in
    let k = (joins a n N h Λ Δ y l lh (check9_whole A n N mark l (On N Λ l) (λ d o. o.0) e)).kernel in
    sound_kernel A n N mark l (On N Λ l) (level_valid a n N (suc h) Λ Δ y l (omega arith)) (λ d o. o.0) (marked_on a n N h Λ Δ y l lh) k
