-- Numbers 9 and 10 of one kernel, one mark at a time. Assumes nothing.
use mathlib.Core.Path.{◌≡◌, refl, sym, ap, ◌∙◌}
use mathlib.Core.Bool.{Bool, true, false, true≢false, cond, ◌&&◌, not}
use mathlib.Core.List.{List}
use Prim.Native.Nat.{ℕ, suc, ◌+◌, ◌-◌, ◌≤◌, ◌<◌}
use native.Mathlib.Omega.{arith}
use lib.ListN.{length}
use lib.Dec.{eqb, ltb}
use borrow.Author.Tests.{eq-eqb, eqb-true, eqb-false, ltb-true, ltb-false, le-ltb}
use Rattle.maps.specs.Verdict.{accepted, refused, when}
use Rattle.maps.specs.Mark.{is_mark, between, has_beyond}
use Rattle.maps.specs.Table.{entry, each}
use Rattle.maps.specs.Check.{differs, at9, at10, check9, check10, check_kernel}
use Rattle.laws.proofs.Verdicts.{scan_all}
use Rattle.kernels.specs.Strings.{kernel_row, First, Strung}
use Rattle.kernels.specs.Ready.{Tested}
use Rattle.kernels.specs.Walked.{other_row, ten, Nine, Ten, Together, Alike, Run, Commuting}
use Rattle.kernels.proofs.Strung.{in_kernel_lem, mark_is}
use Rattle.kernels.proofs.Tests.{at_nine, walk_next, walk_start, walk_all, nine_free, ten_free}

-- what holds below k and at k holds below k+1
pub one_more : (p : ℕ → Type 0) (k : ℕ) → ((x : ℕ) → x < k → p x) → p k → (x : ℕ) → x < k + 1 → p x
one_more p k below at x l = go (eqb x k) refl
  where
    go : (y : Bool) → eqb x k ≡ y → p x
    go true q = rw (eqb-true x k q) at
    go false q = let ne : x ≡ k → ⊥ = eqb-false x k q in below x (omega arith)

-- the rows but the first of a mark are rows of the map
pub other_low : (m n k : ℕ) → k < n → other_row m k ≤ n
unfolding other_row
other_low m n k l = go (ltb k (between m).0)
  where
    go : (x : Bool) → cond x k (suc k) ≤ n
    go true = omega arith
    go false = omega arith

-- and every row but the first is one of them
pub other_all : (m n j : ℕ) → (between m).0 ≤ n → j ≤ n → (j ≡ (between m).0 → ⊥) → (k : ℕ) × ((k < n) × (other_row m k ≡ j))
unfolding other_row
other_all m n j low lj ne = go (ltb j (between m).0) refl
  where
    go : (x : Bool) → ltb j (between m).0 ≡ x → (k : ℕ) × ((k < n) × (other_row m k ≡ j))
    go true q = let l = ltb-true j (between m).0 q in (j, (omega arith, rw q refl))
    go false q =
        let l = ltb-false j (between m).0 q in
        let z : j ≡ (between m).0 → ⊥ = ne in
        let e : suc (j - 1) ≡ j = omega arith in
        (j - 1, (omega arith, rw (le-ltb (j - 1) (between m).0 (omega arith)) e))

-- the rows but the first, tested one after the other
module _ (n l : ℕ) (lambda delta table : List ℕ) (m d : ℕ) (low : (between m).0 ≤ n) where
  pub together_all : ((k : ℕ) → k < n → eqb (kernel_row lambda delta l (entry (length lambda) table (other_row m k) d)) m ≡ true) → Together n l lambda delta table m d
  together_all h j lj = go (eqb j (between m).0) refl
    where
      go : (x : Bool) → eqb j (between m).0 ≡ x → (not (eqb j (between m).0) && not (eqb (kernel_row lambda delta l (entry (length lambda) table j d)) m)) ≡ false
      go true q = rw q
      go false q = let w = other_all m n j low lj (eqb-false j (between m).0 q) in rw (q, sym (ap (λ (t : ℕ). eqb (kernel_row lambda delta l (entry (length lambda) table t d)) m) w.1.1) ∙ h w.0 w.1.0)

-- a run up to dart d: number 10 is due at none of the darts passed, and d is one of the run, if it is a dart
pub record RunTo (test : ℕ → Bool) (n N : ℕ) (next table : List ℕ) (m from d : ℕ) : Type 0 where
  pub after : from ≤ d
  pub here : d < N → test d ≡ true
  pub so_far : (x : ℕ) → from ≤ x → x < d → x < N → test x ≡ true → (has_beyond n m && differs (entry N table) (λ _. m) x) ≡ false

module _ {test : ℕ → Bool} {n N : ℕ} {next table : List ℕ} {m from : ℕ} (r : Run test n N next table from) where
  pub run_start : RunTo test n N next table m from from
  run_start = record { after = omega arith; here = r.here; so_far = λ x f l lN q. absurd (omega arith) }

  module _ {d : ℕ} (w : RunTo test n N next table m from d) (ld : d < N) {e : ℕ} (is : e ≡ each next d) where
    onward : First test N (d + 1) e
    onward = rw is (r.onward d ld (w.here ld))

    pub run_further : d < e
    run_further = omega (arith, onward.after)

    pub run_next : (has_beyond n m && differs (entry N table) (λ _. m) d) ≡ false → RunTo test n N next table m from e
    run_next own = record { after = omega (arith, w.after, run_further); here = onward.here; so_far = λ x f l lN q. go x f l lN q (ltb x d) refl (eqb x d) refl }
      where
        go : (x : ℕ) → from ≤ x → x < e → x < N → test x ≡ true → (y : Bool) → ltb x d ≡ y → (z : Bool) → eqb x d ≡ z → (has_beyond n m && differs (entry N table) (λ _. m) x) ≡ false
        go x f l lN q true u z v = w.so_far x f (ltb-true x d u) lN q
        go x f l lN q false u true v = rw (eqb-true x d v) own
        go x f l lN q false u false v =
            let b = ltb-false x d u in
            let ne : x ≡ d → ⊥ = eqb-false x d v in
            absurd (true≢false (sym q ∙ onward.none x (omega arith) l lN))

-- number 9 along a run of one mark
module _ {n l : ℕ} {lambda delta next table : List ℕ} {d : ℕ} (w : Nine n l lambda delta next table d) where
  -- at the end of the darts
  pub nine_end : length lambda ≤ d → Nine n l lambda delta next table (length lambda)
  nine_end m = record { tested = w.tested; marks = w.marks; onward = w.onward; free = w.free; here = λ z. absurd (omega arith); so_far = λ x lx lN. w.so_far x (omega arith) lN }

  -- past a dart whose rows lead into the kernel with its mark
  pub nine_next : (ld : d < length lambda) (m : ℕ) → m ≡ each delta d → Together n l lambda delta table m d → {e : ℕ} → e ≡ each next d → Nine n l lambda delta next table e
  nine_next ld m is t next-is = walk_next w ld next-is (scan_all (suc n) (at9 (entry (length lambda) table) n (kernel_row lambda delta l) l d) (λ j lj. at_nine w ld m is j ∙ rw (t j (omega arith))))

  -- and its mark is that of the run
  pub alike_next : (ld : d < length lambda) (m : ℕ) → each delta d ≡ m → {e : ℕ} → e ≡ each next d → (from : ℕ) → Alike l lambda delta m from d → Alike l lambda delta m from e
  alike_next ld m is {e} next-is from so_far x f b lN q = go (ltb x d) refl (eqb x d) refl
    where
      onward : First (λ x. is_mark n (kernel_row lambda delta l x)) (length lambda) (d + 1) e
      onward = rw next-is (w.onward d ld (w.here ld))

      go : (y : Bool) → ltb x d ≡ y → (z : Bool) → eqb x d ≡ z → each delta x ≡ m
      go true u z v = so_far x f (ltb-true x d u) lN q
      go false u true v = ap (each delta) (eqb-true x d v) ∙ is
      go false u false v =
          let a = ltb-false x d u in
          let ne : x ≡ d → ⊥ = eqb-false x d v in
          let marked = sym (in_kernel_lem w.marks w.tested.shape.dimension x lN) ∙ eq-eqb (each lambda x) l q in
          absurd (true≢false (sym marked ∙ onward.none x (omega arith) b lN))

-- number 10 of a dart of mark m
pub ten_passes : (n N l : ℕ) (mark : ℕ → ℕ) (table : List ℕ) (x m : ℕ) → m ≡ mark x → is_mark n (mark x) ≡ true → (has_beyond n m && differs (entry N table) (λ _. m) x) ≡ false → ten n N l mark table x ≡ accepted
unfolding at10
ten_passes n N l mark table x m is q f = at ∙ rw f
  where
    at : ten n N l mark table x ≡ when (has_beyond n m && differs (entry N table) (λ _. m) x) (refused 10 l (between m).1 x)
    at = rw (is, q)

-- the darts of the kernel from d on are a run
pub ten_run : {n l : ℕ} {lambda delta next table : List ℕ} {d : ℕ} → Ten n l lambda delta next table d → Run (λ x. is_mark n (kernel_row lambda delta l x)) n (length lambda) next table d
ten_run w = record { here = w.here; onward = w.onward; inside = λ x lx q t lt. (w.tested.sound.valid.inside t x lt (lx, w.tested.marked x lx q)).0 }

-- number 10 past a run of one mark
module _ {n l : ℕ} {lambda delta next table : List ℕ} {d e : ℕ} (w : Ten n l lambda delta next table d) (v : Nine n l lambda delta next table e) (m : ℕ) (alike : Alike l lambda delta m d e) where
  abbrev test : ℕ → Bool
  test x = is_mark n (kernel_row lambda delta l x)

  pub ten_on : Commuting n (length lambda) next table m d e → Ten n l lambda delta next table e
  ten_on c = record { tested = w.tested; marks = w.marks; onward = w.onward; free = w.free; here = v.here; so_far = λ x lx lN. go x lx lN (ltb x d) refl (test x) refl }
    where
      go : (x : ℕ) → x < e → x < length lambda → (y : Bool) → ltb x d ≡ y → (z : Bool) → test x ≡ z → ten n (length lambda) l (kernel_row lambda delta l) table x ≡ accepted
      go x lx lN true q z u = w.so_far x (ltb-true x d q) lN
      go x lx lN false q false u = w.free x lN u
      go x lx lN false q true u =
          let f = ltb-false x d q in
          let own = eqb-true (each lambda x) l (in_kernel_lem w.marks w.tested.shape.dimension x lN ∙ u) in
          let is = alike x f lx lN own in
          ten_passes n (length lambda) l (kernel_row lambda delta l) table x m (sym is ∙ mark_is w.marks w.tested.shape.dimension x lN u) u (c test (ten_run w) x f lx u)

-- both numbers, from the first dart on; and past all darts
module _ {n N l first : ℕ} {lambda delta next table : List ℕ} (t : Tested n N (kernel_row lambda delta l) table) (w : Strung n N l first lambda delta next) where
  pub both_start : Nine n l lambda delta next table first × Ten n l lambda delta next table first
  both_start =
      let u : Tested n (length lambda) (kernel_row lambda delta l) table = rw w.marks.lambda_long t in
      let v : Strung n (length lambda) l first lambda delta next = rw w.marks.lambda_long w in
      (walk_start u v (nine_free n (length lambda) l (kernel_row lambda delta l) table), walk_start u v (ten_free n (length lambda) l (kernel_row lambda delta l) table))

  pub both_all : {d : ℕ} → Nine n l lambda delta next table d → Ten n l lambda delta next table d → N ≤ d → check_kernel (entry N table) n N (kernel_row lambda delta l) l ≡ accepted
  unfolding check_kernel check9 check10
  both_all x y m =
      let e = w.marks.lambda_long in
      let a = walk_all x (omega arith) in
      let b = walk_all y (omega arith) in
      rw (rw e at a, rw e at b) refl
