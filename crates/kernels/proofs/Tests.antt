-- Numbers 9 and 10 of one kernel, along its string. Assumes nothing.
use mathlib.Core.Path.{◌≡◌, refl, sym, ap, ◌∙◌}
use mathlib.Core.Bool.{Bool, true, false, ◌&&◌, not}
use mathlib.Core.List.{List}
use Prim.Native.Nat.{ℕ, suc, ◌+◌, ◌≤◌, ◌<◌}
use native.Mathlib.Omega.{arith}
use lib.ListN.{length}
use lib.Dec.{eqb, ltb}
use borrow.Author.Tests.{eqb-true, eqb-false, ltb-true, ltb-false}
use Rattle.maps.specs.Verdict.{Verdict, accepted, refused, when, scan}
use Rattle.maps.specs.Mark.{is_mark, stay, between, has_beyond}
use Rattle.maps.specs.Table.{entry, each}
use Rattle.maps.specs.Check.{differs, at9, at10, check9, check10}
use Rattle.laws.proofs.Verdicts.{scan_all, scan_first, scan_more}
use Rattle.laws.proofs.Marks.{mark_byte}
use Rattle.kernels.specs.Strings.{kernel_row, First, Strung}
use Rattle.kernels.specs.Ready.{Tested}
use Rattle.kernels.specs.Walked.{Walk, nine, ten}
use Rattle.kernels.proofs.Strung.{mark_is}

pub walk_start : {n N l first : ℕ} {lambda delta next table : List ℕ} {v : ℕ → Verdict} → Tested n N (kernel_row lambda delta l) table → Strung n N l first lambda delta next → ((x : ℕ) → x < N → is_mark n (kernel_row lambda delta l x) ≡ false → v x ≡ accepted) → Walk n N l lambda delta next table v first
walk_start t w free = let s = w.string.start in record { tested = t; marks = w.marks; onward = w.string.onward; free = free; here = s.here; so_far = λ x lx lN. free x lN (s.none x (omega arith) lx lN) }

module _ {n N l : ℕ} {lambda delta next table : List ℕ} {v : ℕ → Verdict} {d : ℕ} (w : Walk n N l lambda delta next table v d) where
  pub walk_all : N ≤ d → scan N v ≡ accepted
  walk_all m = scan_all N v (λ x lx. w.so_far x (omega arith) lx)

  module _ (ld : d < N) where
    pub walk_mark : each delta d ≡ kernel_row lambda delta l d
    walk_mark = mark_is w.marks w.tested.shape.dimension d ld (w.here ld)

    pub walk_marked : {m : ℕ} → m ≡ each delta d → (is_mark n m ≡ true) × (m < stay)
    walk_marked {m} is =
        let q : is_mark n m ≡ true = rw (is ∙ walk_mark) (w.here ld) in
        let z = w.tested.shape.dimension in
        (q, mark_byte n m (omega arith) q)

    pub walk_inside : (t : ℕ) → t ≤ n → entry N table t d < N
    walk_inside t lt = (w.tested.sound.valid.inside t d lt (ld, w.tested.marked d ld (w.here ld))).0

    pub walk_rooms : (d < length delta) × (d < 4096)
    walk_rooms = (omega (arith, w.marks.delta_long), omega (arith, w.tested.shape.darts))

    pub walk_breach : (k m i x : ℕ) → v d ≡ refused k m i x → scan N v ≡ refused k m i x
    walk_breach k m i x e = scan_first N v d k m i x ld (scan_all d v (λ y ly. w.so_far y ly (omega arith))) e

    module _ {e : ℕ} (is : e ≡ each next d) where
      onward : First (λ x. is_mark n (kernel_row lambda delta l x)) N (d + 1) e
      onward = rw is (w.onward d ld (w.here ld))

      pub walk_further : d < e
      walk_further = omega (arith, onward.after)

      pub walk_next : v d ≡ accepted → Walk n N l lambda delta next table v e
      walk_next own = record { tested = w.tested; marks = w.marks; onward = w.onward; free = w.free; here = onward.here; so_far = λ x lx lN. go x lx lN (ltb x d) refl (eqb x d) refl }
        where
          go : (x : ℕ) → x < e → x < N → (y : Bool) → ltb x d ≡ y → (z : Bool) → eqb x d ≡ z → v x ≡ accepted
          go x lx lN true q z r = w.so_far x (ltb-true x d q) lN
          go x lx lN false q true r = ap v (eqb-true x d r) ∙ own
          go x lx lN false q false r =
              let u = ltb-false x d q in
              let ne : x ≡ d → ⊥ = eqb-false x d r in
              w.free x lN (onward.none x (omega arith) lx lN)

module _ (n N l : ℕ) (mark : ℕ → ℕ) (table : List ℕ) where
  -- a dart that is not marked is not refused
  pub nine_free : (x : ℕ) → x < N → is_mark n (mark x) ≡ false → nine n N l mark table x ≡ accepted
  unfolding at9
  nine_free x lx q = scan_all (suc n) (at9 (entry N table) n mark l x) (λ j lj. rw q)

  pub ten_free : (x : ℕ) → x < N → is_mark n (mark x) ≡ false → ten n N l mark table x ≡ accepted
  unfolding at10
  ten_free x lx q = rw q

-- dart d, whose mark is m
module _ {n N l : ℕ} {lambda delta next table : List ℕ} {d : ℕ} (w : Walk n N l lambda delta next table (nine n N l (kernel_row lambda delta l) table) d) (ld : d < N) (m : ℕ) (is : m ≡ each delta d) where
  abbrev row : ℕ → ℕ
  row = kernel_row lambda delta l

  -- does involution j leave the kernel
  abbrev out : ℕ → Bool
  out j = not (eqb j (between m).0) && not (eqb (row (entry N table j d)) m)

  pub at_nine : (j : ℕ) → at9 (entry N table) n row l d j ≡ when (out j) (refused 9 l j d)
  unfolding at9
  at_nine j = rw (is ∙ walk_mark w ld, w.here ld)

  module _ (j : ℕ) (so_far : scan j (at9 (entry N table) n row l d) ≡ accepted) where
    pub nine_stays : out j ≡ false → scan (j + 1) (at9 (entry N table) n row l d) ≡ accepted
    nine_stays e = scan_more (at9 (entry N table) n row l d) j so_far (at_nine j ∙ rw e)

    pub nine_passed : {e : ℕ} → j ≡ n + 1 → e ≡ each next d → Walk n N l lambda delta next table (nine n N l row table) e
    nine_passed all next-is = let z : j ≡ suc n = omega arith in walk_next w ld next-is (rw z at so_far)

    pub nine_leaves : j ≤ n → out j ≡ true → refused 9 l j d ≡ check9 (entry N table) n N row l
    unfolding check9
    nine_leaves lj e = sym (walk_breach w ld 9 l j d (scan_first (suc n) (at9 (entry N table) n row l d) j 9 l j d (omega arith) so_far (at_nine j ∙ rw e)))

module _ {n N l : ℕ} {lambda delta next table : List ℕ} {d : ℕ} (w : Walk n N l lambda delta next table (ten n N l (kernel_row lambda delta l) table) d) (ld : d < N) (m : ℕ) (is : m ≡ each delta d) where
  -- does its own test fail
  abbrev fails : Bool
  fails = has_beyond n m && differs (entry N table) (λ x. m) d

  at_ten : ten n N l (kernel_row lambda delta l) table d ≡ when fails (refused 10 l (between m).1 d)
  unfolding at10
  at_ten = rw (is ∙ walk_mark w ld, w.here ld)

  pub ten_passed : {e : ℕ} → fails ≡ false → e ≡ each next d → Walk n N l lambda delta next table (ten n N l (kernel_row lambda delta l) table) e
  ten_passed f next-is = walk_next w ld next-is (at_ten ∙ rw f)

  pub ten_refused : {i : ℕ} → fails ≡ true → i ≡ (between m).1 → refused 10 l i d ≡ check10 (entry N table) n N (kernel_row lambda delta l) l
  unfolding check10
  ten_refused f row_is = rw row_is (sym (walk_breach w ld 10 l (between m).1 d (at_ten ∙ rw f)))
