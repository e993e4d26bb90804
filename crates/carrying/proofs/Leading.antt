-- A number put at every link that leads into a kernel, dart after dart of it. Assumes nothing.
use mathlib.Core.Path.{◌≡◌, refl, sym, ap, ◌∙◌}
use mathlib.Core.Bool.{Bool, true, false, cond, ◌&&◌, not, true≢false}
use mathlib.Core.List.{List}
use Prim.Native.Nat.{ℕ, ◌+◌, ◌*◌, ◌≤◌, ◌<◌}
use native.Mathlib.Omega.{arith}
use lib.ListN.{set}
use lib.Dec.{eqb, ltb}
use borrow.Author.Tests.{eqb-true, eqb-false, eq-eqb, ltb-true, ltb-false, lt-ltb, le-ltb, not-true}
use Rattle.maps.specs.Map.{Involutions}
use Rattle.maps.specs.Mark.{is_mark, between}
use Rattle.maps.specs.Table.{entry, each}
use Rattle.maps.specs.UnfoldAll.{counts_from, counts_of}
use Rattle.maps.specs.Explicit.{present, There}
use Rattle.laws.proofs.Verdicts.{and_both}
use Rattle.laws.proofs.Marks.{mark_rows}
use Rattle.kernels.specs.Strings.{First, Along}
use Rattle.kernels.specs.Ready.{Place, Ready, Followed, TableIs}
use Rattle.kernels.proofs.Places.{table_same, table_set}
use Rattle.carrying.specs.Carried.{leads, Led, counted}
use Rattle.carrying.proofs.Local.{counts_local}

-- the links that lead to darts before d have their number, and d is marked, if it is a dart
pub record LedTo (n N : ℕ) (mark : ℕ → ℕ) (block : List ℕ) (f : ℕ → ℕ → ℕ) (before after : List ℕ) (d : ℕ) : Type 0 where
  pub here : d < N → is_mark n (mark d) ≡ true
  pub table : TableIs N (λ t k. cond (leads n N mark block t k && ltb (entry N block t k) d) (f t k) (entry N before t k)) before after

-- what a link that leads into the kernel tells
pub record Leading (n N : ℕ) (mark : ℕ → ℕ) (block : List ℕ) (t k : ℕ) : Type 0 where
  pub inside : entry N block t k < N
  pub stays : is_mark n (mark k) ≡ false
  pub marks : is_mark n (mark (entry N block t k)) ≡ true
  pub row : (between (mark (entry N block t k))).0 ≡ t
  pub low : t ≤ n
  pub there : There N (present N block) k

pub leading : {n N : ℕ} {mark : ℕ → ℕ} {block : List ℕ} → Ready n N mark block → (t k : ℕ) → k < N → leads n N mark block t k ≡ true → Leading n N mark block t k
unfolding leads
leading {n} {N} {mark} {block} r t k lk q =
    let x = and_both (ltb (entry N block t k) N) _ q in
    let y = and_both (not (is_mark n (mark k))) _ x.1 in
    let z = and_both (is_mark n (mark (entry N block t k))) _ y.1 in
    let l = ltb-true (entry N block t k) N x.0 in
    let e = eqb-true (between (mark (entry N block t k))).0 t z.1 in
    let lt : t ≤ n = rw e at (mark_rows n (mark (entry N block t k)) z.0).first in
    record { inside = l; stays = not-true (is_mark n (mark k)) y.0; marks = z.0; row = e; low = lt; there = (lk, go l lt (present N block k) refl) }
  where
    go : entry N block t k < N → t ≤ n → (x : Bool) → present N block k ≡ x → x ≡ true
    go l lt true p = refl
    go l lt false p = let e = r.tested.sound.empty t k lt lk p in let s = r.tested.shape.darts in absurd (omega arith)

-- the marks of a kernel can be followed
pub followed : {n N : ℕ} {mark : ℕ → ℕ} {block : List ℕ} → Ready n N mark block → Followed n N mark block
followed {n} {N} {mark} r = record {
  shape = r.tested.shape;
  inside = λ t d lt ld q. (r.tested.sound.valid.inside t d lt (ld, r.tested.marked d ld q)).0;
  whole = λ d ld q. let m = mark_rows n (mark d) q in r.kernel.whole d (between (mark d)).1 (ld, r.tested.marked d ld q) q m.second (λ e. m.two (sym e));
}

module _ {n N first : ℕ} {mark : ℕ → ℕ} {next block : List ℕ} (r : Ready n N mark block) (w : Along (λ x. is_mark n (mark x)) N first next) where
  abbrev a : Involutions
  a = entry N block

  module _ {f : ℕ → ℕ → ℕ} {before : List ℕ} where
    pub led_start : LedTo n N mark block f before before first
    led_start = record { here = w.start.here; table = record { long = refl; rows = λ t k lk. go t k lk (leads n N mark block t k) refl (ltb (a t k) first) refl } }
      where
        go : (t k : ℕ) → k < N → (x : Bool) → leads n N mark block t k ≡ x → (y : Bool) → ltb (a t k) first ≡ y → entry N before t k ≡ cond (leads n N mark block t k && ltb (a t k) first) (f t k) (entry N before t k)
        go t k lk false q y z = rw q
        go t k lk true q false z = rw (q, z)
        go t k lk true q true z = let v = leading r t k lk q in absurd (true≢false (sym v.marks ∙ w.start.none (a t k) (omega arith) (ltb-true (a t k) first z) v.inside))

    module _ {after : List ℕ} {d : ℕ} (v : LedTo n N mark block f before after d) where
      pub led_all : N ≤ d → Led n N mark block f before after
      led_all m = table_same v.table (λ t k lk. go t k lk (leads n N mark block t k) refl)
        where
          go : (t k : ℕ) → k < N → (x : Bool) → leads n N mark block t k ≡ x → cond (leads n N mark block t k && ltb (a t k) d) (f t k) (entry N before t k) ≡ cond (leads n N mark block t k) (f t k) (entry N before t k)
          go t k lk false q = rw q
          go t k lk true q = let z = leading r t k lk q in rw (q, lt-ltb (a t k) d (omega (arith, z.inside)))

      -- d is a dart: its row and where that leads
      module _ (ld : d < N) where
        abbrev i : ℕ
        i = (between (mark d)).0

        abbrev b : ℕ
        b = a i d

        pub led_row : i ≤ n
        led_row = (mark_rows n (mark d) (v.here ld)).first

        there : There N (present N block) d
        there = (ld, r.tested.marked d ld (v.here ld))

        pub led_dart : b < N
        led_dart = (r.tested.sound.valid.inside i d led_row there).0

        back : a i b ≡ d
        back = r.tested.sound.valid.twice i d led_row there

        -- no other link leads to d
        only : (t k : ℕ) → Leading n N mark block t k → a t k ≡ d → (t ≡ i) × (k ≡ b)
        only t k z e =
            let ti : t ≡ i = sym z.row ∙ ap (λ (x : ℕ). (between (mark x)).0) e in
            (ti, sym (r.tested.sound.valid.twice t k z.low z.there) ∙ ap (a t) e ∙ ap (λ (x : ℕ). a x d) ti)

        module _ {e : ℕ} (is : e ≡ each next d) where
          onward : First (λ x. is_mark n (mark x)) N (d + 1) e
          onward = rw is (w.onward d ld (v.here ld))

          pub led_further : d < e
          led_further = omega (arith, onward.after)

          still : (t k : ℕ) → k < N → (leads n N mark block t k ≡ true → t ≡ i → k ≡ b → ⊥) → cond (leads n N mark block t k && ltb (a t k) d) (f t k) (entry N before t k) ≡ cond (leads n N mark block t k && ltb (a t k) e) (f t k) (entry N before t k)
          still t k lk never = go (leads n N mark block t k) refl (ltb (a t k) d) refl (ltb (a t k) e) refl (eqb (a t k) d) refl
            where
              go : (x : Bool) → leads n N mark block t k ≡ x → (y : Bool) → ltb (a t k) d ≡ y → (z : Bool) → ltb (a t k) e ≡ z → (u : Bool) → eqb (a t k) d ≡ u
                  → cond (leads n N mark block t k && ltb (a t k) d) (f t k) (entry N before t k) ≡ cond (leads n N mark block t k && ltb (a t k) e) (f t k) (entry N before t k)
              go false q y z s p u m = rw q
              go true q true y z s u m = let l = ltb-true (a t k) d y in rw (q, y, lt-ltb (a t k) e (omega (arith, led_further)))
              go true q false y false s u m = rw (q, y, s)
              go true q false y true s true m = let x = leading r t k lk q in let o = only t k x (eqb-true (a t k) d m) in absurd (never q o.0 o.1)
              go true q false y true s false m =
                  let x = leading r t k lk q in
                  let ne : a t k ≡ d → ⊥ = eqb-false (a t k) d m in
                  let l = ltb-false (a t k) d y in
                  absurd (true≢false (sym x.marks ∙ onward.none (a t k) (omega arith) (ltb-true (a t k) e s) x.inside))

          -- the dart that d leads to is of the kernel
          pub led_kept : is_mark n (mark b) ≡ true → LedTo n N mark block f before after e
          led_kept q = record {
            here = onward.here;
            table = table_same v.table (λ t k lk. still t k lk (λ m ti kb. let x = leading r t k lk m in true≢false (sym q ∙ ap (λ (y : ℕ). is_mark n (mark y)) (sym kb) ∙ x.stays)));
          }

          -- it stays, and its link gets its number
          pub led_put : is_mark n (mark b) ≡ false → Place N before i b → (number : ℕ) → number ≡ f i b → LedTo n N mark block f before (set after (i * N + b) number) e
          unfolding leads
          led_put q p number is_number = record {
            here = onward.here;
            table = table_set v.table p number (is_number ∙ rw (back, lt-ltb d N ld, q, v.here ld, eq-eqb i i refl, lt-ltb d e led_further)) (λ t k lk ne. still t k lk (λ m. ne));
          }

          -- the same, where row and dart have other names
          module _ {i' b' : ℕ} (ei : i' ≡ (between (mark d)).0) (eb : b' ≡ entry N block (between (mark d)).0 d) where
            pub kept_as : is_mark n (mark b') ≡ true → LedTo n N mark block f before after e
            kept_as q = led_kept (rw eb at q)

            pub put_as : is_mark n (mark b') ≡ false → Place N before i' b' → (number : ℕ) → number ≡ f i' b' → LedTo n N mark block f before (set after (i' * N + b') number) e
            put_as q p number is_number = rw (ei, eb) (led_put (rw eb at q) (rw (ei, eb) at p) number (rw (ei, eb) at is_number))

        -- a link that leads to d, under any names, and what stands there and at the darts marked
        module _ {i' b' : ℕ} (ei : i' ≡ (between (mark d)).0) (eb : b' ≡ entry N block (between (mark d)).0 d) (q : is_mark n (mark b') ≡ false) where
          pub leads_as : leads n N mark block i' b' ≡ true
          unfolding leads
          leads_as = rw (ei, eb) (rw (back, lt-ltb d N ld, rw eb at q, v.here ld, eq-eqb i i refl))

          old_as : entry N after i' b' ≡ entry N before i' b'
          old_as = rw (ei, eb) (v.table.rows i b led_dart ∙ rw (rw (ei, eb) at leads_as, back, le-ltb d d (omega arith)))

          marked_old : (t k : ℕ) → k < N → is_mark n (mark k) ≡ true → entry N after t k ≡ entry N before t k
          unfolding leads
          marked_old t k lk m = v.table.rows t k lk ∙ rw m (go (ltb (a t k) N))
            where
              go : (x : Bool) → cond ((x && false) && ltb (a t k) d) (f t k) (entry N before t k) ≡ entry N before t k
              go true = refl
              go false = refl

          -- the counts of the links that it is made of
          pub sum_as : {x m : ℕ} → x ≡ entry N after i' b' → m ≡ counts_from a n mark (entry N after) N i' d → x + m ≡ counted n N mark block before i' b'
          unfolding counts_of
          sum_as {x} {m} ex em =
              let w = followed r in
              let c = counts_local a a n (λ z. z < N) mark mark (entry N after) (entry N before) (λ t z lt lz h. w.inside t z lt lz h) (λ z lz h. w.whole z lz h) (λ t z lt lz h. refl) (λ z lz. refl) (λ t z lt lz h. marked_old t z lz h) N i d led_row ld in
              let e : a i' b' ≡ d = rw (ei, eb) back in
              rw e (omega (arith, ex, em, old_as, rw (← ei) at c))
