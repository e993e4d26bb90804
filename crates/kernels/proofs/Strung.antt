-- The darts of a kernel: their marks, and how they are strung. Assumes nothing.
use mathlib.Core.Path.{◌≡◌, refl, sym, ap, ◌∙◌}
use mathlib.Core.Bool.{Bool, true, false, true≢false, cond, ◌&&◌, not}
use mathlib.Core.List.{List}
use Prim.Native.Nat.{ℕ, ◌+◌, ◌≤◌, ◌<◌}
use native.Mathlib.Omega.{arith}
use lib.ListN.{length, set}
use lib.Seq.{get_or-set_same, get_or-set_other}
use lib.Dec.{eqb}
use borrow.Author.Tests.{eqb-true, eqb-false, eq-eqb, ne_eqb, not-true}
use Rattle.maps.specs.Mark.{is_mark, stay}
use Rattle.maps.specs.Table.{each}
use Rattle.laws.proofs.Marks.{stay_none}
use Rattle.kernels.specs.Strings.{kernel_row, First, Linked, Marks}

-- two marks or levels that were compared: the same, and not
pub same_is : {x : Bool} (a b : ℕ) → x ≡ not (eqb a b) → x ≡ false → a ≡ b
same_is a b e f = eqb-true a b (go (eqb a b) (sym e ∙ f))
  where
    go : (y : Bool) → not y ≡ false → y ≡ true
    go true q = refl
    go false q = absurd (true≢false q)

pub not_same : {x : Bool} (a b : ℕ) → x ≡ not (eqb a b) → x ≡ true → a ≡ b → ⊥
not_same a b e f = eqb-false a b (not-true (eqb a b) (sym e ∙ f))

-- a dart has mark m in kernel l where Λ is l and Δ is m
pub row_is : (lambda delta : List ℕ) (l d m : ℕ) → m < stay → eqb (kernel_row lambda delta l d) m ≡ (eqb (each lambda d) l && eqb (each delta d) m)
unfolding kernel_row
row_is lambda delta l d m k = go (eqb (each lambda d) l)
  where
    go : (x : Bool) → eqb (cond x (each delta d) stay) m ≡ (x && eqb (each delta d) m)
    go true = refl
    go false = ne_eqb stay m (λ e. omega arith)

-- the darts of kernel l are the darts marked, and Δ is their mark
module _ {n N l : ℕ} {lambda delta : List ℕ} (w : Marks n N l lambda delta) (few : n ≤ 4) (d : ℕ) (ld : d < N) where
  pub in_kernel_lem : eqb (each lambda d) l ≡ is_mark n (kernel_row lambda delta l d)
  unfolding kernel_row
  in_kernel_lem = go (eqb (each lambda d) l) refl
    where
      go : (x : Bool) → eqb (each lambda d) l ≡ x → x ≡ is_mark n (cond x (each delta d) stay)
      go true q = sym (w.marked d ld (eqb-true (each lambda d) l q))
      go false q = sym (stay_none n (omega arith))

  pub mark_is : is_mark n (kernel_row lambda delta l d) ≡ true → each delta d ≡ kernel_row lambda delta l d
  unfolding kernel_row
  mark_is q = rw (in_kernel_lem ∙ q)

-- the same darts pass both tests
pub first_same : {p q : ℕ → Bool} {N from e : ℕ} → ((x : ℕ) → x < N → p x ≡ q x) → First p N from e → First q N from e
first_same same f = record { after = f.after; none = λ x a b c. sym (same x c) ∙ f.none x a b c; here = λ l. sym (same _ l) ∙ f.here l }

-- no dart is strung
pub linked_none : {N : ℕ} {head : List ℕ} (Λ : ℕ → ℕ) (next : List ℕ) → N ≤ 4096 → ((k : ℕ) → k < 256 → each head k ≡ 65535) → Linked N Λ N head next
linked_none {N} {head} Λ next few free = record {
  heads = λ k lk. let e = free k lk in record { after = omega arith; none = λ x f lx lN. absurd (omega arith); here = λ l. absurd (omega arith) };
  onward = λ d f ld. absurd (omega arith);
}

-- dart d, of kernel k, is strung in front of those from d+1 on
pub linked_more : {N from : ℕ} {Λ : ℕ → ℕ} {head next : List ℕ} → Linked N Λ from head next → (d k : ℕ) → from ≡ d + 1 → d < N → k ≡ Λ d → k < 256 → length head ≡ 256 → d < length next
    → Linked N Λ d (set head k d) (set next d (each head k))
linked_more {N} {from} {Λ} {head} {next} w d k step ld is lk long room = record { heads = λ j lj. go j lj (eqb j k) refl; onward = λ y f ly. on y f ly (eqb y d) refl }
  where
    go : (j : ℕ) → j < 256 → (x : Bool) → eqb j k ≡ x → First (λ x. eqb (Λ x) j) N d (each (set head k d) j)
    go j lj true q =
        let e : j ≡ k = eqb-true j k q in
        let s : each (set head k d) j ≡ d = rw e (get_or-set_same head k d 0 (omega arith)) in
        record { after = omega arith; none = λ x f lx lN. absurd (omega arith); here = λ l. rw s (eq-eqb (Λ d) j (sym is ∙ sym e)) }
    go j lj false q =
        let ne : j ≡ k → ⊥ = eqb-false j k q in
        let o = w.heads j lj in
        rw (get_or-set_other head k j d 0 ne)
        (record { after = let a = o.after in omega arith; none = λ x f lx lN. skip x f lx lN ne o (eqb x d) refl; here = o.here })
      where
        skip : (x : ℕ) → d ≤ x → x < each head j → x < N → (j ≡ k → ⊥) → First (λ x. eqb (Λ x) j) N from (each head j) → (b : Bool) → eqb x d ≡ b → eqb (Λ x) j ≡ false
        skip x f lx lN ne o true r = ne_eqb (Λ x) j (λ z. ne (sym z ∙ ap Λ (eqb-true x d r) ∙ sym is))
        skip x f lx lN ne o false r = let u : x ≡ d → ⊥ = eqb-false x d r in o.none x (omega arith) lx lN

    on : (y : ℕ) → d ≤ y → y < N → (x : Bool) → eqb y d ≡ x → First (λ x. eqb (Λ x) (Λ y)) N (y + 1) (each (set next d (each head k)) y)
    on y f ly true q =
        let e : y ≡ d = eqb-true y d q in
        rw (e, get_or-set_same next d (each head k) 0 room, ← is, ← step) (w.heads k lk)
    on y f ly false q =
        let ne : y ≡ d → ⊥ = eqb-false y d q in
        rw (get_or-set_other next d y (each head k) 0 ne) (w.onward y (omega arith) ly)
