-- Darts cleared along a string, one after the other, each in all rows. Assumes nothing.
use mathlib.Core.Path.{◌≡◌, refl, ap, ◌∙◌}
use mathlib.Core.Bool.{Bool, true, false, cond, ◌&&◌}
use mathlib.Core.List.{List}
use Prim.Native.Nat.{ℕ, ◌+◌, ◌*◌, ◌≤◌, ◌<◌}
use native.Mathlib.Omega.{arith}
use lib.ListN.{set}
use lib.Dec.{eqb, ltb}
use borrow.Author.Tests.{eqb-true, eqb-false, eq-eqb, ltb-true, ltb-false, lt-ltb, le-ltb}
use Rattle.maps.specs.Table.{entry, each, absent}
use Rattle.kernels.specs.Strings.{First, Along}
use Rattle.kernels.specs.Ready.{Place, Cleared}
use Rattle.kernels.proofs.Places.{table_same, table_set}

-- rows 0 to n are cleared at the darts strung before d, and d is one of them, if it is a dart
pub record ClearTo (test : ℕ → Bool) (N n : ℕ) (before after : List ℕ) (d : ℕ) : Type 0 where
  pub here : d < N → test d ≡ true
  pub table : Cleared N (λ t k. (ltb k d && test k) && ltb t (n + 1)) before after

module _ {test : ℕ → Bool} {N first : ℕ} {next : List ℕ} (w : Along test N first next) {n : ℕ} {before : List ℕ} where
  pub clear_start : ClearTo test N n before before first
  clear_start = record { here = w.start.here; table = record { long = refl; rows = λ t k lk. go t k lk (ltb k first) refl } }
    where
      go : (t k : ℕ) → k < N → (x : Bool) → ltb k first ≡ x → entry N before t k ≡ cond ((ltb k first && test k) && ltb t (n + 1)) absent (entry N before t k)
      go t k lk true q = rw (q, w.start.none k (omega arith) (ltb-true k first q) lk)
      go t k lk false q = rw q

  module _ {after : List ℕ} {d : ℕ} (r : ClearTo test N n before after d) where
    pub clear_all : N ≤ d → Cleared N (λ t k. test k && ltb t (n + 1)) before after
    clear_all m = table_same r.table (λ t k lk. rw (lt-ltb k d (omega arith)))

    module _ (ld : d < N) {e : ℕ} (is : e ≡ each next d) where
      onward : First test N (d + 1) e
      onward = rw is (w.onward d ld (r.here ld))

      pub clear_further : d < e
      clear_further = omega (arith, onward.after)

      pub clear_next : {cleared : List ℕ} → Cleared N (λ t k. eqb k d && ltb t (n + 1)) after cleared → ClearTo test N n before cleared e
      clear_next c = record {
        here = onward.here;
        table = record { long = c.long ∙ r.table.long; rows = λ t k lk. c.rows t k lk ∙ rw (r.table.rows t k lk) (go t k lk (ltb k d) refl (ltb k e) refl (eqb k d) refl) };
      }
        where
          go : (t k : ℕ) → k < N → (x : Bool) → ltb k d ≡ x → (y : Bool) → ltb k e ≡ y → (z : Bool) → eqb k d ≡ z
              → cond (eqb k d && ltb t (n + 1)) absent (cond ((ltb k d && test k) && ltb t (n + 1)) absent (entry N before t k)) ≡ cond ((ltb k e && test k) && ltb t (n + 1)) absent (entry N before t k)
          go t k lk x q y u true v = let f : k ≡ d = eqb-true k d v in rw (v, le-ltb k d (omega arith), lt-ltb k e (omega (arith, clear_further)), ap test f, r.here ld) (both (ltb t (n + 1)))
            where
              both : (b : Bool) → cond b absent (entry N before t k) ≡ cond b absent (entry N before t k)
              both b = refl
          go t k lk true q y u false v = let l = ltb-true k d q in rw (v, q, lt-ltb k e (omega (arith, clear_further)))
          go t k lk false q false u false v = rw (v, q, u)
          go t k lk false q true u false v =
              let l = ltb-false k d q in
              let g : k ≡ d → ⊥ = eqb-false k d v in
              rw (v, q, u, onward.none k (omega arith) (ltb-true k e u) lk)

-- one dart: no row is cleared; and one row more
module _ {N : ℕ} {before : List ℕ} (d : ℕ) where
  pub rows_none : Cleared N (λ t k. eqb k d && ltb t 0) before before
  rows_none = record { long = refl; rows = λ t k lk. go t k (eqb k d) }
    where
      go : (t k : ℕ) (x : Bool) → entry N before t k ≡ cond (x && ltb t 0) absent (entry N before t k)
      go t k true = rw (le-ltb t 0 (omega arith))
      go t k false = refl

  pub rows_more : {i : ℕ} {after : List ℕ} → Cleared N (λ t k. eqb k d && ltb t i) before after → Place N before i d → Cleared N (λ t k. eqb k d && ltb t (i + 1)) before (set after (i * N + d) absent)
  rows_more {i} r p = table_set r p absent (rw (eq-eqb d d refl, lt-ltb i (i + 1) (omega arith))) (λ t k lk ne. go t k ne (eqb k d) refl (ltb t i) refl)
    where
      go : (t k : ℕ) → (t ≡ i → k ≡ d → ⊥) → (x : Bool) → eqb k d ≡ x → (y : Bool) → ltb t i ≡ y → cond (eqb k d && ltb t i) absent (entry N before t k) ≡ cond (eqb k d && ltb t (i + 1)) absent (entry N before t k)
      go t k ne false q y u = rw q
      go t k ne true q true u = let l = ltb-true t i u in rw (q, u, lt-ltb t (i + 1) (omega arith))
      go t k ne true q false u =
          let l = ltb-false t i u in
          let g : t ≡ i → ⊥ = λ e. ne e (eqb-true k d q) in
          rw (q, u, le-ltb t (i + 1) (omega arith))
