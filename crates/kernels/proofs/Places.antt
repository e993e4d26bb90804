-- A table rewritten in place, entry after entry. Assumes nothing.
use mathlib.Core.Path.{◌≡◌, refl, sym, ap, ◌∙◌}
use mathlib.Core.Bool.{Bool, true, false}
use mathlib.Core.List.{List}
use Prim.Native.Nat.{ℕ, ◌+◌, ◌*◌, ◌/◌, ◌%◌, ◌≤◌, ◌<◌}
use native.Mathlib.Omega.{arith}
use lib.ListN.{length, set, length-set}
use lib.Seq.{get_or-set_same, get_or-set_other}
use lib.Arith.{digits_div, digits_mod}
use lib.Dec.{eqb}
use borrow.Author.Tests.{eqb-true, eqb-false}
use Rattle.maps.specs.Table.{entry}
use Rattle.laws.proofs.Tables.{in_table, table_size}
use Rattle.answers.specs.Rows.{Rows}
use Rattle.kernels.specs.Ready.{Place, TableIs}

-- a row and a dart have their place
pub place : {n N : ℕ} {table : List ℕ} → Rows n N table → (i d : ℕ) → i ≤ n → d < N → Place N table i d
place {n} {N} s i d li ld =
    let t = table_size n N i s.dimension s.darts li in
    record { darts = s.darts; dart = ld; inside = omega (arith, in_table n N i d li ld, s.exact); small = omega (arith, s.exact) }

-- a table of the same length has the same shape, and the same places
pub shape_still : {n N : ℕ} {before after : List ℕ} → Rows n N before → length after ≡ length before → Rows n N after
shape_still s e = record { dimension = s.dimension; darts = s.darts; exact = e ∙ s.exact }

pub place_still : {N : ℕ} {before after : List ℕ} {i d : ℕ} → length after ≡ length before → Place N before i d → Place N after i d
place_still e p = record { darts = p.darts; dart = p.dart; inside = rw e p.inside; small = rw e p.small }

-- the same numbers at every entry
pub table_same : {N : ℕ} {f g : ℕ → ℕ → ℕ} {before after : List ℕ} → TableIs N f before after → ((t k : ℕ) → k < N → f t k ≡ g t k) → TableIs N g before after
table_same r same = record { long = r.long; rows = λ t k lk. r.rows t k lk ∙ same t k lk }

-- one entry is stored, and no other changes
pub table_set : {N : ℕ} {f g : ℕ → ℕ → ℕ} {before after : List ℕ} {i d : ℕ} → TableIs N f before after → Place N before i d → (v : ℕ) → v ≡ g i d → ((t k : ℕ) → k < N → (t ≡ i → k ≡ d → ⊥) → f t k ≡ g t k) → TableIs N g before (set after (i * N + d) v)
table_set {N} {f} {g} {before} {after} {i} {d} r p v is same = record { long = length-set after (i * N + d) v ∙ r.long; rows = λ t k lk. go t k lk (eqb t i) refl (eqb k d) refl }
  where
    other : (t k : ℕ) → k < N → (t ≡ i → k ≡ d → ⊥) → entry N (set after (i * N + d) v) t k ≡ g t k
    other t k lk ne =
        get_or-set_other after (i * N + d) (t * N + k) v 0 (λ z.
        ne (sym (digits_div t lk) ∙ ap (λ (x : ℕ). x / N) z ∙ digits_div i p.dart) (sym (digits_mod t lk) ∙ ap (λ (x : ℕ). x % N) z ∙ digits_mod i p.dart))
        ∙ r.rows t k lk ∙ same t k lk ne

    go : (t k : ℕ) → k < N → (x : Bool) → eqb t i ≡ x → (y : Bool) → eqb k d ≡ y → entry N (set after (i * N + d) v) t k ≡ g t k
    go t k lk false q y z = other t k lk (λ e w. eqb-false t i q e)
    go t k lk true q false z = other t k lk (λ e w. eqb-false k d z w)
    go t k lk true q true z = rw (eqb-true t i q, eqb-true k d z) (get_or-set_same after (i * N + d) v 0 (rw r.long p.inside) ∙ is)
