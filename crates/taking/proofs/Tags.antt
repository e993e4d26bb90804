-- Laws of tags: a byte is the tag of a due kind exactly where it says that kind. Assumes nothing.
use mathlib.Core.Path.{◌≡◌, refl, sym, ap, ◌∙◌}
use mathlib.Core.Bool.{Bool, true, false, cond}
use Prim.Native.Nat.{ℕ, ◌+◌, ◌-◌, ◌≤◌}
use native.Mathlib.Omega.{arith}
use lib.Dec.{leb, eqb}
use borrow.Author.Tests.{eqb-true, leb-true, le-leb, lt-leb, eq-eqb, ne_eqb}
use Rattle.std.specs.Prelude.{Some, None}
use Rattle.laws.proofs.Verdicts.{and_both}
use Rattle.taking.specs.Kinds.{within, kind_of, tag_of, Due, Says}
use Rattle.taking.specs.declared.unpacking.Kind.{Kind}
use Rattle.taking.specs.declared.unpacking.Kind.TheVariants.{Header, Wide, Narrow, Lambda, Delta}

-- the kind of a due kind's tag
tag_kind : (due : Kind) → Due due → kind_of (tag_of due) ≡ Some due
tag_kind Header d = refl
tag_kind (Wide i) d = let z : 0x10 + i.0 - 0x10 ≡ i.0 = omega arith in rw (le-leb 0x10 (0x10 + i.0) (omega arith), le-leb (0x10 + i.0) 0x14 (omega arith), z)
tag_kind (Narrow i) d =
    let z : 0x20 + i.0 - 0x20 ≡ i.0 = omega arith in
    rw (le-leb 0x10 (0x20 + i.0) (omega arith), lt-leb (0x20 + i.0) 0x14 (omega arith), le-leb 0x20 (0x20 + i.0) (omega arith), le-leb (0x20 + i.0) 0x24 (omega arith), z)
tag_kind Lambda d = refl
tag_kind Delta d = refl

-- the tag of a byte's kind
kind_tag : (t : ℕ) (kind : Kind) → kind_of t ≡ Some kind → tag_of kind ≡ t
kind_tag t kind = go (within 0x10 0x14 t) refl (within 0x20 0x24 t) refl (eqb t 0x01) refl (eqb t 0x30) refl (eqb t 0x31) refl
  where
    low : (m x : ℕ) → within m x t ≡ true → m ≤ t
    low m x w = leb-true m t (and_both (leb m t) (leb t x) w).0

    go : (a : Bool) → within 0x10 0x14 t ≡ a → (b : Bool) → within 0x20 0x24 t ≡ b → (c : Bool) → eqb t 0x01 ≡ c → (d : Bool) → eqb t 0x30 ≡ d → (e : Bool) → eqb t 0x31 ≡ e
        → cond a (Some (Wide (record { 0 = t - 0x10 }))) (cond b (Some (Narrow (record { 0 = t - 0x20 }))) (cond c (Some Header) (cond d (Some Lambda) (cond e (Some Delta) None)))) ≡ Some kind → tag_of kind ≡ t
    go true p b q c r d s e u is = let l = low 0x10 0x14 p in let k : Wide (record { 0 = t - 0x10 }) ≡ kind = cc in rw (← k) (omega arith)
    go false p true q c r d s e u is = let l = low 0x20 0x24 q in let k : Narrow (record { 0 = t - 0x20 }) ≡ kind = cc in rw (← k) (omega arith)
    go false p false q true r d s e u is = let k : Header ≡ kind = cc in rw (← k) (sym (eqb-true t 0x01 r))
    go false p false q false r true s e u is = let k : Lambda ≡ kind = cc in rw (← k) (sym (eqb-true t 0x30 s))
    go false p false q false r false s true u is = let k : Delta ≡ kind = cc in rw (← k) (sym (eqb-true t 0x31 u))
    go false p false q false r false s false u is = absurd cc

pub due_tag : (t : ℕ) (due : Kind) (r : Bool) → Due due → Says r (kind_of t ≡ Some due) → r ≡ eqb t (tag_of due)
due_tag t due true d e = sym (eq-eqb t (tag_of due) (sym (kind_tag t due e)))
due_tag t due false d n = sym (ne_eqb t (tag_of due) (λ e. n (ap kind_of e ∙ tag_kind due d)))
