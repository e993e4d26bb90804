-- A kernel is whole cells whose every dart commutes. Assumes nothing.
use mathlib.Core.Path.{◌≡◌, refl, ap, ◌∙◌}
use mathlib.Core.Bool.{true}
use Prim.Native.Nat.{ℕ, ◌+◌, ◌-◌, ◌≤◌}
use native.Mathlib.Omega.{arith}
use borrow.Author.Tests.{ltb-true, lt-ltb}
use Rattle.maps.specs.Map.{Involutions}
use Rattle.maps.specs.Cell.{Cell, itself, onward}
use Rattle.maps.specs.Mark.{is_mark, between, has_beyond, beyond}
use Rattle.maps.specs.Kernel.{Kernel}
use Rattle.laws.proofs.Marks.{Kind, removes, shrinks, kind}

-- dart d ends at the same place by the mark's second row and then the row beyond it as in the other order
abbrev pub Commutes : Involutions → ℕ → ℕ → Type 0
Commutes a mark d = a (beyond mark) (a (between mark).1 d) ≡ a (between mark).1 (a (beyond mark) d)

-- A kernel is whole cells whose every dart commutes, where its mark has a row beyond.
module _ (a : Involutions) (n : ℕ) (present : ℕ → Type 0) (mark : ℕ → ℕ) where
  pub kernel_commutes : Kernel a n present mark → (d : ℕ) → present d → is_mark n (mark d) ≡ true → has_beyond n (mark d) ≡ true → Commutes a (mark d) d
  unfolding between has_beyond beyond
  kernel_commutes k d p q h = go (kind n (mark d) q)
    where
      go : Kind n (mark d) → Commutes a (mark d) d
      go (removes e l) = let f = ltb-true (mark d + 1) n (rw e at h) in rw e (k.removable d p q e (omega arith) d itself)
      go (shrinks e l m) = let f = ltb-true 1 (mark d - 8) (rw e at h) in rw e (k.contractible d p q e (omega arith) d itself)

  module _ (inside : (t d : ℕ) → t ≤ n → present d → present (a t d))
      (whole : (d j : ℕ) → present d → is_mark n (mark d) ≡ true → j ≤ n → (j ≡ (between (mark d)).0 → ⊥) → mark (a j d) ≡ mark d) where
    -- from a dart of the kernel its whole cell is in it
    pub cell_marked : (d e : ℕ) → present d → is_mark n (mark d) ≡ true → Cell a n (between (mark d)).0 d e → present e × (mark e ≡ mark d)
    cell_marked d e p q itself = (p, refl)
    cell_marked d _ p q (onward e j c lj ne) =
        let r = cell_marked d e p q c in
        (inside j e lj r.0, whole e j r.0 (rw r.1 q) lj (λ z. ne (z ∙ ap (λ (x : ℕ). (between x).0) r.1)) ∙ r.1)

    pub commutes_kernel : ((d : ℕ) → present d → is_mark n (mark d) ≡ true → has_beyond n (mark d) ≡ true → Commutes a (mark d) d) → Kernel a n present mark
    unfolding between has_beyond beyond
    commutes_kernel commutes = record {
      whole = whole;
      removable = λ d p q e f x c. rw e at (throughout d x p q (rw e (lt-ltb (mark d + 1) n (omega arith))) (rw e c));
      contractible = λ d p q e f x c. rw e at (throughout d x p q (rw e (lt-ltb 1 (mark d - 8) (omega arith))) (rw e c));
    }
      where
        throughout : (d e : ℕ) → present d → is_mark n (mark d) ≡ true → has_beyond n (mark d) ≡ true → Cell a n (between (mark d)).0 d e → Commutes a (mark d) e
        throughout d e p q h c = let r = cell_marked d e p q c in rw r.1 at (commutes e r.0 (rw r.1 q) (rw r.1 h))
