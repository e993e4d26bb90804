-- The darts of a base can be strung by kernel. Assumes nothing.
use mathlib.Core.Path.{◌≡◌, refl, ◌∙◌}
use mathlib.Core.Bool.{Bool, true, false, true≢false}
use mathlib.Core.List.{List}
use Prim.Native.Nat.{ℕ, zero, suc, ◌+◌, ◌≤◌, ◌<◌}
use native.Mathlib.Omega.{arith}
use lib.ListN.{length, replicate, set, length-set, get_or-replicate}
use lib.Dec.{ltb}
use borrow.Author.Tests.{ltb-false}
use Rattle.maps.specs.Table.{each}
use Rattle.maps.specs.Folded.{Folded, lambda_of, delta_of, refused_marks}
use Rattle.kernels.specs.Strings.{Linked}
use Rattle.kernels.proofs.Strung.{linked_none, linked_more}
use Rattle.climbing.specs.Climb.{Base}

-- strings of the darts from d on
pub record Strings (N : ℕ) (Λ : ℕ → ℕ) (d : ℕ) : Type 0 where
  pub head : List ℕ
  pub next : List ℕ
  pub linked : Linked N Λ d head next
  pub heads : length head ≡ 256
  pub room : length next ≡ 4096

-- the darts from the last to the first, one after the other
strings_from : (N : ℕ) (Λ : ℕ → ℕ) → N ≤ 4096 → ((d : ℕ) → d < N → Λ d < 256) → (k d : ℕ) → N ≡ d + k → Strings N Λ d
strings_from N Λ lN low zero d e =
    let z : d ≡ N = omega arith in
    rw z (record { head = replicate 256 65535; next = replicate 4096 0; linked = linked_none Λ (replicate 4096 0) lN (λ k lk. get_or-replicate 256 k 65535 0 lk); heads = refl; room = refl })
strings_from N Λ lN low (suc k) d e =
    let s = strings_from N Λ lN low k (d + 1) (omega arith) in
    let ld : d < N = omega arith in
    record {
      head = set s.head (Λ d) d;
      next = set s.next d (each s.head (Λ d));
      linked = linked_more s.linked d (Λ d) refl ld refl (low d ld) s.heads (omega (arith, s.room));
      heads = length-set s.head (Λ d) d ∙ s.heads;
      room = length-set s.next d (each s.head (Λ d)) ∙ s.room;
    }

module _ (f : Folded) (b : Base f) where
  -- Λ is a level
  low : (d : ℕ) → d < f.N → lambda_of f d < 256
  low d ld = go (ltb f.h (lambda_of f d)) refl (b.allowed d ld)
    where
      go : (x : Bool) → ltb f.h (lambda_of f d) ≡ x → refused_marks f.n f.h (lambda_of f d) (delta_of f d) ≡ false → lambda_of f d < 256
      go true q r = absurd (true≢false (rw q at r))
      go false q r = omega (arith, ltb-false f.h (lambda_of f d) q, b.height)

  pub strings : Strings f.N (lambda_of f) 0
  strings = strings_from f.N (lambda_of f) b.darts low f.N 0 (omega arith)
