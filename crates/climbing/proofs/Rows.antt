-- A row written place by place, and one that fills the front of a longer local row. Assumes nothing.
use mathlib.Core.Path.{◌≡◌, refl, sym, ◌∙◌}
use mathlib.Core.List.{List, ◌++◌}
use Prim.Native.Nat.{ℕ, ◌+◌, ◌≤◌, ◌<◌}
use native.Mathlib.Omega.{arith}
use lib.ListN.{length, get_or, set, take, drop, replicate, length-set, length-append, length-drop, length-replicate}
use lib.Seq.{get_or-set_other, take_at, length-take-le}
use Rattle.maps.specs.Table.{each, listed}
use Rattle.laws.proofs.Tables.{listed_of, set_below}

-- the places below d hold f, the others are as before
pub record RowTo (f : ℕ → ℕ) (d : ℕ) (before after : List ℕ) : Type 0 where
  pub long : length after ≡ length before
  pub done : (k : ℕ) → k < d → get_or after k 0 ≡ f k
  pub rest : (k : ℕ) → d ≤ k → get_or after k 0 ≡ get_or before k 0

pub row_none : (f : ℕ → ℕ) (before : List ℕ) → RowTo f 0 before before
row_none f before = record { long = refl; done = λ k l. absurd (omega arith); rest = λ k l. refl }

pub row_set : {f : ℕ → ℕ} {d : ℕ} {before after : List ℕ} → RowTo f d before after → d < length before → (v : ℕ) → v ≡ f d → RowTo f (d + 1) before (set after d v)
row_set {f} {d} {before} {after} r l v e =
    let z = r.long in
    record {
      long = length-set after d v ∙ r.long;
      done = set_below f after d v (omega arith) r.done e;
      rest = λ k m. get_or-set_other after d k v 0 (λ q. omega arith) ∙ r.rest k (omega arith);
    }

pub row_all : {f : ℕ → ℕ} {d : ℕ} {before after : List ℕ} → RowTo f d before after → (N : ℕ) → length before ≡ N → N ≤ d → after ≡ listed f N
row_all {f} {d} {before} {after} r N e l = listed_of f N after (r.long ∙ e) (λ k m. r.done k (omega arith))

-- a row written with the places of another is that row
pub row_copied : {from before after : List ℕ} {d : ℕ} → RowTo (each from) d before after → length before ≡ length from → length from ≤ d → after ≡ from
row_copied {from} r e l = row_all r (length from) e l ∙ sym (listed_of (each from) (length from) from refl (λ x m. refl))

-- a local row as it is made, and its first N places
abbrev pub blank : List ℕ
blank = replicate 4096 0

pub blank_part : (N : ℕ) → N ≤ 4096 → length (take N blank) ≡ N
blank_part N l = length-take-le N blank (omega (arith, length-replicate {A = ℕ} 4096 0))

-- a row that fills its first N places
module _ (N : ℕ) (list : List ℕ) (long : length list ≡ N) where
  pub part_is : take N (list ++ drop N blank) ≡ list
  part_is = take_at list (drop N blank) N long

  pub part_whole : N ≤ 4096 → length (list ++ drop N blank) ≡ 4096
  part_whole l = simp (length-append, length-drop) (omega (arith, length-replicate {A = ℕ} 4096 0))
