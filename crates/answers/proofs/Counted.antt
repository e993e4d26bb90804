-- Laws of the survivors among the first darts. Assumes nothing.
use mathlib.Core.Path.{◌≡◌, ◌∙◌}
use mathlib.Core.Bool.{true, false}
use mathlib.Core.List.{List}
use Prim.Native.Nat.{ℕ, ◌+◌, ◌≤◌, ◌<◌}
use native.Mathlib.Omega.{arith}
use native.Mathlib.Numerals.{add-one}
use lib.ListN.{take, drop}
use lib.Seq.{get_or-take, get_or-drop}
use Rattle.maps.specs.Count.{count}
use Rattle.maps.specs.Folded.{gone, survives, survivors}
use Rattle.maps.specs.Table.{each}
use Rattle.laws.proofs.Counting.{count_add, count_same}

module _ (Λ : ℕ → ℕ) (l d passed : ℕ) (e : passed ≡ survivors d Λ l) where
  -- a dart that is on the level
  pub one_more : gone Λ l d ≡ false → passed + 1 ≡ survivors (d + 1) Λ l
  unfolding count
  one_more next = rw (add-one d, next) (omega (arith, e))

  -- a dart that is gone
  pub no_more : gone Λ l d ≡ true → passed ≡ survivors (d + 1) Λ l
  unfolding count
  no_more next = rw (add-one d, next) (omega (arith, e))

-- darts passed, and those of a part behind them
pub part_more : (xs : List ℕ) (s m t l passed more : ℕ) → m ≤ t → passed ≡ survivors s (each xs) l
    → more ≡ survivors m (each (take t (drop s xs))) l → passed + more ≡ survivors (s + m) (each xs) l
part_more xs s m t l passed more h e f =
    let part = take t (drop s xs) in
    let same : (k : ℕ) → k < m → each part k ≡ each xs (s + k) = λ k g. get_or-take t (drop s xs) k 0 (omega arith) ∙ get_or-drop s xs k 0 in
    omega (arith, e, f, count_add (survives (each xs) l) s m, count_same (survives (each part) l) (λ x. survives (each xs) l (s + x)) m (λ k g. rw (same k g)))
