-- The loops along the strings, over a whole climb: one stretch after the other, as a check, an added level, a census, a join, a new base and region names climb. Assumes nothing.
use mathlib.Core.Path.{◌≡◌, refl, sym, ◌∙◌}
use mathlib.Core.Bool.{Bool, true, false, cond}
use mathlib.Core.List.{List}
use Prim.Native.Nat.{ℕ, zero, suc, ◌+◌, ◌-◌, ◌*◌, ◌≤◌, ◌<◌}
use native.Mathlib.Omega.{arith}
use lib.Dec.{eqb, ltb}
use borrow.Author.Tests.{ltb-true, lt-ltb, eqb-true}
use Rattle.maps.specs.Count.{sum}
use Rattle.maps.specs.Table.{each}
use Rattle.maps.specs.Folded.{gone, removed_below}
use Rattle.maps.specs.Join.{joinΛ}
use Rattle.kernels.specs.Strings.{Linked}
use Rattle.turns.specs.Strings.{turns_along, turns_over}
use Rattle.turns.proofs.Counts.{count_within}
use Rattle.turns.proofs.Strings.{string_turns, stretch_turns}

-- what is gone from a level is gone from every higher one
pub removed_rises : (N : ℕ) (Λ : ℕ → ℕ) (l h : ℕ) → l ≤ h → removed_below N Λ l ≤ removed_below N Λ h
removed_rises N Λ l h k = count_within (gone Λ l) (gone Λ h) N (λ d ld q. lt-ltb (Λ d) h (omega (arith, ltb-true (Λ d) l q)))

module _ {N : ℕ} {Λ : ℕ → ℕ} {head next : List ℕ} (s : Linked N Λ 0 head next) where
  -- stretches one after the other, each from where the one before it ends: a check has one, a join two, a census one for each level
  pub climb_turns : (cut : ℕ → ℕ) (times : ℕ → ℕ → ℕ) (m : ℕ) → ((k : ℕ) → k < m → cut k ≤ cut (suc k)) → cut m ≤ 256
      → removed_below N Λ (cut 0) + sum (λ k. turns_over N head next (times k) (cut k) (cut (suc k))) m ≤ removed_below N Λ (cut m)
  unfolding sum
  climb_turns cut times zero rises low = omega arith
  climb_turns cut times (suc m) rises low =
      let up = rises m (omega arith) in
      omega (arith, climb_turns cut times m (λ k l. rises k (omega arith)) (omega arith), stretch_turns s (times m) (cut m) (cut (suc m)) up low)

  -- Joining kernels l and l+1: the climb to level l and on from it is one climb.
  pub join_turns : (times : ℕ → ℕ → ℕ) (l h : ℕ) → l ≤ h → h ≤ 256 → turns_over N head next (times 0) 0 l + turns_over N head next (times 1) l h ≤ removed_below N Λ h
  join_turns times l h k low = omega (arith, stretch_turns s (times 0) 0 l (omega arith) (omega arith), stretch_turns s (times 1) l h k low)

  -- Where the joined kernel is refused there is another to level l, along strings that are made anew.
  pub join_turns_refused : {head₂ next₂ : List ℕ} → Linked N Λ 0 head₂ next₂ → (times : ℕ → ℕ → ℕ) (l h : ℕ) → l ≤ h → h ≤ 256
      → turns_over N head next (times 0) 0 l + turns_over N head next (times 1) l h + turns_over N head₂ next₂ (times 2) 0 l ≤ 2 * removed_below N Λ h
  join_turns_refused s₂ times l h k low =
      omega (arith, join_turns times l h k low, stretch_turns s₂ (times 2) 0 l (omega arith) (omega arith), removed_rises N Λ l h k)

-- The string of the joined kernel has the darts of both, which are gone from level h.
pub joined_turns : {N : ℕ} {Λ' : ℕ → ℕ} {head next : List ℕ} → Linked N Λ' 0 head next → (Λ : ℕ → ℕ) (l h : ℕ) → ((d : ℕ) → d < N → Λ' d ≡ joinΛ l Λ d) → suc l < h → h ≤ 256
    → (times : ℕ) → turns_along N next times (each head l) ≤ removed_below N Λ h
joined_turns {N} {Λ'} {head} {next} s Λ l h is k low times =
    omega (arith, string_turns s l (omega arith) times, count_within (λ x. eqb (Λ' x) l) (gone Λ h) N (λ d ld q. lt-ltb (Λ d) h (go (Λ d) (ltb l (Λ d)) refl (sym (is d ld) ∙ eqb-true (Λ' d) l q))))
  where
    go : (x : ℕ) (b : Bool) → ltb l x ≡ b → cond b (x - 1) x ≡ l → x < h
    go x true p e = omega (arith, ltb-true l x p)
    go x false p e = omega arith
