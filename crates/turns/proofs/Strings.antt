-- Each dart that goes stands in one string, once: the loops along the strings of all kernels together turn no more often than darts are gone. Assumes nothing.
use mathlib.Core.Path.{◌≡◌, refl, ap}
use mathlib.Core.Bool.{Bool, true, false, cond}
use mathlib.Core.List.{List}
use Prim.Native.Nat.{ℕ, zero, suc, ◌+◌, ◌-◌, ◌*◌, ◌≤◌, ◌<◌}
use native.Mathlib.Omega.{arith}
use lib.Dec.{eqb, ltb}
use borrow.Author.Tests.{ltb-true, ltb-false, eqb-true}
use Rattle.maps.specs.Count.{one, count, sum}
use Rattle.maps.specs.Mark.{is_mark}
use Rattle.maps.specs.Table.{each}
use Rattle.maps.specs.Folded.{removed_below}
use Rattle.laws.proofs.Counting.{count_more}
use Rattle.facts.proofs.Turns.{removed_suc}
use Rattle.kernels.specs.Strings.{kernel_row, First, Along, Linked, Strung}
use Rattle.turns.specs.Strings.{turns_along, turns_alike, alike_over, turns_over}
use Rattle.turns.proofs.Counts.{count_still, count_rises}

-- the loops along the runs of a string turn at most twice as often as one along the string does, whatever the marks
alike_turns : (mark : ℕ → ℕ) (N : ℕ) (next : List ℕ) (times m d : ℕ) → turns_alike mark N next times m d ≤ 2 * turns_along N next times d
unfolding turns_alike turns_along
alike_turns mark N next zero m d = omega arith
alike_turns mark N next (suc times) m d = go (ltb d N) (eqb (mark d) m) (alike_turns mark N next times (mark d) (each next d))
  where
    go : (x y : Bool) → turns_alike mark N next times (mark d) (each next d) ≤ 2 * turns_along N next times (each next d)
        → cond x (cond y 1 2 + turns_alike mark N next times (mark d) (each next d)) 0 ≤ 2 * cond x (suc (turns_along N next times (each next d))) 0
    go true true h = omega arith
    go true false h = omega arith
    go false y h = omega arith

-- and so do those of the strings of all kernels of a stretch
pub alike_over_lem : (mark : ℕ → ℕ) (N : ℕ) (head next : List ℕ) (times : ℕ → ℕ) (from to : ℕ) → alike_over mark N head next times from to ≤ 2 * turns_over N head next times from to
unfolding alike_over turns_over sum
alike_over_lem mark N head next times from to = go (to - from)
  where
    go : (m : ℕ) → sum (λ l. turns_alike mark N next (times (from + l)) (mark (each head (from + l))) (each head (from + l))) m ≤ 2 * sum (λ l. turns_along N next (times (from + l)) (each head (from + l))) m
    go zero = omega arith
    go (suc m) = omega (arith, go m, alike_turns mark N next (times (from + m)) (mark (each head (from + m))) (each head (from + m)))

-- one string
module _ (test : ℕ → Bool) (N : ℕ) (next : List ℕ) (onward : (d : ℕ) → d < N → test d ≡ true → First test N (d + 1) (each next d)) where
  -- one turn: the dart that it is at is the only one up to there that passes the test
  one_turn : (from d : ℕ) → d < N → First test N from d → count test (d + 1) ≡ count test from + 1
  one_turn from d l f =
      let e : count test d ≡ count test from = count_still test from d f.after (λ x g b. f.none x g b (omega arith)) in
      omega (arith, count_more test d, ap one (f.here l))

  most : (times from d : ℕ) → from ≤ N → First test N from d → count test from + turns_along N next times d ≤ count test N
  unfolding turns_along
  most zero from d l f = omega (arith, count_rises test from N l)
  most (suc times) from d l f = go (ltb d N) refl (λ b. most times (d + 1) (each next d) (omega arith) (onward d b (f.here b)))
    where
      go : (b : Bool) → ltb d N ≡ b → (d < N → count test (d + 1) + turns_along N next times (each next d) ≤ count test N)
          → count test from + cond b (suc (turns_along N next times (each next d))) 0 ≤ count test N
      go false q ih = omega (arith, count_rises test from N l)
      go true q ih = let b = ltb-true d N q in omega (arith, one_turn from d b f, ih b)

  all : (times from d : ℕ) → N ≤ times + from → from ≤ N → First test N from d → count test from + turns_along N next times d ≡ count test N
  unfolding turns_along
  all zero from d k l f = let e : from ≡ N = omega arith in rw e (omega arith)
  all (suc times) from d k l f = go (ltb d N) refl (λ b. all times (d + 1) (each next d) (omega (arith, f.after)) (omega arith) (onward d b (f.here b)))
    where
      go : (b : Bool) → ltb d N ≡ b → (d < N → count test (d + 1) + turns_along N next times (each next d) ≡ count test N)
          → count test from + cond b (suc (turns_along N next times (each next d))) 0 ≡ count test N
      go false q ih = omega (arith, count_still test from N l (λ x g b. f.none x g (omega (arith, ltb-false d N q)) b))
      go true q ih = let b = ltb-true d N q in omega (arith, one_turn from d b f, ih b)

module _ {test : ℕ → Bool} {N first : ℕ} {next : List ℕ} (s : Along test N first next) where
  -- however soon it is broken off, a loop along a string turns no more often than darts are strung
  pub along_most : (times : ℕ) → turns_along N next times first ≤ count test N
  unfolding count
  along_most times = omega (arith, most test N next s.onward times 0 first (omega arith) s.start)

  -- and where it is not, once for each of them
  pub along_all : (times : ℕ) → N ≤ times → turns_along N next times first ≡ count test N
  unfolding count
  along_all times k = omega (arith, all test N next s.onward times 0 first (omega arith) (omega arith) s.start)

-- the string that the functions of one kernel are lent has each dart of the kernel once
pub strung_turns : {n N l first : ℕ} {lambda delta next : List ℕ} → Strung n N l first lambda delta next → (times : ℕ) → turns_along N next times first ≤ count (λ d. is_mark n (kernel_row lambda delta l d)) N
strung_turns s times = along_most s.string times

module _ {N : ℕ} {Λ : ℕ → ℕ} {head next : List ℕ} (s : Linked N Λ 0 head next) where
  -- the string of one kernel
  pub linked_along : (k : ℕ) → k < 256 → Along (λ x. eqb (Λ x) k) N (each head k) next
  linked_along k l = record { start = s.heads k l; onward = λ d ld q. rw (eqb-true (Λ d) k q) at (s.onward d (omega arith) ld) }

  -- kernel k has as many turns as darts
  pub string_turns : (k : ℕ) → k < 256 → (times : ℕ) → turns_along N next times (each head k) ≤ count (λ x. eqb (Λ x) k) N
  string_turns k l times = along_most (linked_along k l) times

  levels : (times : ℕ → ℕ) (from m : ℕ) → from + m ≤ 256 → removed_below N Λ from + sum (λ l. turns_along N next (times (from + l)) (each head (from + l))) m ≤ removed_below N Λ (from + m)
  unfolding sum
  levels times from zero k = let e : from + 0 ≡ from = omega arith in rw e (omega arith)
  levels times from (suc m) k =
      let e : from + suc m ≡ suc (from + m) = omega arith in
      rw e (omega (arith, levels times from m (omega arith), string_turns (from + m) (omega arith) (times (from + m)), removed_suc Λ (from + m) N))

  -- the kernels from one level to below another: no more turns than darts are gone between the two
  pub stretch_turns : (times : ℕ → ℕ) (from to : ℕ) → from ≤ to → to ≤ 256 → removed_below N Λ from + turns_over N head next times from to ≤ removed_below N Λ to
  unfolding turns_over
  stretch_turns times from to l k = let e : from + (to - from) ≡ to = omega arith in rw e at (levels times from (to - from) (omega arith))
