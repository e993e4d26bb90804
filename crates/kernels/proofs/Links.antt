-- How many turns the links that begin at the darts passed so far take. Assumes nothing.
use mathlib.Core.Path.{◌≡◌, refl, sym, ap, ◌∙◌}
use mathlib.Core.Bool.{Bool, true, false, cond}
use mathlib.Core.List.{List}
use Prim.Native.Nat.{ℕ, zero, suc, ◌+◌, ◌-◌, ◌*◌, ◌≤◌, ◌<◌}
use native.Mathlib.Nat.{add-zero, add-suc}
use native.Mathlib.Numerals.{add-one}
use native.Mathlib.Omega.{arith}
use lib.Dec.{ltb}
use borrow.Author.Tests.{ltb-true, ltb-false, lt-ltb, le-ltb}
use Rattle.maps.specs.Count.{sum}
use Rattle.maps.specs.Map.{Involutions}
use Rattle.maps.specs.Mark.{is_mark, between}
use Rattle.maps.specs.Removal.{marked, turns_from}
use Rattle.maps.specs.Table.{entry}
use Rattle.laws.proofs.Counting.{sum_same}
use Rattle.kernels.specs.Strings.{First, Along}
use Rattle.kernels.specs.Ready.{first_of_link, turns_made}
use Rattle.kernels.specs.Relinked.{begins, turns_at, turns_to}

-- where every number is 0, a sum stays
sum_gap : (f : ℕ → ℕ) (m k : ℕ) → ((x : ℕ) → m ≤ x → x < m + k → f x ≡ 0) → sum f (m + k) ≡ sum f m
unfolding sum
sum_gap f m zero h = rw add-zero
sum_gap f m (suc k) h = rw (add-suc, h (m + k) (omega arith) (omega arith)) (omega (arith, sum_gap f m k (λ x g l. h x g (omega arith))))

sum_still : (f : ℕ → ℕ) (m k : ℕ) → m ≤ k → ((x : ℕ) → m ≤ x → x < k → f x ≡ 0) → sum f k ≡ sum f m
sum_still f m k l h = let e : m + (k - m) ≡ k = omega arith in sym (ap (sum f) e) ∙ sum_gap f m (k - m) (λ x g b. h x g (omega arith))

-- numbers of at most 4,096
sum_most : (f : ℕ → ℕ) (m : ℕ) → ((x : ℕ) → f x ≤ 4096) → sum f m ≤ 4096 * m
unfolding sum
sum_most f zero h = omega arith
sum_most f (suc m) h = omega (arith, sum_most f m h, h m)

-- no more turns than there may be
pub turns_fit : (a : Involutions) (n : ℕ) (mark : ℕ → ℕ) (times i d : ℕ) → turns_from a n mark times i d ≤ times
unfolding turns_from
turns_fit a n mark zero i d = omega arith
turns_fit a n mark (suc times) i d = go (marked a n mark i d) (turns_fit a n mark times i (a i (a (between (mark d)).1 d)))
  where
    go : (x : Bool) → turns_from a n mark times i (a i (a (between (mark d)).1 d)) ≤ times → (elim x as (λ x. ℕ) [ true ↦ suc (turns_from a n mark times i (a i (a (between (mark d)).1 d))) | false ↦ 0 ]) ≤ suc times
    go true h = omega arith
    go false h = omega arith

module _ (n N : ℕ) (mark : ℕ → ℕ) (before : List ℕ) where
  no_dart : (x : ℕ) → N ≤ x → cond (begins n N mark before x) (turns_at n N mark before x) 0 ≡ 0
  no_dart x l = rw (le-ltb x N l)

  -- a dart that is not marked begins n N mark before none
  unmarked : (x : ℕ) → (x < N → is_mark n (mark x) ≡ false) → cond (begins n N mark before x) (turns_at n N mark before x) 0 ≡ 0
  unfolding first_of_link
  unmarked x h = go (ltb x N) refl
    where
      go : (y : Bool) → ltb x N ≡ y → cond (begins n N mark before x) (turns_at n N mark before x) 0 ≡ 0
      go true q = rw (q, h (ltb-true x N q))
      go false q = rw q

  -- they are at most N for each dart
  pub turns_few : (d : ℕ) → N ≤ 4096 → turns_to n N mark before d ≤ 4096 * d
  turns_few d l = sum_most (λ x. cond (begins n N mark before x) (turns_at n N mark before x) 0) d (λ x. go (begins n N mark before x) (turns_fit (entry N before) n mark N (between (mark x)).0 x))
    where
      go : {t : ℕ} (y : Bool) → t ≤ N → cond y t 0 ≤ 4096
      go true h = omega arith
      go false h = omega arith

  pub turns_all : (d : ℕ) → N ≤ d → turns_to n N mark before d ≡ turns_made n N mark before
  unfolding turns_made
  turns_all d m =
      sum_still (λ x. cond (begins n N mark before x) (turns_at n N mark before x) 0) N d m (λ x f l. no_dart x f)
      ∙ sum_same (λ x. cond (begins n N mark before x) (turns_at n N mark before x) 0) (λ x. cond (first_of_link n N mark before x) (turns_at n N mark before x) 0) N (λ x l. rw (lt-ltb x N l))

  -- and few in all
  pub turns_most : (d : ℕ) → N ≤ 4096 → turns_to n N mark before d ≤ 16777216
  turns_most d l = go (ltb d N) refl
    where
      go : (y : Bool) → ltb d N ≡ y → turns_to n N mark before d ≤ 16777216
      go true q = omega (arith, turns_few d l, ltb-true d N q)
      go false q = let m = ltb-false d N q in omega (arith, turns_few N l, turns_all N (omega arith), turns_all d m)

  module _ {first : ℕ} {next : List ℕ} (w : Along (λ x. is_mark n (mark x)) N first next) where
    pub turns_start : turns_to n N mark before first ≡ 0
    unfolding sum
    turns_start = sum_still (λ x. cond (begins n N mark before x) (turns_at n N mark before x) 0) 0 first (omega arith) (λ x f l. unmarked x (w.start.none x f l))

    pub turns_next : (d e : ℕ) → d < N → First (λ x. is_mark n (mark x)) N (d + 1) e → turns_to n N mark before e ≡ turns_to n N mark before d + cond (first_of_link n N mark before d) (turns_at n N mark before d) 0
    unfolding sum
    turns_next d e ld on = sum_still (λ x. cond (begins n N mark before x) (turns_at n N mark before x) 0) (d + 1) e on.after (λ x f l. unmarked x (on.none x f l)) ∙ rw (add-one, lt-ltb d N ld)
