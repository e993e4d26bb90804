-- How many turns following all the links that a kernel makes takes: no more than the kernel has darts. Assumes nothing.
use mathlib.Core.Path.{◌≡◌}
use mathlib.Core.Bool.{Bool, true, false, cond, ◌&&◌, not}
use mathlib.Core.List.{List}
use Prim.Native.Nat.{ℕ, zero, suc, ◌+◌, ◌*◌, ◌≤◌, ◌<◌}
use native.Mathlib.Omega.{arith}
use lib.Dec.{ltb}
use borrow.Author.Tests.{not-true}
use Rattle.maps.specs.Count.{one, count, sum}
use Rattle.maps.specs.Mark.{is_mark, between}
use Rattle.maps.specs.Removal.{go_on, turns_from}
use Rattle.maps.specs.Table.{entry}
use Rattle.maps.specs.Explicit.{present, There}
use Rattle.laws.proofs.Counting.{sum_count}
use Rattle.laws.proofs.Verdicts.{and_both}
use Rattle.facts.proofs.Turns.{Way, way_from, follow_bound}
use Rattle.kernels.specs.Ready.{Ready, first_of_link, turns_made}

-- The entries of the table that `relink` reads: of each dart of the kernel where its mark's first row leads; if to a survivor, where that one leads; and
-- if it leads back, the link is followed, by two entries a turn.
unfoldable pub relink_reads : ℕ → ℕ → (ℕ → ℕ) → List ℕ → ℕ
relink_reads n N mark table =
    sum (λ d. cond (is_mark n (mark d)) (1 + cond (is_mark n (mark (entry N table (between (mark d)).0 d))) 0 (1 + cond (first_of_link n N mark table d) (2 * turns_from (entry N table) n mark N (between (mark d)).0 d) 0)) 0) N

sum_most : (f g p : ℕ → ℕ) (m : ℕ) → ((x : ℕ) → f x ≤ 2 * g x + 2 * p x) → sum f m ≤ 2 * sum g m + 2 * sum p m
unfolding sum
sum_most f g p zero h = omega arith
sum_most f g p (suc m) h = omega (arith, sum_most f g p m h, h m)

most : (x y z : Bool) (t : ℕ) → cond x (1 + cond y 0 (1 + cond z (2 * t) 0)) 0 ≤ 2 * one x + 2 * cond z t 0
most false y z t = omega arith
most true true z t = omega arith
most true false true t = omega arith
most true false false t = omega arith

module _ {n N : ℕ} {mark : ℕ → ℕ} {before : List ℕ} (r : Ready n N mark before) where
  -- no more than the kernel has darts
  pub turns_made_lem : turns_made n N mark before ≤ count (λ d. is_mark n (mark d)) N
  unfolding turns_made first_of_link
  turns_made_lem =
      let a = entry N before in
      follow_bound a n mark (There N (present N before)) r.tested.sound.valid r.kernel N (λ d p. p.0) (first_of_link n N mark before)
      (λ d ld q.
      let X = is_mark n (mark (a (between (mark d)).0 d)) in
      let Y = not (ltb (a (between (mark d)).0 (go_on a n mark N (between (mark d)).0 d)) d) in
      let w = and_both (is_mark n (mark d)) (not X && Y) q in
      ((ld, r.tested.marked d ld w.0), w.0, not-true X (and_both (not X) Y w.1).0))

  -- from a dart at which `relink` follows, the way takes N turns at most, meets no mark of another first row, and ends at a survivor
  pub links_way : (d : ℕ) → d < N → is_mark n (mark d) ≡ true → is_mark n (mark (entry N before (between (mark d)).0 d)) ≡ false
      → Way (entry N before) n mark (There N (present N before)) N (between (mark d)).0 d
  links_way d ld q s =
      let a = entry N before in
      way_from a n mark (There N (present N before)) r.tested.sound.valid r.kernel N (λ x p. p.0) d (ld, r.tested.marked d ld q) q s

  -- four entries for each dart of the kernel are the most
  pub relink_reads_lem : relink_reads n N mark before ≤ 4 * count (λ d. is_mark n (mark d)) N
  unfolding relink_reads turns_made
  relink_reads_lem =
      let a = entry N before in
      let turns : ℕ → ℕ = λ d. turns_from a n mark N (between (mark d)).0 d in
      let first = first_of_link n N mark before in
      let w = sum_most (λ d. cond (is_mark n (mark d)) (1 + cond (is_mark n (mark (a (between (mark d)).0 d))) 0 (1 + cond (first d) (2 * turns d) 0)) 0) (λ d. one (is_mark n (mark d))) (λ d. cond (first d) (turns d) 0) N
      (λ d. most (is_mark n (mark d)) (is_mark n (mark (a (between (mark d)).0 d))) (first d) (turns d)) in
      omega (arith, w, turns_made_lem, sum_count (λ d. is_mark n (mark d)) N)
