-- The table of a level, filled by involution, then dart, with the count of its walks and since which level their links stand. Assumes nothing.
use mathlib.Core.Path.{◌≡◌, refl, sym, ap, ◌∙◌}
use mathlib.Core.Bool.{true, false, cond}
use mathlib.Core.List.{List}
use Prim.Native.Nat.{ℕ, suc, ◌+◌, ◌*◌, ◌/◌, ◌%◌, ◌≤◌, ◌<◌, max}
use native.Mathlib.Nat.{zero-mul, add-zero}
use native.Mathlib.Numerals.{add-one}
use native.Mathlib.Omega.{arith}
use lib.ListN.{length, get_or, set, length-set}
use lib.Arith.{digits_div, digits_mod}
use borrow.Author.Tests.{lt-ltb, le-ltb}
use Rattle.maps.specs.Verdict.{Verdict, accepted, refused, scan}
use Rattle.maps.specs.Count.{sum}
use Rattle.maps.specs.Table.{each, absent, explicit}
use Rattle.maps.specs.Folded.{gone, survives, Folded, base, lambda_of, delta_of}
use Rattle.maps.specs.Walk.{Walked, ended, stopped, walk_at}
use Rattle.maps.specs.Trail.{largest, latest, since_at}
use Rattle.maps.specs.Cost.{reads, cost}
use Rattle.maps.specs.Unfold.{dart_of, at_walk}
use Rattle.laws.proofs.Verdicts.{not_refused, scan_first, scan_more}
use Rattle.laws.proofs.Tables.{listed_of, set_below, in_table, next_row}
use Rattle.std.specs.Prelude.{Ok, Err}
use Rattle.answers.specs.Numbers.{refusal_of}
use Rattle.answers.specs.declared.Level.{Level}
use Rattle.answers.specs.declared.Refusal.{Refusal}
use Rattle.filling.specs.Walks.{stops_walk, Leaves}

sum_more : (f : ℕ → ℕ) (m : ℕ) → sum f (m + 1) ≡ sum f m + f m
unfolding sum
sum_more f m = rw (add-one m)

largest_more : (f : ℕ → ℕ) (m : ℕ) → largest f (m + 1) ≡ max (largest f m) (f m)
unfolding largest
largest_more f m = rw (add-one m)

-- the number of a refusal
same_number : {k l i d m a b c : ℕ} → refused k l i d ≡ refused m a b c → k ≡ m
same_number e = cc

module _ (f : Folded) (l : ℕ) where
  open f use {n, N, h, rows, lambda, delta}

  abbrev the_walk : ℕ → ℕ → Walked
  the_walk i d = walk_at f l i d

  abbrev at : ℕ → ℕ → Verdict
  at = at_walk f l

  abbrev counts : ℕ → ℕ → ℕ
  counts = reads (base f) n N h (lambda_of f) (delta_of f) l

  abbrev stands : ℕ → ℕ → ℕ
  stands i d = since_at f l i d

  -- since which level a reading's link stands; only survivors are read
  abbrev sinces : ℕ → ℕ → ℕ
  sinces i d = cond (survives (each lambda) l d) (stands i d) 0

  -- what belongs at place x of the table
  abbrev right : ℕ → ℕ
  right x = cond (survives (each lambda) l (x % N)) (dart_of (the_walk (x / N) (x % N))) absent

  -- where the loops stand: rows below i are done, and of row i the darts below d
  pub record Filled (i d total later : ℕ) (table : List ℕ) : Type 0 where
    pub size : length table ≡ suc n * N
    pub rows_before : scan i (λ j. scan N (at j)) ≡ accepted
    pub darts_before : scan d (at i) ≡ accepted
    pub places : (x : ℕ) → x < i * N + d → get_or table x 0 ≡ right x
    pub counted : total ≡ sum (λ j. sum (counts j) N) i + sum (counts i) d
    pub raised : later ≡ max (largest (λ j. largest (sinces j) N) i) (largest (sinces i) d)
    pub small : total ≤ 8193 * (i * N + d)

  pub filled_none : {table : List ℕ} → length table ≡ suc n * N → Filled 0 0 0 0 table
  unfolding scan sum largest
  filled_none e = record { size = e; rows_before = refl; darts_before = refl; places = λ x lt. absurd (let z = zero-mul N in omega arith); counted = refl; raised = refl; small = omega arith }

module _ {f : Folded} {l i d total later : ℕ} {table : List ℕ} (s : Filled f l i d total later table) where
  open f use {n, N, lambda}

  -- a row is done
  pub filled_row : d ≡ N → Filled f l (i + 1) 0 total later table
  unfolding scan sum largest
  filled_row e =
      let r = next_row i N in
      let b : scan N (at f l i) ≡ accepted = rw e at s.darts_before in
      let k : total ≡ sum (λ j. sum (counts f l j) N) i + sum (counts f l i) N = rw e at s.counted in
      let z : later ≡ max (largest (λ j. largest (sinces f l j) N) i) (largest (sinces f l i) N) = rw e at s.raised in
      record {
        size = s.size;
        rows_before = scan_more (λ j. scan N (at f l j)) i s.rows_before b;
        darts_before = refl;
        places = λ x lt. s.places x (omega arith);
        counted = omega (arith, k, sum_more (λ j. sum (counts f l j) N) i);
        raised = omega (arith, z, largest_more (λ j. largest (sinces f l j) N) i);
        small = omega (arith, s.small);
      }

  -- all rows are done
  pub filled_all : i ≡ suc n → d ≡ 0 → {top : Level} → later ≡ top.0 → Leaves f l (Ok record { count = total; since = top }) table
  unfolding cost explicit sum latest largest
  filled_all e g y =
      let b : scan (suc n) (λ j. scan N (at f l j)) ≡ accepted = rw e at s.rows_before in
      let k : total ≡ sum (λ j. sum (counts f l j) N) (suc n) + sum (counts f l (suc n)) 0 = rw (e, g) at s.counted in
      let m : later ≡ max (largest (λ j. largest (sinces f l j) N) (suc n)) (largest (sinces f l (suc n)) 0) = rw (e, g) at s.raised in
      let z : suc n * N ≡ i * N + d = omega (arith, ap (λ (j : ℕ). j * N) e) in
      record { size = s.size; first = sym b; stops = λ number level row dart e. absurd (not_refused (sym e ∙ b)); total = λ _. omega (arith, k); since = λ _. omega (arith, m, y); level = λ _. listed_of (right f l) (suc n * N) table s.size (λ x lt. s.places x (omega arith)) }

  -- the walk of dart d by row i is next
  module _ (li : i ≤ n) (ld : d < N) where
    -- one more entry, after c reads, of a link that stands since level o
    more : {e c o : ℕ} → at f l i d ≡ accepted → e ≡ cond (survives (each lambda) l d) (dart_of (the_walk f l i d)) absent → c ≡ counts f l i d → c ≤ 8193 → o ≡ sinces f l i d
        → Filled f l i (d + 1) (total + c) (max later o) (set table (i * N + d) e)
    more {e} {c} passed is count few stood =
        let p = in_table n N i d li ld in
        record {
          size = simp length-set s.size;
          rows_before = s.rows_before;
          darts_before = scan_more (at f l i) d s.darts_before passed;
          places = λ x lt. set_below (right f l) table (i * N + d) e (omega (arith, p, s.size)) s.places (rw (digits_mod i ld, digits_div i ld) is) x (omega arith);
          counted = omega (arith, s.counted, count, sum_more (counts f l i) d);
          raised = omega (arith, s.raised, stood, largest_more (sinces f l i) d);
          small = omega (arith, s.small, few);
        }

    -- no walk begins at a dart that is not on the level
    pub filled_absent : each lambda d < l → {place : ℕ} → place ≡ i * N + d → {after : List ℕ} {sum top : ℕ} → after ≡ set table place absent → sum ≡ total → top ≡ later → Filled f l i (d + 1) sum top after
    unfolding at_walk reads
    filled_absent x is w q y =
        let g : gone (each lambda) l d ≡ true = lt-ltb (each lambda d) l x in
        let z : max later 0 ≡ later = omega arith in
        rw (w, is, q, y) (rw (add-zero, z) at (more {e = absent} {c = 0} {o = 0} (rw (g, at_walk)) (rw g) (rw g) (omega arith) (rw g)))

    module _ (on : l ≤ each lambda d) where
      there : gone (each lambda) l d ≡ false
      there = le-ltb (each lambda d) l on

      pub filled_end : {row e c o : ℕ} → the_walk f l i d ≡ ended row e c → c ≤ 8193 → o ≡ stands f l i d → {place : ℕ} → place ≡ i * N + d → {after : List ℕ} {sum top : ℕ} → after ≡ set table place e → sum ≡ total + c → top ≡ max later o → Filled f l i (d + 1) sum top after
      unfolding at_walk reads
      filled_end w few stood is g q y = rw (g, is, q, y) (more (rw (there, w, at_walk)) (rw (there, w)) (rw (there, w)) few (rw there stood))

      -- it is refused, the first of all
      pub filled_missed : {number row dart : ℕ} → the_walk f l i d ≡ stopped number row dart → {why : Refusal} → refusal_of why ≡ refused number l row dart → stops_walk number ≡ true → Leaves f l (Err why) table
      unfolding at_walk
      filled_missed {number} {row} {dart} w q k =
          let darts = scan_first N (at f l i) d number l row dart ld s.darts_before (rw (there, w, at_walk)) in
          let all = scan_first (suc n) (λ j. scan N (at f l j)) i number l row dart (omega arith) s.rows_before darts in
          record { size = s.size; first = q ∙ sym all; stops = λ m level t e x. rw (same_number (sym x ∙ all)) k; total = λ e. absurd (not_refused (sym all ∙ e)); since = λ e. absurd (not_refused (sym all ∙ e)); level = λ e. absurd (not_refused (sym all ∙ e)) }
