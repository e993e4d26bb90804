-- What an unfolding gives at each test before its walks, and after them. Assumes nothing.
use mathlib.Core.Path.{◌≡◌, refl, sym, ap, ◌∙◌}
use mathlib.Core.Bool.{Bool, true, false, cond, ◌&&◌, ◌||◌, not}
use mathlib.Core.List.{List}
use Prim.Native.Nat.{ℕ, zero, suc, ◌*◌}
use lib.Dec.{eqb, leb, ltb}
use lib.ListN.{length, replicate, length-replicate, get_or-replicate}
use borrow.Author.Tests.{eqb-true}
use Rattle.maps.specs.Verdict.{Verdict, accepted, refused, when, ◌then◌, scan}
use Rattle.maps.specs.Sizes.{number1, number2, number3, sizes, number4, number11, has_length}
use Rattle.maps.specs.Table.{each, listed, absent}
use Rattle.maps.specs.Folded.{refused_marks, Folded}
use Rattle.maps.specs.MarksBack.{at_marks8}
use Rattle.maps.specs.Unfold.{at_walk, unfold_lent, unfold_total, unfold_since, unfold_leaves}
use Rattle.laws.proofs.Verdicts.{then_accepted, then_three, and_both}
use Rattle.laws.proofs.Sizes.{lent_sized}
use Rattle.laws.proofs.Tables.{listed_of}
use Rattle.answers.specs.Numbers.{refusal_of, verdict_of}
use Rattle.answers.specs.Lent.{lent_of, asked_of}
use Rattle.answers.specs.declared.Refusal.{Refusal}
use Rattle.answers.proofs.Refusals.{refusal_refuses, refused_then, refused_first, refused_second}
use Rattle.questions.specs.Lent.{Lent}
use Rattle.questions.proofs.Questions.{pyramid_fits, asked_lent}
use Rattle.std.specs.Prelude.{Result, Ok, Err}
use Rattle.std.specs.Result.{is_err}
use Rattle.filling.specs.declared.Unfolding.{Unfolding}
use Rattle.filling.specs.Walks.{total_of, latest_of, walks_verdict, Leaves}

-- 5, 14 and 15: after these the table is 65,535 throughout
abbrev spoils : Verdict → Bool
spoils accepted = false
spoils (refused number level involution dart) = eqb number 5 || (eqb number 14 || eqb number 15)

-- other tests leave it as it was
then_keeps : (u v : Verdict) → spoils u ≡ false → spoils v ≡ false → spoils (u then v) ≡ false
then_keeps accepted v p q = q
then_keeps (refused k l i d) v p q = p

when_keeps : (t : Bool) (k l i d : ℕ) → spoils (refused k l i d) ≡ false → spoils (when t (refused k l i d)) ≡ false
when_keeps true k l i d p = p
when_keeps false k l i d p = refl

scan_keeps : (m : ℕ) (v : ℕ → Verdict) → ((x : ℕ) → spoils (v x) ≡ false) → spoils (scan m v) ≡ false
unfolding scan
scan_keeps zero v p = refl
scan_keeps (suc m) v p = then_keeps (scan m v) (v m) (scan_keeps m v p) (p m)

sizes_keep : (n N h : ℕ) → spoils (sizes n N h) ≡ false
unfolding sizes number1 number2 number3
sizes_keep n N h =
    then_keeps (number1 n) (number2 N then number3 h) (when_keeps (not (leb 1 n && leb n 4)) 1 0 0 0 refl)
    (then_keeps (number2 N) (number3 h) (when_keeps (not (leb 1 N && leb N 4096)) 2 0 0 0 refl) (when_keeps (ltb 32 h) 3 0 0 0 refl))

asked_keeps : (n N h : ℕ) (fit : Bool) (l : ℕ) → spoils (asked_of n N h fit l 0 0) ≡ false
unfolding number4 number11
asked_keeps n N h fit l =
    then_keeps (lent_of n N h fit) (number11 h l 0 0) (then_keeps (sizes n N h) (number4 fit) (sizes_keep n N h) (when_keeps (not fit) 4 0 0 0 refl)) (when_keeps (ltb h l) 11 l 0 0 refl)

-- a table of 65,535
blank : (m : ℕ) → replicate m absent ≡ listed (λ x. absent) m
blank m = listed_of (λ x. absent) m (replicate m absent) (length-replicate m absent) (λ x lt. get_or-replicate m x absent 0 lt)

and_four : (r s t u : Bool) → (r && (s && (t && u))) ≡ ((r && (s && t)) && u)
and_four true true t u = refl
and_four true false t u = refl
and_four false s t u = refl

module _ (f : Folded) (l : ℕ) (table : List ℕ) where
  open f use {n, N, h, rows, lambda, delta}

  abbrev answer : Verdict
  answer = unfold_lent f l table

  -- the tests in their order: sizes, lengths and level, then marks, then walks
  abbrev pub fits : Bool
  fits = pyramid_fits f && has_length table (suc n * N)

  abbrev first : Verdict
  first = asked_of n N h fits l 0 0

  abbrev marks : Verdict
  marks = scan N (at_marks8 n h (each lambda) (each delta) l)

  abbrev walks : Verdict
  walks = walks_verdict f l

  unfold_is : answer ≡ first then (marks then walks)
  unfolding unfold_lent at_marks8 at_walk
  unfold_is =
      ap (λ (fit : Bool). sizes n N h then (number4 fit then (number11 h l 0 0 then (marks then walks)))) (and_four (has_length rows (suc n * N)) (has_length lambda N) (has_length delta N) (has_length table (suc n * N)))
      ∙ then_three (sizes n N h) (number4 fits) (number11 h l 0 0) (marks then walks)

  -- what accepted sizes, lengths and level tell
  pub unfold_lent_lem : first ≡ accepted → Lent f l × (length table ≡ suc n * N)
  unfold_lent_lem e =
      let g = then_accepted (lent_of n N h fits) (number11 h l 0 0) e in
      let b = and_both (pyramid_fits f) (has_length table (suc n * N)) (lent_sized n N h fits g.0).1 in
      (asked_lent f l 0 0 (rw b.0 (rw (b.0, b.1) at e)), eqb-true (length table) (suc n * N) b.1)

  -- the contract's four clauses
  abbrev Gives : Verdict → ℕ → ℕ → List ℕ → Type 0
  Gives v total later after = (v ≡ answer) × ((total ≡ unfold_total f l table) × ((later ≡ unfold_since f l table) × (after ≡ unfold_leaves f l table)))

  refuses : (r : Refusal) {after : List ℕ} → refusal_of r ≡ answer → after ≡ cond (spoils (refusal_of r)) (listed (λ x. absent) (length table)) table → Gives (refusal_of r) 0 0 after
  unfolding unfold_total unfold_since unfold_leaves
  refuses r e g = let x = refusal_refuses r in (e, (rw (← e, x.is), (rw (← e, x.is), g ∙ rw (← e, x.is))))

  pub unfold_first : (r : Refusal) → refusal_of r ≡ first → Gives (refusal_of r) 0 0 table
  unfold_first r e = refuses r (refused_first answer first (marks then walks) unfold_is r e) (rw (ap spoils e ∙ asked_keeps n N h fits l))

  module _ (ok : accepted ≡ first) where
    pub unfold_marks : (r : Refusal) → refusal_of r ≡ marks → Gives (refusal_of r) 0 0 table
    unfolding at_marks8
    unfold_marks r e =
        refuses r (refused_second answer first (marks then walks) unfold_is r ok (refused_then r marks walks e))
        (rw (ap spoils e ∙ scan_keeps N (at_marks8 n h (each lambda) (each delta) l) (λ x. when_keeps (refused_marks n h (each lambda x) (each delta x)) 8 l 0 x refl)))

    -- after accepted marks the walks decide
    module _ (fine : accepted ≡ marks) where
      decides : answer ≡ walks
      decides = unfold_is ∙ (rw (← ok, ← fine))

      pub unfold_counted : {after : List ℕ} (w : Result Unfolding Refusal) → Leaves f l w after → false ≡ is_err w → Gives (verdict_of w) (total_of w) (latest_of w) after
      unfolding unfold_total unfold_since unfold_leaves at_walk
      unfold_counted (Ok u) left e =
          let all : walks ≡ accepted = sym left.first in
          (rw (decides, all), (rw (decides, all) (left.total all), (rw (decides, all) (left.since all), rw (decides, all) (left.level all))))
      unfold_counted (Err r) left e = absurd cc

      -- a walk's refusal spoils the table
      pub unfold_refused : {after : List ℕ} (w : Result Unfolding Refusal) → Leaves f l w after → true ≡ is_err w → length table ≡ suc n * N → {cleared : List ℕ} → cleared ≡ replicate (length after) absent → Gives (verdict_of w) (total_of w) (latest_of w) cleared
      unfold_refused (Ok u) left e size q = absurd cc
      unfold_refused {after} (Err r) left e size q =
          let x = refusal_refuses r in
          let spoilt : spoils (refusal_of r) ≡ true = rw x.is (left.stops x.number x.level x.involution x.dart (sym left.first ∙ x.is)) in
          refuses r (left.first ∙ sym decides) (rw spoilt (q ∙ blank (length after) ∙ ap (listed (λ x. absent)) (left.size ∙ sym size)))
