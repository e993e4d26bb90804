-- The job's tests in two parts, the first as `asked` makes them, and what they tell. Assumes nothing.
use mathlib.Core.Path.{◌≡◌, sym, ◌∙◌}
use mathlib.Core.Bool.{◌&&◌}
use mathlib.Core.List.{List}
use Prim.Native.Nat.{ℕ}
use lib.ListN.{length}
use borrow.Author.Tests.{eqb-true}
use Rattle.maps.specs.Table.{each}
use Rattle.maps.specs.Verdict.{Verdict, accepted, ◌then◌, scan}
use Rattle.maps.specs.Sizes.{sizes, number4, number11, has_length}
use Rattle.maps.specs.MarksBack.{at_marks8, marks_lent}
use Rattle.laws.proofs.Verdicts.{then_accepted, then_three}
use Rattle.laws.proofs.Sizes.{lent_sized, both_equal}
use Rattle.answers.specs.Lent.{lent_of, asked_of}
use Rattle.answers.specs.Marked.{marks_refusal}
use Rattle.answers.specs.Numbers.{refusal_of}
use Rattle.answers.specs.declared.Refusal.{Refusal}
use Rattle.answers.proofs.Marked.{marks_decide}
use Rattle.answers.proofs.Refusals.{refused_first, refused_second, accepted_both}

module _ (n N h : ℕ) (lambda delta : List ℕ) (l : ℕ) (out : List ℕ) where
  abbrev asked : Verdict
  asked = asked_of n N h (has_length lambda N && (has_length delta N && has_length out N)) l 0 0

  abbrev scanned : Verdict
  scanned = scan N (at_marks8 n h (each lambda) (each delta) l)

  abbrev lent : Verdict
  lent = marks_lent n N h lambda delta l out

  pub marks_lent_lem : lent ≡ asked then scanned
  unfolding marks_lent at_marks8
  marks_lent_lem = then_three (sizes n N h) (number4 (has_length lambda N && (has_length delta N && has_length out N))) (number11 h l 0 0) scanned

  -- what is asked, once it is accepted: all three lengths
  pub record Asked : Type 0 where
    pub lambda_long : length lambda ≡ N
    pub delta_long : length delta ≡ N
    pub out_long : length out ≡ N

  pub asked_passed : accepted ≡ asked → Asked
  asked_passed e =
      let fit = has_length lambda N && (has_length delta N && has_length out N) in
      let p = then_accepted (lent_of n N h fit) (number11 h l 0 0) (sym e) in
      let q = both_equal (length lambda) N (has_length delta N && has_length out N) (lent_sized n N h fit p.0).1 in
      let r = both_equal (length delta) N (has_length out N) q.1 in
      record { lambda_long = q.0; delta_long = r.0; out_long = eqb-true (length out) N r.1 }

  -- refused by what is asked of every job, or after it by the marks, or accepted by both
  pub asked_refused : (r : Refusal) → refusal_of r ≡ asked → refusal_of r ≡ lent
  asked_refused = refused_first lent asked scanned marks_lent_lem

  module _ (passed : accepted ≡ asked) where
    -- with exact lengths number 8 is what is left to test
    decide : marks_refusal n N h lambda delta l ≡ scanned
    decide = let a = asked_passed passed in marks_decide n N h lambda delta l a.lambda_long a.delta_long

    pub marks_refused : (r : Refusal) → refusal_of r ≡ marks_refusal n N h lambda delta l → refusal_of r ≡ lent
    marks_refused r e = refused_second lent asked scanned marks_lent_lem r passed (e ∙ decide)

    pub both_passed : accepted ≡ marks_refusal n N h lambda delta l → accepted ≡ lent
    both_passed e = accepted_both lent asked scanned marks_lent_lem passed (e ∙ decide)
