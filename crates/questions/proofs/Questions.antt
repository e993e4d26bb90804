-- Laws of what is tested before a walk. Assumes nothing.
use mathlib.Core.Path.{◌≡◌, sym, ◌∙◌}
use mathlib.Core.Bool.{Bool, true, false, ◌&&◌, not}
use Prim.Native.Nat.{ℕ, suc, ◌*◌, ◌≤◌, ◌<◌}
use lib.Dec.{ltb}
use lib.ListN.{length}
use borrow.Author.Tests.{ltb-true, ltb-false, lt-ltb, le-ltb, eqb-true, not-false}
use Rattle.maps.specs.Verdict.{Verdict, accepted, refused, when, ◌then◌}
use Rattle.maps.specs.Sizes.{sizes, number4, number11, number13, has_length}
use Rattle.maps.specs.Table.{each}
use Rattle.maps.specs.Folded.{gone, refused_marks, Folded}
use Rattle.maps.specs.Read.{question}
use Rattle.laws.proofs.Verdicts.{then_accepted, when_accepted, then_three}
use Rattle.laws.proofs.Sizes.{lent_sized, both_equal}
use Rattle.answers.specs.Numbers.{refusal_of}
use Rattle.answers.specs.Lent.{lent_of, asked_of}
use Rattle.answers.specs.declared.Refusal.{Refusal}
use Rattle.answers.proofs.Refusals.{refused_first}
use Rattle.questions.specs.Lent.{Lent}

-- base rows and marks have the exact lengths
abbrev pub pyramid_fits : Folded → Bool
pyramid_fits f = has_length f.rows (suc f.n * f.N) && (has_length f.lambda f.N && has_length f.delta f.N)

-- what accepted sizes, lengths and level tell
pub asked_lent : (f : Folded) (l i d : ℕ) → asked_of f.n f.N f.h (pyramid_fits f) l i d ≡ accepted → Lent f l
unfolding number11
asked_lent f l i d e =
    let record { n = n; N = N; h = h; rows = rows; lambda = lambda; delta = delta } = f in
    let fit = pyramid_fits f in
    let r = then_accepted (lent_of n N h fit) (number11 h l i d) e in
    let s = lent_sized n N h fit r.0 in
    let t = both_equal (length rows) (suc n * N) (has_length lambda N && has_length delta N) s.1 in
    let u = both_equal (length lambda) N (has_length delta N) t.1 in
    record {
      dimension = s.0.dimension;
      darts = s.0.darts;
      height = s.0.height;
      rows_length = t.0;
      lambda_length = u.0;
      delta_length = eqb-true (length delta) N u.1;
      level = ltb-false h l (when_accepted (ltb h l) 11 l i d r.1);
    }

module _ (f : Folded) (l i d : ℕ) where
  open f use {n, N, h, lambda, delta}

  abbrev first : Verdict
  first = asked_of n N h (pyramid_fits f) l i d

  -- the tests that come after them
  abbrev start : Verdict
  start =
      number13 n l i d
      then (when (not (ltb d N)) (refused 12 l i d)
      then (when (refused_marks n h (each lambda d) (each delta d)) (refused 8 l i d)
      then when (gone (each lambda) l d) (refused 12 l i d)))

  question_is : question f l i d ≡ first then start
  unfolding question
  question_is = then_three (sizes n N h) (number4 (pyramid_fits f)) (number11 h l i d) start

  pub question_refused : (r : Refusal) → refusal_of r ≡ first → refusal_of r ≡ question f l i d
  question_refused r e = refused_first (question f l i d) first start question_is r e

  -- what an accepted question tells
  pub question_walks : question f l i d ≡ accepted → Lent f l × (i ≤ n) × (d < N)
  unfolding number13
  question_walks e =
      let marks = when (refused_marks n h (each lambda d) (each delta d)) (refused 8 l i d) in
      let on = when (gone (each lambda) l d) (refused 12 l i d) in
      let dart = when (not (ltb d N)) (refused 12 l i d) in
      let r = then_accepted first start (sym question_is ∙ e) in
      let t = then_accepted (number13 n l i d) (dart then (marks then on)) r.1 in
      let u = then_accepted dart (marks then on) t.1 in (
        asked_lent f l i d r.0,
        ltb-false n i (when_accepted (ltb n i) 13 l i d t.0),
        ltb-true d N (not-false (ltb d N) (when_accepted (not (ltb d N)) 12 l i d u.0)),
      )

  -- sizes, lengths and level are accepted: what the tests after them give
  module _ (e : accepted ≡ first) where
    abbrev answer : Verdict
    answer = question f l i d

    is_start : (v : Verdict) → start ≡ v → v ≡ answer
    is_start v f = sym f ∙ (rw (← e)) ∙ sym question_is

    pub no_involution : n < i → refused 13 l i d ≡ answer
    unfolding number13
    no_involution x = is_start (refused 13 l i d) (rw (lt-ltb n i x))

    module _ (g : i ≤ n) where
      pub no_dart : N ≤ d → refused 12 l i d ≡ answer
      unfolding number13
      no_dart x = is_start (refused 12 l i d) (rw (le-ltb n i g, le-ltb d N x))

      module _ (k : d < N) {bad : Bool} (wb : bad ≡ refused_marks n h (each lambda d) (each delta d)) where
        pub start_marks : bad ≡ true → refused 8 l i d ≡ answer
        unfolding number13
        start_marks q = is_start (refused 8 l i d) (rw (le-ltb n i g, lt-ltb d N k, ← wb, q))

        pub start_gone : bad ≡ false → each lambda d < l → refused 12 l i d ≡ answer
        unfolding number13
        start_gone q x = is_start (refused 12 l i d) (rw (le-ltb n i g, lt-ltb d N k, ← wb, q, lt-ltb (each lambda d) l x))

        pub start_on : bad ≡ false → l ≤ each lambda d → accepted ≡ answer
        unfolding number13
        start_on q x = is_start accepted (rw (le-ltb n i g, lt-ltb d N k, ← wb, q, le-ltb (each lambda d) l x))
