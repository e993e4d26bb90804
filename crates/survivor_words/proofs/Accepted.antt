-- The job's tests in two parts, the first as `asked` makes them, and what they tell. Assumes nothing.
use mathlib.Core.Path.{◌≡◌, refl, sym, ap, ◌∙◌}
use mathlib.Core.Bool.{Bool, true, false, ◌&&◌}
use mathlib.Core.List.{List}
use Prim.Native.Nat.{ℕ, zero, suc, ◌≤◌, ◌<◌, max}
use native.Mathlib.Omega.{arith}
use lib.Dec.{eqb, ltb}
use lib.ListN.{length, get_or, take}
use lib.Seq.{take_all}
use native.Mathlib.Numerals.{add-one}
use borrow.Author.Tests.{eqb-true, eqb-false, ltb-false, le-ltb}
use Rattle.maps.specs.Table.{each}
use Rattle.maps.specs.Verdict.{Verdict, accepted, refused, ◌then◌, scan}
use Rattle.maps.specs.Sizes.{sizes, number4, number11, has_length}
use Rattle.maps.specs.Survivors.{at_lambda8, survivors_lent}
use Rattle.laws.proofs.Verdicts.{then_accepted, then_three, when_accepted, scan_accepted, scan_all}
use Rattle.laws.proofs.Sizes.{lent_sized, both_equal}
use Rattle.answers.specs.Lent.{lent_of, asked_of}
use Rattle.answers.specs.Numbers.{refusal_of}
use Rattle.answers.specs.declared.Refusal.{Refusal}
use Rattle.answers.proofs.Refusals.{refused_first, refused_second, accepted_both}
use Rattle.std.specs.Prelude.{Some, None, position}
use Rattle.std.specs.List.{fold}
use Rattle.std.proofs.lemmas.List.Sums.{fold_more}
use Rattle.std.proofs.lemmas.List.Quantifiers.{position-Some}
use Rattle.answers.proofs.Firsts.{scan_found, scan_none}

-- the largest of some numbers is none below
largest_to : (xs : List ℕ) (d m : ℕ) → d < m → m ≤ length xs → each xs d ≤ fold max 0 (take m xs)
largest_to xs d zero l lm = absurd (omega arith)
largest_to xs d (suc m) l lm = go (eqb d m) refl (λ k. largest_to xs d m k (omega arith))
  where
    more : fold max 0 (take (suc m) xs) ≡ max (fold max 0 (take m xs)) (each xs m)
    more = ap (λ (k : ℕ). fold max 0 (take k xs)) (sym (add-one m)) ∙ fold_more max 0 xs m 0 (omega arith)

    go : (x : Bool) → eqb d m ≡ x → (d < m → each xs d ≤ fold max 0 (take m xs)) → each xs d ≤ fold max 0 (take (suc m) xs)
    go true q before = omega (arith, more, ap (each xs) (eqb-true d m q))
    go false q before = let ne = eqb-false d m q in omega (arith, more, before (omega arith))

pub below_largest : (xs : List ℕ) (d : ℕ) → d < length xs → each xs d ≤ fold max 0 xs
below_largest xs d l = rw (take_all (length xs) xs (omega arith)) at (largest_to xs d (length xs) l (omega arith))

-- number 8 of Λ alone, by the first dart above h
module _ (h : ℕ) (lambda : List ℕ) (l : ℕ) where
  abbrev at_dart : ℕ → Verdict
  at_dart = at_lambda8 h (each lambda) l

  fine : (x : ℕ) → x < length lambda → ltb h (get_or lambda x 0) ≡ false → at_dart x ≡ accepted
  unfolding at_lambda8
  fine x k q = rw q

  due : (x : ℕ) → ltb h (get_or lambda x 0) ≡ true → at_dart x ≡ refused 8 l 0 x
  unfolding at_lambda8
  due x q = rw q

  pub above_found : (N d : ℕ) → length lambda ≡ N → position (λ own. ltb h own) lambda ≡ Some d → (d < N) × (refused 8 l 0 d ≡ scan N at_dart)
  above_found N d long found =
      let k = (position-Some (λ own. ltb h own) lambda d 0 found).0 in
      (omega (arith, k, long), sym (ap (λ (m : ℕ). scan m at_dart) (sym long) ∙ scan_found (λ own. ltb h own) lambda 0 at_dart fine d 8 l 0 d found (due d)))

  pub above_none : (N : ℕ) → length lambda ≡ N → position (λ own. ltb h own) lambda ≡ None → accepted ≡ scan N at_dart
  above_none N long none = sym (ap (λ (m : ℕ). scan m at_dart) (sym long) ∙ scan_none (λ own. ltb h own) lambda 0 at_dart fine none)

  pub none_above : (N : ℕ) → length lambda ≡ N → fold max 0 lambda ≤ h → accepted ≡ scan N at_dart
  unfolding at_lambda8
  none_above N long low = sym (scan_all N at_dart (λ d f. rw (le-ltb h (each lambda d) (let b = below_largest lambda d (omega arith) in omega (arith, b)))))

module _ (N h : ℕ) (lambda : List ℕ) (l : ℕ) (words : List ℕ) where
  abbrev asked : Verdict
  asked = asked_of 1 N h (has_length lambda N && has_length words 64) l 0 0

  abbrev scanned : Verdict
  scanned = scan N (at_lambda8 h (each lambda) l)

  pub survivors_lent_lem : survivors_lent N h lambda l words ≡ asked then scanned
  unfolding survivors_lent at_lambda8
  survivors_lent_lem = then_three (sizes 1 N h) (number4 (has_length lambda N && has_length words 64)) (number11 h l 0 0) scanned

  -- refused by what is asked of every job, or after it by a dart, or accepted by both
  pub asked_refused : (r : Refusal) → refusal_of r ≡ asked → refusal_of r ≡ survivors_lent N h lambda l words
  asked_refused = refused_first (survivors_lent N h lambda l words) asked scanned survivors_lent_lem

  pub scan_refused : (r : Refusal) → accepted ≡ asked → refusal_of r ≡ scanned → refusal_of r ≡ survivors_lent N h lambda l words
  scan_refused = refused_second (survivors_lent N h lambda l words) asked scanned survivors_lent_lem

  pub both_passed : accepted ≡ asked → accepted ≡ scanned → accepted ≡ survivors_lent N h lambda l words
  both_passed = accepted_both (survivors_lent N h lambda l words) asked scanned survivors_lent_lem

  -- what is asked, once it is accepted: lengths and level
  pub record Asked : Type 0 where
    pub lambda_long : length lambda ≡ N
    pub words_long : length words ≡ 64
    pub height : h ≤ 32
    pub level : l ≤ h

  pub asked_passed : accepted ≡ asked → Asked
  unfolding number11
  asked_passed e =
      let fit = has_length lambda N && has_length words 64 in
      let p = then_accepted (lent_of 1 N h fit) (number11 h l 0 0) (sym e) in
      let z = lent_sized 1 N h fit p.0 in
      let q = both_equal (length lambda) N (has_length words 64) z.1 in
      record { lambda_long = q.0; words_long = eqb-true (length words) 64 q.1; height = z.0.height; level = ltb-false h l (when_accepted (ltb h l) 11 l 0 0 p.1) }

  -- no Λ is above 32 once each was tested
  pub low : Asked → accepted ≡ scanned → (d : ℕ) → d < length lambda → each lambda d ≤ 32
  unfolding at_lambda8
  low a e d f =
      let t = scan_accepted N (at_lambda8 h (each lambda) l) (sym e) d (omega (arith, a.lambda_long)) in
      omega (arith, a.height, ltb-false h (each lambda d) (when_accepted (ltb h (each lambda d)) 8 l 0 d t))
