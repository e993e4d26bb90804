-- Laws of how a walk goes on, and of number 8 over all darts. Assumes nothing.
use mathlib.Core.Path.{◌≡◌, sym, ap, ◌∙◌}
use mathlib.Core.Bool.{Bool, true, false}
use mathlib.Core.List.{List}
use Prim.Native.Nat.{ℕ, ◌<◌}
use lib.ListN.{length, get_or}
use native.Mathlib.Omega.{arith}
use borrow.Author.Tests.{eq-eqb}
use Rattle.maps.specs.Verdict.{Verdict, accepted, refused, scan}
use Rattle.maps.specs.Sizes.{number4}
use Rattle.maps.specs.Table.{each}
use Rattle.maps.specs.Folded.{refused_marks}
use Rattle.maps.specs.MarksBack.{at_marks8}
use Rattle.laws.proofs.Verdicts.{when_accepted, scan_accepted, scan_all, scan_first}
use Rattle.std.specs.Prelude.{Option, Some, None, position}
use Rattle.std.specs.List.{zip}
use Rattle.std.proofs.lemmas.Slice.Zip.{length-zip, get_or-zip}
use Rattle.std.proofs.lemmas.List.Quantifiers.{position-Some}
use Rattle.answers.specs.declared.Dim.{Dim}
use Rattle.answers.specs.Marked.{Goes, marks_refusal}
use Rattle.answers.proofs.Firsts.{scan_found, scan_none}

-- what was said of an answer that was taken apart
pub goes_told : (mark t : ℕ) {onward is : Option Dim} → Goes mark t onward → onward ≡ is → Goes mark t is
goes_told mark t g e = rw e at g

module _ (n N h : ℕ) (lambda delta : List ℕ) (l : ℕ) where
  abbrev at_marks : ℕ → Verdict
  at_marks = at_marks8 n h (each lambda) (each delta) l

  -- marks of the darts below m are allowed
  abbrev pub AllowedTo : ℕ → Type 0
  AllowedTo m = (x : ℕ) → x < m → refused_marks n h (each lambda x) (each delta x) ≡ false

  pub none_refused : (m : ℕ) → AllowedTo m → scan m at_marks ≡ accepted
  unfolding at_marks8
  none_refused m a = scan_all m at_marks (λ x f. rw (a x f))

  pub first_refused : (d : ℕ) → d < N → AllowedTo d → refused_marks n h (each lambda d) (each delta d) ≡ true → scan N at_marks ≡ refused 8 l 0 d
  unfolding at_marks8
  first_refused d f a e = scan_first N at_marks d 8 l 0 d f (none_refused d a) (rw e)

  pub allowed : scan N at_marks ≡ accepted → AllowedTo N
  unfolding at_marks8
  allowed e x f = when_accepted (refused_marks n h (each lambda x) (each delta x)) 8 l 0 x (scan_accepted N at_marks e x f)

  -- where the lengths are right, the marks decide
  pub marks_decide : length lambda ≡ N → length delta ≡ N → marks_refusal n N h lambda delta l ≡ scan N at_marks
  unfolding marks_refusal number4
  marks_decide e f = rw (eq-eqb (length lambda) N e, eq-eqb (length delta) N f)

  -- the pairs of Λ and Δ, and those that are refused
  abbrev pairs : List (ℕ × ℕ)
  pairs = zip lambda delta

  abbrev refused_pair : ℕ × ℕ → Bool
  refused_pair p = refused_marks n h p.0 p.1

  module _ (e : length lambda ≡ N) (f : length delta ≡ N) where
    pairs_long : length pairs ≡ N
    pairs_long = length-zip lambda delta ∙ omega (arith, e, f)

    pair_at : (x : ℕ) → x < length pairs → get_or pairs x (0, 0) ≡ (each lambda x, each delta x)
    pair_at x g = get_or-zip lambda delta x (0, 0) (omega (arith, pairs_long, e)) (omega (arith, pairs_long, f))

    fine : (x : ℕ) → x < length pairs → refused_pair (get_or pairs x (0, 0)) ≡ false → at_marks x ≡ accepted
    unfolding at_marks8
    fine x g q = rw (sym (ap refused_pair (pair_at x g)) ∙ q)

    due : (x : ℕ) → x < length pairs → refused_pair (get_or pairs x (0, 0)) ≡ true → at_marks x ≡ refused 8 l 0 x
    unfolding at_marks8
    due x g q = rw (sym (ap refused_pair (pair_at x g)) ∙ q)

    -- the first pair that is refused is the dart reported
    pub pair_found : (d : ℕ) → position refused_pair pairs ≡ Some d → (d < N) × (refused 8 l 0 d ≡ marks_refusal n N h lambda delta l)
    pair_found d found =
        let g = (position-Some refused_pair pairs d (0, 0) found).0 in
        (omega (arith, g, pairs_long), sym (marks_decide e f ∙ ap (λ (m : ℕ). scan m at_marks) (sym pairs_long) ∙ scan_found refused_pair pairs (0, 0) at_marks fine d 8 l 0 d found (due d g)))

    pub pair_none : position refused_pair pairs ≡ None → accepted ≡ marks_refusal n N h lambda delta l
    pair_none none = sym (marks_decide e f ∙ ap (λ (m : ℕ). scan m at_marks) (sym pairs_long) ∙ scan_none refused_pair pairs (0, 0) at_marks fine none)
