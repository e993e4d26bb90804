-- The verdict of the levels in their blocks and what it leaves, taken apart as the code tests it. Assumes nothing.
use mathlib.Core.Path.{◌≡◌, refl, sym, ap, ◌∙◌}
use mathlib.Core.Bool.{Bool, true, false, ◌&&◌, ◌||◌, not}
use mathlib.Core.List.{List}
use Prim.Native.Nat.{ℕ, suc, ◌*◌}
use native.Mathlib.Omega.{arith}
use lib.ListN.{length}
use lib.Dec.{eqb, leb, ltb}
use borrow.Author.Tests.{eqb-true}
use Rattle.maps.specs.Verdict.{Verdict, accepted, ◌then◌}
use Rattle.maps.specs.Sizes.{number1, number2, number3, number4, sizes, has_length}
use Rattle.maps.specs.Folded.{Folded}
use Rattle.maps.specs.Check.{check_pyramid}
use Rattle.maps.specs.CheckPyramid.{table_at}
use Rattle.maps.specs.UnfoldAll.{stacked, blocks_left}
use Rattle.laws.proofs.Verdicts.{not_refused, then_two, then_accepted}
use Rattle.answers.specs.Numbers.{refusal_of}
use Rattle.answers.specs.Lent.{lent_of}
use Rattle.answers.specs.declared.Refusal.{Refusal}
use Rattle.answers.proofs.Refusals.{refusal_refuses, refused_then}
use Rattle.climbing.specs.Climb.{Base, climbs}
use Rattle.climbing.proofs.Verdicts.{Says, passed, says, says_when, says_then}
use Rattle.checking.specs.Checked.{base_and_marks, early_with}
use Rattle.checking.proofs.PyramidCheck.{Lent, lent_facts, based, marks_early_all}
use Rattle.stacking.specs.Stacked.{stack_sizes, stack_lent, stacked_on, stack_leaves}
use Rattle.stacking.proofs.Stacks.{block_long}

-- neither 9 nor 10
abbrev pub Early : ℕ → ℕ → Type 0
Early number level = (eqb number 9 || eqb number 10) ≡ false

-- sizes and lengths are refused with 1 to 4
pub lengths_early : (n N h : ℕ) (exact : Bool) → Says Early (lent_of n N h exact)
unfolding sizes number1 number2 number3 number4
lengths_early n N h exact =
    says_then (sizes n N h) (number4 exact)
    (says_then (number1 n) (number2 N then number3 h) (says_when (not (leb 1 n && leb n 4)) 1 0 0 0 refl)
    (says_then (number2 N) (number3 h) (says_when (not (leb 1 N && leb N 4096)) 2 0 0 0 refl) (says_when (ltb 32 h) 3 0 0 0 refl)))
    (says_when (not exact) 4 0 0 0 refl)

-- such a refusal leaves no block
pub early_none : (h : ℕ) (r : Refusal) (v w : Verdict) → Says Early v → refusal_of r ≡ v → blocks_left h (v then w) ≡ 0
unfolding blocks_left
early_none h r _ w passed e = absurd (not_refused (sym (refusal_refuses r).is ∙ e))
early_none h r _ w (says k l i d p) e = rw p

module _ (f : Folded) (tables : List ℕ) where
  open f use {n, N, h, rows, lambda, delta}

  abbrev S : Verdict
  S = stack_sizes f tables

  abbrev M : Verdict
  M = base_and_marks f

  abbrev K : Verdict
  K = climbs f

  parts : stack_lent f tables ≡ (S then (M then K))
  unfolding check_pyramid
  parts = simp then_two

  pub none_left : tables ≡ stacked_on f tables 0
  unfolding stacked
  none_left = let z : 0 * (suc n * N) ≡ 0 = omega arith in rw z

  -- what 1 to 4 tell when they are not refused
  sized_facts : S ≡ accepted → Lent f (table_at f 0) × (has_length tables (suc h * (suc n * N)) ≡ true)
  sized_facts e = lent_facts f (table_at f 0) (has_length tables (suc h * (suc n * N))) e (λ q. block_long f 0)

  pub stack_fits : S ≡ accepted → Lent f (table_at f 0)
  stack_fits e = (sized_facts e).0

  pub stack_room : S ≡ accepted → length tables ≡ suc h * (suc n * N)
  stack_room e = eqb-true (length tables) (suc h * (suc n * N)) (sized_facts e).1

  pub stack_based : S ≡ accepted → M ≡ accepted → Base f
  stack_based e g = based f (table_at f 0) (stack_fits e) g

  -- 1 to 8
  abbrev E : Verdict
  E = early_with f (has_length tables (suc h * (suc n * N)))

  early_then : stack_lent f tables ≡ (E then K)
  early_then = parts ∙ then_two S M K

  -- refused by 1 to 8, or as the kernels say
  pub stack_refused : (r : Refusal) → refusal_of r ≡ E → (refusal_of r ≡ stack_lent f tables) × (tables ≡ stack_leaves f tables (stack_lent f tables))
  stack_refused r e =
      let z = early_none h r E K (says_then S M (lengths_early n N h _) (marks_early_all f (table_at f 0))) e in
      (refused_then r E K e ∙ sym early_then, none_left ∙ ap (stacked_on f tables) (sym (ap (blocks_left h) early_then ∙ z)))

  module _ (e : accepted ≡ E) where
    early_parts : (S ≡ accepted) × (M ≡ accepted)
    early_parts = then_accepted S M (sym e)

    pub stack_asked : Base f × (length tables ≡ suc h * (suc n * N))
    stack_asked = (stack_based early_parts.0 early_parts.1, stack_room early_parts.0)

    pub stack_climbed : {v : Verdict} {after : List ℕ} → v ≡ K → after ≡ stack_leaves f tables K → (v ≡ stack_lent f tables) × (after ≡ stack_leaves f tables (stack_lent f tables))
    stack_climbed k leaves =
        let p : stack_lent f tables ≡ K = early_then ∙ rw (← e) in
        (k ∙ sym p, leaves ∙ ap (stack_leaves f tables) (sym p))
