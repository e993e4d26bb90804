-- Laws of a whole question: what is answered after each of its tests. Assumes nothing.
use mathlib.Core.Path.{◌≡◌, refl, sym, ap, ap₂, ◌∙◌}
use mathlib.Core.Bool.{Bool, true, false, cond}
use mathlib.Core.List.{List}
use Prim.Native.Nat.{ℕ, suc, ◌≤◌, ◌<◌}
use lib.ListN.{length}
use lib.Dec.{eqb, leb}
use lib.Ieee.{Float}
use borrow.Author.Tests.{le-leb, lt-leb}
use Rattle.maps.specs.Verdict.{Verdict, accepted, refused, when, ◌then◌}
use Rattle.maps.specs.Count.{one}
use Rattle.maps.specs.Table.{each}
use Rattle.maps.specs.Folded.{survivors, Folded}
use Rattle.maps.specs.CheckPyramid.{check_lent}
use Rattle.maps.specs.Accepted.{Accepted}
use Rattle.maps.specs.Decimation.{double, quotient, decimation_lent, decimation_empty, decimation_factor}
use Rattle.facts.proofs.ExactJobs.{check_accepts}
use Rattle.answers.specs.Numbers.{refusal_of}
use Rattle.answers.specs.declared.Refusal.{Refusal}
use Rattle.answers.proofs.Refusals.{refusal_keeps, refused_first, refused_second}
use Rattle.decimation.specs.Answers.{Outcome, factor_of, factor_between, decimating}
use Rattle.std.specs.Prelude.{Ok, Err}
use Rattle.decimation.specs.declared.Factor.TheVariants.{By, Empty}

-- what is answered between two counts
abbrev between : ℕ → ℕ → Outcome
between count next = record { verdict = accepted; empty = one (eqb next 0); factor = cond (eqb next 0) (double 0) (quotient count next) }

-- the function's answer says the same
said : (none : Bool) (factor : Float) → factor_of (Ok (cond none Empty (By factor))) ≡ record { verdict = accepted; empty = one none; factor = cond none (double 0) factor }
said true factor = refl
said false factor = refl

module _ (P : Folded) (table : List ℕ) (l : ℕ) where
  open P use {n, N, h, rows, lambda, delta}

  abbrev verdict : Verdict
  verdict = decimation_lent P table l

  abbrev Answers : Outcome → Type 0
  Answers o = o ≡ decimating P table l

  tests : verdict ≡ (check_lent P table then when (leb h l) (refused 11 l 0 0))
  unfolding decimation_lent
  tests = refl

  not_answered : (r : Refusal) → refusal_of r ≡ verdict → Answers (factor_of (Err r))
  unfolding decimation_empty decimation_factor
  not_answered r e =
      let Λ = each lambda in
      let empty = refusal_keeps r verdict (one (eqb (survivors N Λ (suc l)) 0)) 0 e in
      let factor = refusal_keeps r verdict (cond (eqb (survivors N Λ (suc l)) 0) (double 0) (quotient (survivors N Λ l) (survivors N Λ (suc l)))) (double 0) e in
      λ i. record { verdict = e i; empty = empty i; factor = factor i }

  -- what the check refuses
  pub check_refused : (r : Refusal) → refusal_of r ≡ check_lent P table → Answers (factor_of (Err r))
  check_refused r e = not_answered r (refused_first verdict _ _ tests r e)

  module _ (e : accepted ≡ check_lent P table) where
    pub accepts : Accepted P table
    accepts = check_accepts P table (sym e)

    -- a level that has no next
    pub no_next : (r : Refusal) → refusal_of r ≡ refused 11 l 0 0 → h ≤ l → Answers (factor_of (Err r))
    no_next r is high = not_answered r (refused_second verdict _ _ tests r e (rw (le-leb h l high) is))

    -- the answer, from the two counts
    pub answered : (count next : ℕ) → l < h → count ≡ survivors (length lambda) (each lambda) l → next ≡ survivors (length lambda) (each lambda) (suc l) → Answers (factor_of (Ok (factor_between count next)))
    unfolding decimation_empty decimation_factor
    answered count next low first second =
        let v : verdict ≡ accepted = tests ∙ rw (← e, lt-leb h l low) in
        let all : (k : ℕ) → survivors (length lambda) (each lambda) k ≡ survivors N (each lambda) k = λ k. ap (λ (m : ℕ). survivors m (each lambda) k) accepts.lambda_length in
        said (eqb next 0) (quotient count next) ∙ ap₂ between (first ∙ all l) (second ∙ all (suc l)) ∙ rw v
