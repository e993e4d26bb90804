-- Laws of a whole writing: the record's size, and what is answered and left behind. Assumes nothing.
use mathlib.Core.Path.{◌≡◌, refl, ap₂, ◌∙◌}
use mathlib.Core.Bool.{true, false}
use mathlib.Core.List.{List}
use Prim.Native.Nat.{ℕ, ◌≤◌, ◌<◌}
use native.Mathlib.Omega.{arith}
use lib.ListN.{length}
use lib.Dec.{leb}
use borrow.Author.Tests.{le-leb, lt-leb}
use Rattle.maps.specs.Verdict.{Verdict, accepted, ◌then◌}
use Rattle.maps.specs.Sizes.{number4}
use Rattle.maps.specs.CheckPyramid.{check_lent}
use Rattle.maps.specs.Accepted.{Accepted}
use Rattle.maps.specs.Write.{record_of, write_lent, write_length, write_leaves}
use Rattle.laws.proofs.Sizes.{Sized}
use Rattle.maps.specs.Folded.{Folded}
use Rattle.facts.proofs.ExactJobs.{check_accepts}
use Rattle.answers.specs.Numbers.{refusal_of}
use Rattle.answers.specs.declared.Refusal.{Refusal}
use Rattle.answers.specs.declared.Refusal.TheVariants.{Length}
use Rattle.answers.proofs.Refusals.{refusal_keeps, refused_first}
use Rattle.taking.proofs.RoundTrip.{written_length}
use Rattle.writing.specs.Answers.{Outcome, writing, Checked, buffer_lent, putting, put_leaves}
use Rattle.writing.specs.Put.{record_size, Put}
use Rattle.writing.proofs.Put.{put_front}

module _ (f : Folded) where
  -- a pyramid that the check accepts
  module _ (e : Checked f) where
    pub accepts : Accepted f e.0
    accepts = check_accepts f e.0 e.1

    pub record_size_lem : length (record_of f) ≡ record_size f.n f.N
    record_size_lem =
        let p = accepts in
        let s : Sized f.n f.N f.h = record { one_dimension = p.dimension.0; dimension = p.dimension.1; one_dart = p.darts.0; darts = p.darts.1; height = p.height } in
        written_length f.n f.h f.N f.rows f.lambda f.delta s p.rows_length p.lambda_length p.delta_length

    module _ (bytes : List ℕ) where
      -- a buffer that is too short
      pub too_short : length bytes < record_size f.n f.N → (record { verdict = refusal_of Length; bytes = 0 } ≡ putting f bytes) × (bytes ≡ put_leaves f bytes)
      unfolding number4
      too_short l =
          let few : leb (length (record_of f)) (length bytes) ≡ false = lt-leb (length (record_of f)) (length bytes) (omega (arith, record_size_lem)) in
          (rw few, rw few)

      -- the record is written
      pub all_written : {after : List ℕ} → record_size f.n f.N ≤ length bytes → Put (record_of f) 0 bytes after → (record { verdict = accepted; bytes = record_size f.n f.N } ≡ putting f bytes) × (after ≡ put_leaves f bytes)
      unfolding number4
      all_written l s =
          let enough : leb (length (record_of f)) (length bytes) ≡ true = le-leb (length (record_of f)) (length bytes) (omega (arith, record_size_lem)) in
          (rw (enough, record_size_lem), rw enough (put_front s (omega (arith, record_size_lem))))

  module _ (table bytes : List ℕ) where
    -- the answer, and what is left in the buffer
    abbrev Answers : Outcome → List ℕ → Type 0
    Answers o after = (o ≡ writing f table bytes) × (after ≡ write_leaves f table bytes)

    tests : write_lent f table bytes ≡ (check_lent f table then buffer_lent f bytes)
    unfolding write_lent
    tests = refl

    -- what the check refuses
    pub check_refused : (r : Refusal) → refusal_of r ≡ check_lent f table → Answers (record { verdict = refusal_of r; bytes = 0 }) bytes
    unfolding write_length write_leaves
    check_refused r e =
        let v : refusal_of r ≡ write_lent f table bytes = refused_first _ _ _ tests r e in
        (ap₂ (λ (v : Verdict) (m : ℕ). record { verdict = v; bytes = m }) v (refusal_keeps r (write_lent f table bytes) (length (record_of f)) 0 v), refusal_keeps r (write_lent f table bytes) _ bytes v)

    -- what it accepts is written
    pub check_accepted : {o : Outcome} {after : List ℕ} → check_lent f table ≡ accepted → o ≡ putting f bytes → after ≡ put_leaves f bytes → Answers o after
    unfolding write_length write_leaves
    check_accepted e answer left = let v : write_lent f table bytes ≡ buffer_lent f bytes = tests ∙ rw e in (answer ∙ rw v, left ∙ rw v)
