-- The whole job: the lengths of counts and levels since which, then the levels in their blocks, then what is told of them. Assumes nothing.
use mathlib.Core.Path.{◌≡◌, refl, sym, ap, ◌∙◌}
use mathlib.Core.Bool.{Bool, true, false, ◌&&◌}
use mathlib.Core.List.{List, [], ◌++◌, append-nil}
use Prim.Native.Nat.{ℕ, suc, ◌*◌}
use lib.ListN.{length, drop}
use lib.Seq.{drop-length}
use borrow.Author.Tests.{eq-eqb, eqb-true}
use Rattle.maps.specs.Verdict.{Verdict, accepted, refused, ◌then◌}
use Rattle.maps.specs.Sizes.{sizes, number4, has_length}
use Rattle.maps.specs.Folded.{Folded, base, lambda_of, delta_of}
use Rattle.maps.specs.Check.{check_pyramid}
use Rattle.maps.specs.CheckPyramid.{check_lent}
use Rattle.maps.specs.UnfoldAll.{most_levels, stacked, blocks_left, by_level, total_at, latest_at, unfold_all_lent, unfold_all_tables, unfold_all_counts, unfold_all_since}
use Rattle.laws.proofs.Verdicts.{then_accepted}
use Rattle.laws.proofs.Sizes.{lent_sized, both_equal}
use Rattle.answers.specs.Numbers.{refusal_of}
use Rattle.answers.specs.Lent.{lent_of}
use Rattle.answers.specs.declared.Refusal.{Refusal}
use Rattle.answers.proofs.Refusals.{refusal_keeps, refused_then}
use Rattle.stacking.specs.Stacked.{stack_sizes, stack_lent, stack_leaves}
use Rattle.unfolding.specs.Told.{Levels}
use Rattle.stacking.proofs.Lengths.{early_none, lengths_early, none_left, stack_fits, stack_room}

-- lengths that are tested apart
and_apart : (a b c d e : Bool) → (a && (b && (c && (d && e)))) ≡ ((a && (b && (c && d))) && e)
and_apart true true true d e = refl
and_apart true true false d e = refl
and_apart true false c d e = refl
and_apart false b c d e = refl

tests_apart : (s : Verdict) (p q : Bool) (w : Verdict) → s then (number4 (p && q) then w) ≡ ((s then number4 q) then ((s then number4 p) then w))
unfolding number4
tests_apart (refused k l i d) p q w = refl
tests_apart accepted true true w = refl
tests_apart accepted true false w = refl
tests_apart accepted false true w = refl
tests_apart accepted false false w = refl

module _ (f : Folded) (tables counts since : List ℕ) where
  open f use {n, N, h, rows, lambda, delta}

  -- 1 to 4 of counts and levels since which
  abbrev pub told_sizes : Verdict
  told_sizes = lent_of n N h (has_length counts most_levels && has_length since most_levels)

  parts : unfold_all_lent f tables counts since ≡ (told_sizes then stack_lent f tables)
  unfolding unfold_all_lent
  parts =
      ap (λ (x : Bool). sizes n N h then (number4 x then check_pyramid (base f) n N h (lambda_of f) (delta_of f)))
      (and_apart (has_length rows (suc n * N)) (has_length lambda N) (has_length delta N) (has_length tables (suc h * (suc n * N))) (has_length counts most_levels && has_length since most_levels))
      ∙ tests_apart (sizes n N h) (has_length rows (suc n * N) && (has_length lambda N && (has_length delta N && has_length tables (suc h * (suc n * N))))) (has_length counts most_levels && has_length since most_levels) (check_pyramid (base f) n N h (lambda_of f) (delta_of f))

  -- what the job leaves, and answers
  abbrev pub Leaves : Verdict → List ℕ → List ℕ → List ℕ → Type 0
  Leaves v t c s = (v ≡ unfold_all_lent f tables counts since) × (t ≡ unfold_all_tables f tables counts since) × (c ≡ unfold_all_counts f tables counts since) × (s ≡ unfold_all_since f tables counts since)

  -- refused before anything is written
  pub job_lengths : (r : Refusal) → refusal_of r ≡ told_sizes → Leaves (refusal_of r) tables counts since
  unfolding unfold_all_tables unfold_all_counts unfold_all_since
  job_lengths r e =
      let all = refused_then r told_sizes (stack_lent f tables) e ∙ sym parts in
      let z = early_none h r told_sizes (stack_lent f tables) (lengths_early n N h (has_length counts most_levels && has_length since most_levels)) e in (
        all,
        none_left f tables ∙ ap (λ (m : ℕ). stacked f m ++ drop (m * (suc n * N)) tables) (sym (ap (blocks_left h) parts ∙ z)),
        refusal_keeps r (unfold_all_lent f tables counts since) (by_level h (total_at f)) counts all,
        refusal_keeps r (unfold_all_lent f tables counts since) (by_level h (latest_at f)) since all,
      )

  -- 33 of each, once 1 to 4 have passed
  pub told_lengths : accepted ≡ told_sizes → (length counts ≡ 33) × (length since ≡ 33)
  told_lengths g =
      let s = (lent_sized n N h (has_length counts most_levels && has_length since most_levels) (sym g)).1 in
      let x = both_equal (length counts) most_levels (has_length since most_levels) s in
      (x.0, eqb-true (length since) most_levels x.1)

  module _ (g : accepted ≡ told_sizes) where
    same : stack_lent f tables ≡ unfold_all_lent f tables counts since
    same = sym (parts ∙ rw (← g))

    -- refused with the levels reached in their blocks
    pub job_refused : (r : Refusal) → refusal_of r ≡ stack_lent f tables → {t : List ℕ} → t ≡ stack_leaves f tables (stack_lent f tables) → Leaves (refusal_of r) t counts since
    unfolding unfold_all_tables unfold_all_counts unfold_all_since
    job_refused r e {t} leaves =
        let all = e ∙ same in
        (all, leaves ∙ ap (stack_leaves f tables) same, refusal_keeps r (unfold_all_lent f tables counts since) (by_level h (total_at f)) counts all, refusal_keeps r (unfold_all_lent f tables counts since) (by_level h (latest_at f)) since all)

    module _ (e : accepted ≡ stack_lent f tables) {t : List ℕ} (leaves : t ≡ stack_leaves f tables (stack_lent f tables)) where
      -- all levels stand in their blocks
      pub job_levels : Levels f t
      unfolding blocks_left check_lent number4
      job_levels =
          let p = then_accepted (stack_sizes f tables) (check_pyramid (base f) n N h (lambda_of f) (delta_of f)) (sym e) in
          let q = stack_fits f tables p.0 in
          let s = then_accepted (sizes n N h) (number4 (has_length rows (suc n * N) && (has_length lambda N && (has_length delta N && has_length tables (suc h * (suc n * N)))))) p.0 in
          let none : drop (suc h * (suc n * N)) tables ≡ [] = ap (λ (m : ℕ). drop m tables) (sym (stack_room f tables p.0)) ∙ drop-length tables in
          record {
            accepts = rw (s.0, eq-eqb (length rows) (suc n * N) q.rows_long, eq-eqb (length lambda) N q.lambda_long, eq-eqb (length delta) N q.delta_long) p.1;
            holds = leaves ∙ ap (stack_leaves f tables) (sym e) ∙ ap (λ (x : List ℕ). stacked f (suc h) ++ x) none ∙ append-nil (stacked f (suc h));
          }

      -- accepted, and all is told
      pub job_accepted : {c s : List ℕ} → c ≡ by_level h (total_at f) → s ≡ by_level h (latest_at f) → Leaves accepted t c s
      unfolding unfold_all_tables unfold_all_counts unfold_all_since
      job_accepted ec es =
          let all = e ∙ same in
          (all, leaves ∙ ap (stack_leaves f tables) same, rw (← all) ec, rw (← all) es)
