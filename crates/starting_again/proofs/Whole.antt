-- Laws of a whole starting again: what is answered, and what is left in each slice. Assumes nothing.
use mathlib.Core.Path.{◌≡◌, ap, ◌∙◌}
use mathlib.Core.Bool.{true}
use mathlib.Core.List.{List}
use Prim.Native.Nat.{ℕ, suc, ◌*◌, ◌-◌, ◌/◌, ◌%◌, ◌≤◌, ◌<◌}
use lib.ListN.{length}
use borrow.Author.Tests.{ltb-false, not-true}
use Rattle.maps.specs.Verdict.{accepted}
use Rattle.maps.specs.Mark.{stay}
use Rattle.maps.specs.Table.{entry, each, absent}
use Rattle.maps.specs.Folded.{On, gone, survives, marks, level, level_table, Folded}
use Rattle.maps.specs.NewBase.{rank, old_number, new_darts, new_height, newΛ, newΔ, new_base}
use Rattle.maps.specs.Rebase.{packed, rebase_lent, rebase_darts, rebase_height, rebase_rows, rebase_lambda, rebase_delta, rebase_old}
use Rattle.laws.proofs.Tables.{entry_explicit, length_explicit, place}
use Rattle.facts.proofs.Levels.{level_valid}
use Rattle.facts.proofs.AcceptedJobs.{accepted_pyramid}
use Rattle.answers.specs.Numbers.{refusal_of}
use Rattle.answers.specs.declared.Refusal.{Refusal}
use Rattle.answers.proofs.Refusals.{refusal_keeps}
use Rattle.checking.proofs.PyramidCheck.{Lent, check_passed}
use Rattle.starting_again.specs.Answers.{Outcome, rebasing}
use Rattle.starting_again.specs.Reaching.{Reached}
use Rattle.packing.specs.Packing.{Inside}
use Rattle.packing.proofs.Numbering.{kth_is}
use Rattle.packing.proofs.Packs.{packed_same}
use Rattle.starting_again.proofs.Tests.{passed}

module _ (P : Folded) (table : List ℕ) (l : ℕ) (old : List ℕ) where
  open P use {n, N, h, rows, lambda, delta}

  -- the answer, and what is left in rows, Λ, Δ and the row of old numbers
  pub record Answers (o : Outcome) (rows' lambda' delta' old' : List ℕ) : Type 0 where
    pub outcome : o ≡ rebasing P table l old
    pub rows_left : rows' ≡ rebase_rows P table l old
    pub lambda_left : lambda' ≡ rebase_lambda P table l old
    pub delta_left : delta' ≡ rebase_delta P table l old
    pub old_left : old' ≡ rebase_old P table l old

  -- a refusal changes nothing of these
  pub refused_answers : (r : Refusal) → refusal_of r ≡ rebase_lent P table l old → Answers (record { verdict = refusal_of r; dimension = n; darts = N; height = h }) rows lambda delta old
  unfolding rebase_darts rebase_height rebase_rows rebase_lambda rebase_delta rebase_old
  refused_answers r e =
      let v = rebase_lent P table l old in
      record {
        outcome = λ i. record { verdict = e i; dimension = n; darts = refusal_keeps r v (new_darts N (each lambda) l) N e i; height = refusal_keeps r v (new_height h l) h e i };
        rows_left = refusal_keeps r v _ rows e;
        lambda_left = refusal_keeps r v _ lambda e;
        delta_left = refusal_keeps r v _ delta e;
        old_left = refusal_keeps r v _ old e;
      }

  module _ (e : rebase_lent P table l old ≡ accepted) where
    abbrev Λ : ℕ → ℕ
    Λ = each lambda

    abbrev T : List ℕ
    T = level_table (entry N rows) n N h Λ (each delta) l

    pub lent : Lent P table
    lent = (check_passed P table (passed P table l old e).checked).0

    -- what the kernels below the level ask
    pub reached : Reached P l
    reached =
        let p = passed P table l old e in
        let c = check_passed P table p.checked in
        record { base = c.1; climbed = c.2; low = p.low }

    -- an entry of a survivor is that of the level
    level_entry : (i d : ℕ) → i ≤ n → d < N → survives Λ l d ≡ true → entry N T i d ≡ level (entry N rows) n N (marks h Λ (each delta)) l i d
    level_entry i d li ld q = entry_explicit (level (entry N rows) n N (marks h Λ (each delta)) l) n N (survives Λ l) i d li ld ∙ rw q

    pub level_inside : (i : ℕ) → i ≤ n → Inside Λ l N N (entry N T i)
    level_inside i li d ld q =
        let p = passed P table l old e in
        let o : On N Λ l d = (ld, ltb-false (Λ d) l (not-true (gone Λ l d) q)) in
        rw (level_entry i d li ld q) ((level_valid (entry N rows) n N h Λ (each delta) (accepted_pyramid P table p.checked) l p.low).inside i d li o).0

    pub level_long : length T ≡ suc n * N
    level_long = length_explicit (level (entry N rows) n N (marks h Λ (each delta)) l) n N (survives Λ l)

    -- the packed ranks are the new base
    new_rows : packed (λ x. rank Λ l (entry N T (x / new_darts N Λ l) (old_number N Λ l (x % new_darts N Λ l)))) (suc n * new_darts N Λ l) absent (suc n * N)
        ≡ packed (λ x. new_base (entry N rows) n N h Λ (each delta) l (x / new_darts N Λ l) (x % new_darts N Λ l)) (suc n * new_darts N Λ l) absent (suc n * N)
    new_rows = packed_same _ _ (suc n * new_darts N Λ l) absent (suc n * N) at_place
      where
        at_place : (x : ℕ) → x < suc n * new_darts N Λ l → rank Λ l (entry N T (x / new_darts N Λ l) (old_number N Λ l (x % new_darts N Λ l))) ≡ new_base (entry N rows) n N h Λ (each delta) l (x / new_darts N Λ l) (x % new_darts N Λ l)
        at_place x lx =
            let w = place n (new_darts N Λ l) x lx in
            let r = kth_is (survives Λ l) N (x % new_darts N Λ l) w.1 in
            ap (rank Λ l) (level_entry (x / new_darts N Λ l) (old_number N Λ l (x % new_darts N Λ l)) w.0 r.below r.passes)

    -- what the packing of the rows asks
    pub level_fits : {at : List ℕ} → at ≡ T → (length at ≡ suc n * length lambda) × ((i : ℕ) → i ≤ n → Inside Λ l (length lambda) (length lambda) (entry (length lambda) at i))
    level_fits is = rw (is, lent.lambda_long) (level_long, level_inside)

    -- all of it
    pub accepted_answers : {at rows' lambda' delta' old' : List ℕ} {count height : ℕ} → at ≡ T → count ≡ new_darts (length lambda) Λ l → height ≡ h - l
        → rows' ≡ packed (λ x. rank Λ l (entry (length lambda) at (x / count) (old_number (length lambda) Λ l (x % count)))) (suc n * count) absent (length at)
        → lambda' ≡ packed (newΛ (length lambda) Λ l) (new_darts (length lambda) Λ l) stay (length lambda)
        → delta' ≡ packed (newΔ (length lambda) Λ (each delta) l) (new_darts (length lambda) Λ l) stay (length lambda)
        → old' ≡ packed (old_number (length lambda) Λ l) (new_darts (length lambda) Λ l) absent (length lambda)
        → Answers (record { verdict = accepted; dimension = n; darts = count; height = height }) rows' lambda' delta' old'
    unfolding rebase_darts rebase_height rebase_rows rebase_lambda rebase_delta rebase_old
    accepted_answers is many high r p q o =
        let long = lent.lambda_long in
        record {
          outcome = rw (e, many, long, high);
          rows_left = rw e (rw (is, many, long, level_long) at r ∙ new_rows);
          lambda_left = rw e (rw long at p);
          delta_left = rw e (rw long at q);
          old_left = rw e (rw long at o);
        }
