-- The verdict of starting again, test by test, and what it leaves in the table. Assumes nothing.
use mathlib.Core.Path.{◌≡◌, sym, ap, ◌∙◌}
use mathlib.Core.List.{List}
use Prim.Native.Nat.{ℕ, ◌≤◌, ◌<◌}
use native.Mathlib.Omega.{arith}
use lib.ListN.{length}
use lib.Dec.{eqb, ltb}
use borrow.Author.Tests.{ltb-false, lt-ltb, le-ltb, eqb-true, eqb-false, eq-eqb, ne_eqb}
use Rattle.maps.specs.Verdict.{Verdict, accepted, refused, when, ◌then◌}
use Rattle.maps.specs.Sizes.{sizes, number4, number11, has_length}
use Rattle.maps.specs.Table.{each}
use Rattle.maps.specs.CheckPyramid.{check_lent, check_leaves, check_with}
use Rattle.maps.specs.NewBase.{new_darts}
use Rattle.maps.specs.Rebase.{rebase_lent, rebase_table}
use Rattle.laws.proofs.Verdicts.{not_refused, then_accepted, then_two, when_accepted}
use Rattle.laws.proofs.Sizes.{lengths_exact}
use Rattle.laws.proofs.Lent.{with_leaves, with_lent}
use Rattle.maps.specs.Folded.{Folded}
use Rattle.answers.specs.Numbers.{refusal_of}
use Rattle.answers.specs.Lent.{lent_of}
use Rattle.answers.specs.declared.Refusal.{Refusal}
use Rattle.answers.proofs.Refusals.{refusal_refuses, refused_then}

module _ (P : Folded) (table : List ℕ) (l : ℕ) (old : List ℕ) where
  open P use {n, N, h, rows, lambda, delta}

  abbrev D : ℕ
  D = new_darts N (each lambda) l

  abbrev S : Verdict
  S = lent_of n N h (has_length old N)

  abbrev C : Verdict
  C = check_lent P table

  abbrev L : Verdict
  L = number11 h l 0 0

  abbrev Z : Verdict
  Z = when (eqb D 0) (refused 2 0 0 0)

  tests : rebase_lent P table l old ≡ (S then (C then (L then Z)))
  unfolding rebase_lent check_with
  tests =
      let s = sizes n N h in
      let x = number4 (has_length old N) in
      ap (λ (v : Verdict). v then (L then Z)) (then_two s x C) ∙ sym (then_two (s then x) C (L then Z))

  -- all tests passed
  pub record Passed : Type 0 where
    pub sized : sizes n N h ≡ accepted
    pub old_long : length old ≡ N
    pub checked : check_lent P table ≡ accepted
    pub low : l ≤ h
    pub some : 1 ≤ new_darts N (each lambda) l

  pub passed : rebase_lent P table l old ≡ accepted → Passed
  unfolding number11
  passed e =
      let r = then_accepted S (C then (L then Z)) (sym tests ∙ e) in
      let q = then_accepted (sizes n N h) (number4 (has_length old N)) r.0 in
      let s = then_accepted C (L then Z) r.1 in
      let u = then_accepted L Z s.1 in
      let ne : D ≡ 0 → ⊥ = eqb-false D 0 (when_accepted (eqb D 0) 2 0 0 0 u.1) in
      record {
        sized = q.0;
        old_long = eqb-true (length old) N (lengths_exact (has_length old N) q.1);
        checked = s.0;
        low = ltb-false h l (when_accepted (ltb h l) 11 l 0 0 u.0);
        some = omega arith;
      }

  -- the verdict, and what is left in the table
  abbrev Answers : Verdict → List ℕ → Type 0
  Answers v after = (v ≡ rebase_lent P table l old) × (after ≡ rebase_table P table l old)

  -- 1 to 4 of the row of old numbers
  pub sizes_refused : (r : Refusal) → refusal_of r ≡ S → Answers (refusal_of r) table
  unfolding rebase_table
  sizes_refused r e =
      let x = refusal_refuses r in
      (refused_then r S (C then (L then Z)) e ∙ sym tests, sym (with_lent P table (has_length old N) (λ q. not_refused (sym x.is ∙ e ∙ q))))

  module _ (s : accepted ≡ S) {after : List ℕ} (leaves : after ≡ check_leaves P table) where
    left : after ≡ rebase_table P table l old
    unfolding rebase_table
    left =
        let fit = lengths_exact (has_length old N) (then_accepted (sizes n N h) (number4 (has_length old N)) (sym s)).1 in
        leaves ∙ sym (with_leaves P table (has_length old N) fit)

    -- the check's own
    pub check_refused : (r : Refusal) → refusal_of r ≡ C → Answers (refusal_of r) after
    check_refused r e = (rw (tests, ← s) (refused_then r C (L then Z) e), left)

    module _ (c : accepted ≡ C) where
      -- 11
      pub no_level : h < l → Answers (refused 11 l 0 0) after
      unfolding number11
      no_level f = (rw (tests, ← s, ← c, lt-ltb h l f), left)

      -- 2
      pub no_dart : l ≤ h → D ≡ 0 → Answers (refused 2 0 0 0) after
      unfolding number11
      no_dart f z = (rw (tests, ← s, ← c, le-ltb h l f, eq-eqb D 0 z), left)

      -- none
      pub all_passed : l ≤ h → (D ≡ 0 → ⊥) → Answers accepted after
      unfolding number11
      all_passed f z = (rw (tests, ← s, ← c, le-ltb h l f, ne_eqb D 0 z), left)
