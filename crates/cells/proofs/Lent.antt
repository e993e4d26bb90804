-- Laws of the tests that marking begins with: which refusal is given, and what an accepted level tells. Assumes nothing.
use mathlib.Core.Path.{◌≡◌, refl, sym, ◌∙◌}
use mathlib.Core.Bool.{◌&&◌, not}
use mathlib.Core.List.{List}
use Prim.Native.Nat.{ℕ, suc, ◌*◌, ◌≤◌, ◌<◌}
use lib.ListN.{length}
use lib.Dec.{ltb}
use borrow.Author.Tests.{lt-ltb, le-ltb, ltb-true, eqb-true, eq-eqb, not-false}
use Rattle.maps.specs.Verdict.{Verdict, accepted, refused, when, ◌then◌}
use Rattle.maps.specs.Sizes.{sizes, number4, has_length}
use Rattle.maps.specs.Table.{entry}
use Rattle.maps.specs.Check.{check_map}
use Rattle.maps.specs.CheckBase.{check_explicit}
use Rattle.maps.specs.Explicit.{present}
use Rattle.maps.specs.MarkCells.{mark_lent, MarkLeaves}
use Rattle.laws.proofs.Verdicts.{when_accepted, then_accepted, then_two}
use Rattle.laws.proofs.Sizes.{Sized, lent_sized, both_equal}
use Rattle.answers.specs.Lent.{lent_of}
use Rattle.answers.specs.Numbers.{refusal_of}
use Rattle.answers.specs.declared.Refusal.{Refusal}
use Rattle.answers.proofs.Refusals.{refusal_refuses}
use Rattle.orbits.specs.Explicit.{ExplicitLevel}

module _ (n N : ℕ) (table : List ℕ) (δ : ℕ) (out : List ℕ) where
  -- 1 2 3 4, then 13 and the map
  abbrev pub first : Verdict
  first = lent_of n N 0 (has_length table (suc n * N) && has_length out N)

  abbrev pub second : Verdict
  second = when (not (ltb δ n)) (refused 13 0 δ 0) then check_map (entry N table) n N (present N table)

  pub tests : mark_lent n N table δ out ≡ first then second
  unfolding mark_lent
  tests = then_two (sizes n N 0) (number4 (has_length table (suc n * N) && has_length out N)) second

  -- after a refusal, what is lent is as it was
  pub refusal_leaves : (r : Refusal) → refusal_of r ≡ mark_lent n N table δ out → MarkLeaves n N table δ out (mark_lent n N table δ out) out
  refusal_leaves r e =
      let x = refusal_refuses r in
      let f : mark_lent n N table δ out ≡ refused x.number x.level x.involution x.dart = sym e ∙ x.is in
      rw f refl

  pub refused_dimension : first ≡ accepted → n ≤ δ → refused 13 0 δ 0 ≡ mark_lent n N table δ out
  refused_dimension e h = rw (tests, e, le-ltb δ n h)

  -- what accepted sizes and lengths tell
  exact : first ≡ accepted → Sized n N 0 × (length table ≡ suc n * N) × (length out ≡ N)
  exact e =
      let r = lent_sized n N 0 (has_length table (suc n * N) && has_length out N) e in
      let s = both_equal (length table) (suc n * N) (has_length out N) r.1 in
      (r.0, s.0, eqb-true (length out) N s.1)

  -- past the test of 13 the job tests the map, as a check of the level does
  pub tests_explicit : first ≡ accepted → δ < n → check_explicit n N table ≡ mark_lent n N table δ out
  unfolding check_explicit number4
  tests_explicit e h = rw (tests, e, lt-ltb δ n h, (then_accepted (sizes n N 0) (number4 (has_length table (suc n * N) && has_length out N)) e).0, eq-eqb (length table) (suc n * N) (exact e).1)

  -- what an accepted job tells
  pub accepted_level : mark_lent n N table δ out ≡ accepted → ExplicitLevel n N table × (δ < n) × (length out ≡ N)
  accepted_level f =
      let r = then_accepted first second (sym tests ∙ f) in
      let s = then_accepted (when (not (ltb δ n)) (refused 13 0 δ 0)) (check_map (entry N table) n N (present N table)) r.1 in
      let z = exact r.0 in (
        record { rows = record { dimension = z.0.dimension; darts = z.0.darts; exact = z.1 }; accepts = s.1 },
        ltb-true δ n (not-false (ltb δ n) (when_accepted (not (ltb δ n)) 13 0 δ 0 s.0)),
        z.2,
      )
