-- Laws of a whole naming: what is answered and left behind, test by test. Assumes nothing.
use mathlib.Core.Path.{◌≡◌, refl, sym, ap, ◌∙◌}
use mathlib.Core.Bool.{true, false}
use mathlib.Core.List.{List}
use Prim.Native.Nat.{ℕ, ◌≤◌, ◌<◌}
use borrow.Author.Tests.{lt-ltb, le-ltb}
use Rattle.maps.specs.Verdict.{Verdict, accepted, refused, ◌then◌, scan}
use Rattle.maps.specs.Sizes.{sizes, number4, number11, has_length}
use Rattle.maps.specs.CheckPyramid.{check_lent, check_leaves}
use Rattle.maps.specs.Accepted.{Accepted}
use Rattle.maps.specs.Regions.{at23, regions_lent, regions_table, RegionsLeave}
use Rattle.laws.proofs.Lent.{then_stops, with_checks, with_leaves, with_other, with_found}
use Rattle.maps.specs.Folded.{Folded, base, lambda_of, delta_of}
use Rattle.facts.proofs.AcceptedWalks.{check_accepts}
use Rattle.answers.specs.Numbers.{refusal_of}
use Rattle.answers.specs.Lent.{lent_of}
use Rattle.answers.specs.declared.Refusal.{Refusal}
use Rattle.answers.specs.declared.Refusal.TheVariants.{NoLevel}
use Rattle.answers.proofs.Refusals.{refusal_refuses, refused_first, refused_second, accepted_both}
use Rattle.orbits.specs.Choices.{chosen}
use Rattle.regions.specs.Searches.{RegionChoices, Leads, Lowests}
use Rattle.regions.proofs.Regions.{lowests_named}
use Rattle.regions.proofs.Facts.{region_two_way}

module _ (P : Folded) (table : List ℕ) (l : ℕ) (names : List ℕ) where
  open P use {n, N, h, rows}

  abbrev verdict : Verdict
  verdict = regions_lent P table l names

  -- the answer, and what is left in the table and the name row
  abbrev pub Answers : Verdict → List ℕ → List ℕ → Type 0
  Answers v tabled named = (v ≡ verdict) × (tabled ≡ regions_table P table l names) × RegionsLeave P l names verdict named

  -- a refusal leaves the name row as found
  found : (k m i d : ℕ) → verdict ≡ refused k m i d → RegionsLeave P l names verdict names
  found k m i d e = rw e refl

  refused_leaves : (r : Refusal) → refusal_of r ≡ verdict → RegionsLeave P l names verdict names
  refused_leaves r e = let x = refusal_refuses r in found x.number x.level x.involution x.dart (sym e ∙ x.is)

  -- a name row of another length
  pub not_long : has_length names N ≡ false → Answers (lent_of n N h false) table names
  unfolding regions_lent regions_table number4
  not_long q =
      let fitting = has_length names N in
      let rest = number11 h l 0 0 then scan N (at23 (delta_of P)) in
      let e : verdict ≡ (sizes n N h then number4 false) then rest = ap (λ (v : Verdict). v then rest) (with_other P table fitting q) in
      let v : verdict ≡ lent_of n N h false = e ∙ then_stops (sizes n N h) rest in
      (sym v, sym (with_found P table fitting q), leaves (sizes n N h) v)
    where
      leaves : (s : Verdict) → verdict ≡ (s then number4 false) → RegionsLeave P l names verdict names
      leaves accepted e = found 4 0 0 0 e
      leaves (refused k m i d) e = found k m i d e

  module _ (fit : has_length names N ≡ true) where
    left : check_leaves P table ≡ regions_table P table l names
    unfolding regions_table
    left = sym (with_leaves P table (has_length names N) fit)

    tests : verdict ≡ (check_lent P table then (number11 h l 0 0 then scan N (at23 (delta_of P))))
    unfolding regions_lent
    tests = ap (λ (v : Verdict). v then (number11 h l 0 0 then scan N (at23 (delta_of P)))) (with_checks P table (has_length names N) fit)

    -- what the check refuses
    pub check_refused : (r : Refusal) → refusal_of r ≡ check_lent P table → Answers (refusal_of r) (check_leaves P table) names
    check_refused r e = let v = refused_first verdict _ _ tests r e in (v, left, refused_leaves r v)

    module _ (e : accepted ≡ check_lent P table) where
      pub accepts : Accepted P table
      accepts = check_accepts P table (sym e)

      after : (r : Refusal) → refusal_of r ≡ (number11 h l 0 0 then scan N (at23 (delta_of P))) → Answers (refusal_of r) (check_leaves P table) names
      after r f = let v = refused_second verdict _ _ tests r e f in (v, left, refused_leaves r v)

      -- a level that is too high
      pub too_high_lem : h < l → Answers (refused 11 l 0 0) (check_leaves P table) names
      unfolding number11
      too_high_lem k = after (NoLevel (record { 0 = l }) (record { 0 = 0 }) 0) (rw (lt-ltb h l k))

      module _ (k : l ≤ h) where
        low : number11 h l 0 0 ≡ accepted
        unfolding number11
        low = rw (le-ltb h l k)

        -- a contracted dart
        pub shrunk : (r : Refusal) → refusal_of r ≡ scan N (at23 (delta_of P)) → Answers (refusal_of r) (check_leaves P table) names
        shrunk r f = after r (rw low f)

        module _ (plain : accepted ≡ scan N (at23 (delta_of P))) (choices : List ℕ) (is : RegionChoices n N (lambda_of P) (delta_of P) l choices) where
          inside : (j d : ℕ) → j ≤ n → d < N → base P j d < N
          inside j d lj ld = accepts.pyramid.base.inside j d lj ld

          -- the rows chosen lead to darts, and back
          pub leads : Leads n N rows choices
          leads =
              let w = region_two_way (base P) n N h (lambda_of P) (delta_of P) accepts.pyramid (sym plain) l k in
              record {
                rows = record { dimension = accepts.dimension.1; darts = accepts.darts.1; exact = accepts.rows_length };
                two_way = record {
                  inside = λ j d lj ld u. inside j d lj ld;
                  twice = λ j d lj ld u. accepts.pyramid.base.twice j d lj ld;
                  both = λ j d lj ld u. is j (base P j d) lj (inside j d lj ld) ∙ w.both j d lj ld (sym (is j d lj ld) ∙ u);
                };
              }

          -- all is named
          pub all_named : (new : List ℕ) → Lowests (base P) n N (chosen choices) new → Answers accepted (check_leaves P table) new
          all_named new low-row =
              let v : verdict ≡ accepted = sym (accepted_both verdict _ _ tests e (sym (rw low (sym plain)))) in
              (sym v, left, rw v (lowests_named (base P) n (lambda_of P) (delta_of P) l N inside (chosen choices) is new low-row))
