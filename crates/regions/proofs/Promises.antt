-- What a naming that is accepted promises, in the words of its contract. Assumes nothing.
use mathlib.Core.Path.{◌≡◌}
use mathlib.Core.List.{List}
use Prim.Native.Nat.{ℕ, ◌≤◌}
use lib.Dec.{ltb}
use borrow.Author.Tests.{ltb-false}
use Rattle.maps.specs.Verdict.{accepted, ◌then◌, scan}
use Rattle.maps.specs.Sizes.{sizes, number4, number11, has_length}
use Rattle.maps.specs.Pyramid.{Pyramid}
use Rattle.maps.specs.CheckPyramid.{check_lent, check_with}
use Rattle.maps.specs.Regions.{Named, at23, regions_lent, RegionsLeave}
use Rattle.laws.proofs.Verdicts.{then_accepted, when_accepted}
use Rattle.maps.specs.Folded.{Folded, base, lambda_of, delta_of}
use Rattle.facts.proofs.AcceptedWalks.{check_accepts}
use Rattle.regions.proofs.Facts.{RegionFacts, region_facts}

module _ (P : Folded) (table : List ℕ) (l : ℕ) (names left : List ℕ) where
  open P use {n, N, h}

  -- the pyramid is accepted, no dart is contracted, and the row left is the name row of a level, of which all region facts hold
  pub record Promised : Type 0 where
    pub pyramid : Pyramid (base P) n N h (lambda_of P) (delta_of P)
    pub plain : scan N (at23 (delta_of P)) ≡ accepted
    pub level : l ≤ h
    pub named : Named (base P) n N (lambda_of P) (delta_of P) l left
    pub facts : RegionFacts (base P) n N h (lambda_of P) (delta_of P) pyramid plain l left

  row_promises : regions_lent P table l names ≡ accepted → Named (base P) n N (lambda_of P) (delta_of P) l left → Promised
  unfolding regions_lent check_with number11
  row_promises e row =
      let unmarked = scan N (at23 (delta_of P)) in
      let r = then_accepted (check_with P table (has_length names N)) (number11 h l 0 0 then unmarked) e in
      let s = then_accepted (sizes n N h) (number4 (has_length names N) then check_lent P table) r.0 in
      let t = then_accepted (number4 (has_length names N)) (check_lent P table) s.1 in
      let u = then_accepted (number11 h l 0 0) unmarked r.1 in
      let y = (check_accepts P table t.1).pyramid in
      let k = ltb-false h l (when_accepted (ltb h l) 11 l 0 0 u.0) in
      record { pyramid = y; plain = u.1; level = k; named = row; facts = region_facts (base P) n N h (lambda_of P) (delta_of P) y u.1 l k left row }

  pub naming_promises : regions_lent P table l names ≡ accepted → RegionsLeave P l names (regions_lent P table l names) left → Promised
  naming_promises e given = row_promises e (rw e at given)
