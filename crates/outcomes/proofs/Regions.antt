-- The names that the naming of regions leaves are fixed by its input. Assumes nothing.
use mathlib.Core.Path.{◌≡◌, sym, ◌∙◌}
use mathlib.Core.List.{List}
use Prim.Native.Nat.{ℕ}
use Rattle.maps.specs.Verdict.{Verdict, accepted, refused}
use Rattle.maps.specs.Regions.{regions_lent, RegionsLeave}
use Rattle.maps.specs.Folded.{Folded, base, lambda_of, delta_of}
use Rattle.regions.proofs.Regions.{named_one}

module _ (P : Folded) (table : List ℕ) (l : ℕ) (names left left' : List ℕ) where
  same_of : (v : Verdict) → RegionsLeave P l names v left → RegionsLeave P l names v left' → left ≡ left'
  same_of accepted p q = named_one (base P) P.n (lambda_of P) (delta_of P) l P.N left left' p q
  same_of (refused k m i d) p q = p ∙ sym q

  -- what naming leaves in the name row
  pub naming_same : RegionsLeave P l names (regions_lent P table l names) left → RegionsLeave P l names (regions_lent P table l names) left' → left ≡ left'
  naming_same = same_of (regions_lent P table l names)
