-- The folded pyramid that a function is lent. Assumes nothing: these are definitions.
use Rattle.std.specs.Prelude.{List, ℕ}
use Rattle.maps.specs.Folded.{Folded, of_parts}
use Rattle.answers.specs.declared.Sizes.{Sizes}
use Rattle.answers.specs.declared.Pyramid.{Pyramid}

-- its sizes, and what its three slices hold
abbrev pub pyramid : Sizes → List ℕ → List ℕ → List ℕ → Folded
pyramid sizes rows lambda delta = of_parts sizes.n.0 sizes.darts sizes.h.0 rows lambda delta

-- the pyramid lent as one value
abbrev pub folded : Pyramid → Folded
folded p = pyramid p.sizes p.rows.now p.lambda.now p.delta.now

-- its sizes, and the slices themselves
abbrev pub lent : Sizes → List ℕ → List ℕ → List ℕ → Folded
lent sizes rows lambda delta = pyramid sizes rows lambda delta

-- the sizes as bare numbers
abbrev pub given : ℕ → ℕ → ℕ → List ℕ → List ℕ → List ℕ → Folded
given n darts h rows lambda delta = of_parts n darts h rows lambda delta
