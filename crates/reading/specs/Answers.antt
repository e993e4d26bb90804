-- The document's values for the answers of a direct reading. Assumes nothing: these are definitions.
use Rattle.std.specs.Prelude.{ℕ, Result, Ok, Err}
use Rattle.maps.specs.Read.{Reading, found, none, unless}
use Rattle.answers.specs.Numbers.{refusal_of}
use Rattle.answers.specs.declared.Refusal.{Refusal}
use Rattle.reading.specs.declared.Link.{Link}

-- neighbour and count, or number, level, involution and dart (the second value of `unless` is never given: a Refusal always refuses)
abbrev pub value_of : Result Link Refusal → Reading
value_of (Ok link) = found link.dart link.count
value_of (Err r) = unless (refusal_of r) (none 0 0 0 0)

-- since which level the link stands, 0 in a refusal
abbrev pub stands_since : Result Link Refusal → ℕ
stands_since (Ok link) = link.since.0
stands_since (Err r) = 0
