-- The document's values for the answer of a reading. Assumes nothing: these are definitions.
use Rattle.std.specs.Prelude.{Result, Ok, Err}
use Rattle.maps.specs.Read.{Reading, found, none, unless}
use Rattle.answers.specs.Numbers.{refusal_of}
use Rattle.answers.specs.declared.Refusal.{Refusal}
use Rattle.by_levels.specs.declared.Neighbour.{Neighbour}

-- neighbour and count, or number, level, involution and dart (the second value of `unless` is never given: a Refusal always refuses)
abbrev pub value_of : Result Neighbour Refusal → Reading
value_of (Ok neighbour) = found neighbour.dart neighbour.count
value_of (Err r) = unless (refusal_of r) (none 0 0 0 0)
