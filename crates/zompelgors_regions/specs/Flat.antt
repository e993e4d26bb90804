-- The struct that the second library's C interface returns, for each outcome: 0 0 0 0 where accepted. Assumes nothing: these are definitions.
use Rattle.maps.specs.Verdict.{Verdict, accepted, refused}
use Rattle.zompelgors_regions.specs.declared.ZgRefusal.{ZgRefusal}

-- a verdict
abbrev pub refusal_for : Verdict → ZgRefusal
refusal_for accepted = record { number = 0; level = 0; involution = 0; dart = 0 }
refusal_for (refused k l i d) = record { number = k; level = l; involution = i; dart = d }
