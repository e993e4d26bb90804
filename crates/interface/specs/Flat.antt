-- The structs that the C interface returns, for each outcome: each begins with its refusal, which is 0 0 0 0 where accepted; all else is 0 in a refusal, but for a height and the darts of a base. Assumes nothing: these are definitions.
use Rattle.std.specs.Prelude.{cond, ℕ, ◌+◌, ◌*◌, eqb}
use Rattle.maps.specs.Verdict.{Verdict, accepted, refused, if_accepted}
use Rattle.maps.specs.Read.{Reading, found, none}
use Rattle.taking.specs.Answers.{Outcome}
use Rattle.writing.specs.Answers.{Outcome as Writing}
use Rattle.decimation.specs.Answers.{Outcome as Shrinking}
use Rattle.starting_again.specs.Answers.{Outcome as Rebasing}
use Rattle.interface.specs.declared.ZgRefusal.{ZgRefusal}
use Rattle.interface.specs.declared.ZgReading.{ZgReading}
use Rattle.interface.specs.declared.ZgLink.{ZgLink}
use Rattle.interface.specs.declared.ZgUnfolding.{ZgUnfolding}
use Rattle.interface.specs.declared.ZgCount.{ZgCount}
use Rattle.interface.specs.declared.ZgHeight.{ZgHeight}
use Rattle.interface.specs.declared.ZgPart.{ZgPart}
use Rattle.interface.specs.declared.ZgRecord.{ZgRecord}
use Rattle.interface.specs.declared.ZgWritten.{ZgWritten}
use Rattle.interface.specs.declared.ZgFactor.{ZgFactor}
use Rattle.interface.specs.declared.ZgBase.{ZgBase}

-- a verdict
abbrev pub refusal_for : Verdict → ZgRefusal
refusal_for accepted = record { number = 0; level = 0; involution = 0; dart = 0 }
refusal_for (refused k l i d) = record { number = k; level = l; involution = i; dart = d }

-- the refusal that four numbers say
abbrev pub said_by : ZgRefusal → Verdict
said_by r = refused r.number r.level r.involution r.dart

-- a neighbour and its count, both 0 in a refusal
abbrev pub reading_for : Reading → ZgReading
reading_for (found neighbour count) = record { refusal = refusal_for accepted; count = count; neighbour = neighbour }
reading_for (none k l i d) = record { refusal = refusal_for (refused k l i d); count = 0; neighbour = 0 }

-- a neighbour, its count and since which level the link stands, all 0 in a refusal
abbrev pub link_for : Reading → ℕ → ZgLink
link_for (found neighbour count) since = record { refusal = refusal_for accepted; count = count; neighbour = neighbour; since = since }
link_for (none k l i d) since = record { refusal = refusal_for (refused k l i d); count = 0; neighbour = 0; since = 0 }

-- a verdict with a count and since which level all links stand, both 0 in a refusal
abbrev pub unfolding_for : Verdict → ℕ → ℕ → ZgUnfolding
unfolding_for v count since = record { refusal = refusal_for v; count = if_accepted v count 0; since = if_accepted v since 0 }

-- a verdict with a count that is 0 in a refusal
abbrev pub count_for : Verdict → ℕ → ZgCount
count_for v count = record { refusal = refusal_for v; count = if_accepted v count 0 }

-- a verdict with the height afterwards, which in a refusal is the height as given
abbrev pub height_for : Verdict → ℕ → ZgHeight
height_for v height = record { refusal = refusal_for v; height = height }

-- where row i of level l lies: in the base rows for level 0, in the unfolded level for any other; in a refusal all three are 0
abbrev pub part_for : Verdict → ℕ → ℕ → ℕ → ZgPart
part_for v N l i = record { refusal = refusal_for v; unfolded = if_accepted v (cond (eqb l 0) 0 1) 0; start = if_accepted v (i * N) 0; length = if_accepted v N 0 }

-- a verdict with n, h and N, which are 0 in a refusal
abbrev pub record_for : Outcome → ZgRecord
record_for o = record { refusal = refusal_for o.verdict; n = o.dimension; h = o.height; darts = o.darts }

-- a verdict with a length, which is 0 in a refusal
abbrev pub written_for : Writing → ZgWritten
written_for o = record { refusal = refusal_for o.verdict; length = o.bytes }

-- a verdict with whether the next level has no dart, and a factor; both are 0 in a refusal
abbrev pub factor_for : Shrinking → ZgFactor
factor_for o = record { refusal = refusal_for o.verdict; empty = o.empty; factor = o.factor }

-- a verdict with the darts and the height of the new base, which in a refusal are those given
abbrev pub base_for : Rebasing → ZgBase
base_for o = record { refusal = refusal_for o.verdict; darts = o.darts; h = o.height }

-- a version in one number: a byte each for the two smaller parts
abbrev pub version_for : ℕ → ℕ → ℕ → ℕ
version_for major minor patch = major * 65536 + minor * 256 + patch
