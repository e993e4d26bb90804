-- The document's number and values for each answer. Assumes nothing: these are definitions.
use Rattle.maps.specs.Verdict.{Verdict, accepted, refused}
use Rattle.answers.specs.declared.Refusal.{Refusal}
use Rattle.answers.specs.declared.Refusal.TheVariants.{Dimension, Darts, Height, Length, Strays, NotTwice, NotCommuting, Marks, NotWhole, NotRemovable, NoLevel, NoDart, NoInvolution, NoPass, TooLong, EndsEarly, OtherTag, WrongLength, BytesAfter, Full, TwoToOne, NoRows, Contracted}
use Rattle.answers.specs.declared.Numbers.{Numbers}
use Rattle.std.specs.Prelude.{Result, Ok, Err}

-- number, level, involution and dart
abbrev pub refusal_of : Refusal → Verdict
refusal_of Dimension = refused 1 0 0 0
refusal_of Darts = refused 2 0 0 0
refusal_of Height = refused 3 0 0 0
refusal_of Length = refused 4 0 0 0
refusal_of (Strays l i d) = refused 5 l.0 i.0 d
refusal_of (NotTwice i d) = refused 6 0 i.0 d
refusal_of (NotCommuting i d) = refused 7 0 i.0 d
refusal_of (Marks l i d) = refused 8 l.0 i.0 d
refusal_of (NotWhole l i d) = refused 9 l.0 i.0 d
refusal_of (NotRemovable l i d) = refused 10 l.0 i.0 d
refusal_of (NoLevel l i d) = refused 11 l.0 i.0 d
refusal_of (NoDart l i d) = refused 12 l.0 i.0 d
refusal_of (NoInvolution l i d) = refused 13 l.0 i.0 d
refusal_of (NoPass l i d) = refused 14 l.0 i.0 d
refusal_of (TooLong l i d) = refused 15 l.0 i.0 d
refusal_of (EndsEarly offset) = refused 16 0 0 offset
refusal_of (OtherTag offset) = refused 17 0 0 offset
refusal_of (WrongLength offset) = refused 18 0 0 offset
refusal_of (BytesAfter offset) = refused 19 0 0 offset
refusal_of Full = refused 20 0 0 0
refusal_of (TwoToOne d) = refused 21 0 1 d
refusal_of NoRows = refused 22 0 0 0
refusal_of (Contracted d) = refused 23 0 0 d

-- what an answer says of being refused, whatever it holds where accepted
abbrev pub verdict_of : {A : Type 0} → Result A Refusal → Verdict
verdict_of (Ok _) = accepted
verdict_of (Err r) = refusal_of r

-- the refusal that four numbers say
abbrev pub said : Numbers → Verdict
said r = refused r.number r.level r.involution r.dart
