-- Laws of refusals: an enum's refusal is a refusal, and what comes after it is not looked at. Assumes nothing.
use mathlib.Core.Path.{◌≡◌, refl, sym, ap, ◌∙◌}
use Prim.Native.Nat.{ℕ}
use Rattle.maps.specs.Verdict.{Verdict, accepted, refused, if_accepted, ◌then◌}
use Rattle.answers.specs.Numbers.{refusal_of, verdict_of}
use Rattle.std.specs.Prelude.{Result, Err}
use Rattle.std.specs.Result.{IsErrAnd}
use Rattle.std.proofs.lemmas.Result.{err_from_is_err_and}
use Rattle.answers.specs.declared.Refusal.{Refusal}
use Rattle.answers.specs.declared.Refusal.TheVariants.{Dimension, Darts, Height, Length, Strays, NotTwice, NotCommuting, Marks, NotWhole, NotRemovable, NoLevel, NoDart, NoInvolution, NoPass, TooLong, EndsEarly, OtherTag, WrongLength, BytesAfter, Full, TwoToOne, NoRows, Contracted}

pub record Refuses (v : Verdict) : Type 0 where
  pub number : ℕ
  pub level : ℕ
  pub involution : ℕ
  pub dart : ℕ
  pub is : v ≡ refused number level involution dart

refuses : (k l i d : ℕ) → Refuses (refused k l i d)
refuses k l i d = record { number = k; level = l; involution = i; dart = d; is = refl }

pub refusal_refuses : (r : Refusal) → Refuses (refusal_of r)
refusal_refuses Dimension = refuses 1 0 0 0
refusal_refuses Darts = refuses 2 0 0 0
refusal_refuses Height = refuses 3 0 0 0
refusal_refuses Length = refuses 4 0 0 0
refusal_refuses (Strays l i d) = refuses 5 l.0 i.0 d
refusal_refuses (NotTwice i d) = refuses 6 0 i.0 d
refusal_refuses (NotCommuting i d) = refuses 7 0 i.0 d
refusal_refuses (Marks l i d) = refuses 8 l.0 i.0 d
refusal_refuses (NotWhole l i d) = refuses 9 l.0 i.0 d
refusal_refuses (NotRemovable l i d) = refuses 10 l.0 i.0 d
refusal_refuses (NoLevel l i d) = refuses 11 l.0 i.0 d
refusal_refuses (NoDart l i d) = refuses 12 l.0 i.0 d
refusal_refuses (NoInvolution l i d) = refuses 13 l.0 i.0 d
refusal_refuses (NoPass l i d) = refuses 14 l.0 i.0 d
refusal_refuses (TooLong l i d) = refuses 15 l.0 i.0 d
refusal_refuses (EndsEarly x) = refuses 16 0 0 x
refusal_refuses (OtherTag x) = refuses 17 0 0 x
refusal_refuses (WrongLength x) = refuses 18 0 0 x
refusal_refuses (BytesAfter x) = refuses 19 0 0 x
refusal_refuses Full = refuses 20 0 0 0
refusal_refuses (TwoToOne d) = refuses 21 0 1 d
refusal_refuses NoRows = refuses 22 0 0 0
refusal_refuses (Contracted d) = refuses 23 0 0 d

-- what comes after a refusal is not looked at
pub refused_then : (r : Refusal) (v w : Verdict) → refusal_of r ≡ v → refusal_of r ≡ v then w
refused_then r v w e = let x = refusal_refuses r in let f : v ≡ refused x.number x.level x.involution x.dart = sym e ∙ x.is in rw f x.is

-- after a refusal, what is left is as it was
pub refusal_keeps : {A : Type 0} (r : Refusal) (v : Verdict) (new old : A) → refusal_of r ≡ v → old ≡ if_accepted v new old
refusal_keeps r v new old e = let x = refusal_refuses r in let f : v ≡ refused x.number x.level x.involution x.dart = sym e ∙ x.is in rw f

-- what a check that was taken apart said
pub told : {A : Type 0} {check is : Result A Refusal} {v : Verdict} → verdict_of check ≡ v → check ≡ is → verdict_of is ≡ v
told e f = ap verdict_of (sym f) ∙ e

-- what `?` hands on is the refusal that it met
pub passed_on : {A : Type 0} {r : Refusal} (answer : Result A Refusal) → IsErrAnd answer (λ e. e ≡ r) → answer ≡ Err r
passed_on answer e = let p = err_from_is_err_and answer e in p.1 ∙ ap Err p.2

-- a job that tests v and then w: it refuses what v refuses, what w refuses after an accepted v, and nothing else
module _ (lent v w : Verdict) (tests : lent ≡ v then w) where
  pub refused_first : (r : Refusal) → refusal_of r ≡ v → refusal_of r ≡ lent
  refused_first r e = refused_then r v w e ∙ sym tests

  pub refused_second : (r : Refusal) → accepted ≡ v → refusal_of r ≡ w → refusal_of r ≡ lent
  refused_second r e f = f ∙ ap (λ (x : Verdict). x then w) e ∙ sym tests

  pub accepted_both : accepted ≡ v → accepted ≡ w → accepted ≡ lent
  accepted_both e f = f ∙ ap (λ (x : Verdict). x then w) e ∙ sym tests
