-- The document's number and values tell the answer: for each kind of answer the way back from its values. Assumes nothing.
use mathlib.Core.Path.{◌≡◌, refl}
use mathlib.Core.Bool.{cond}
use Prim.Native.Nat.{ℕ}
use lib.Dec.{eqb}
use Rattle.maps.specs.Verdict.{Verdict, accepted, refused}
use Rattle.maps.specs.Read.{Reading as Value, found, none, unless}
use Rattle.answers.specs.Numbers.{refusal_of, verdict_of, said}
use Rattle.answers.specs.declared.Level.{Level}
use Rattle.answers.specs.declared.Dim.{Dim}
use Rattle.answers.specs.declared.Sizes.{Sizes}
use Rattle.answers.specs.declared.Refusal.{Refusal}
use Rattle.answers.specs.declared.Refusal.TheVariants.{Dimension, Darts, Height, Length, Strays, NotTwice, NotCommuting, Marks, NotWhole, NotRemovable, NoLevel, NoDart, NoInvolution, NoPass, TooLong, EndsEarly, OtherTag, WrongLength, BytesAfter, Full, TwoToOne, NoRows, Contracted}
use Rattle.answers.specs.declared.Numbers.{Numbers}
use Rattle.std.specs.Prelude.{Result, Ok, Err}
use Rattle.by_levels.specs.Answers.{value_of}
use Rattle.by_levels.specs.declared.Neighbour.{Neighbour}
use Rattle.reading.specs.Answers.{value_of as link_of, stands_since}
use Rattle.reading.specs.declared.Link.{Link}
use Rattle.one_level.specs.Answers.{total_of, latest_of}
use Rattle.filling.specs.declared.Unfolding.{Unfolding}
use Rattle.survivor_words.specs.Answers.{count_of_survivors}
use Rattle.checking.specs.Answers.{height_of}
use Rattle.taking.specs.Answers.{Outcome, saying, taken_of}
use Rattle.writing.specs.Answers.{Outcome as Writing, written_of}
use Rattle.decimation.specs.Answers.{Outcome as Shrinking, factor_of}
use Rattle.decimation.specs.declared.Factor.{Factor}
use Rattle.decimation.specs.declared.Factor.TheVariants.{By, Empty}
use Rattle.starting_again.specs.Answers.{Outcome as Rebasing, rebased_of}

-- a level
abbrev pub level : ℕ → Level
level l = record { 0 = l }

-- a dimension
abbrev dimension : ℕ → Dim
dimension i = record { 0 = i }

-- the refusal with a number, level, involution and dart
abbrev pub refusal_from : ℕ → ℕ → ℕ → ℕ → Refusal
refusal_from k l i d =
    cond (eqb k 1) Dimension (cond (eqb k 2) Darts (cond (eqb k 3) Height (cond (eqb k 4) Length
    (cond (eqb k 5) (Strays (level l) (dimension i) d) (cond (eqb k 6) (NotTwice (dimension i) d) (cond (eqb k 7) (NotCommuting (dimension i) d)
    (cond (eqb k 8) (Marks (level l) (dimension i) d) (cond (eqb k 9) (NotWhole (level l) (dimension i) d) (cond (eqb k 10) (NotRemovable (level l) (dimension i) d)
    (cond (eqb k 11) (NoLevel (level l) (dimension i) d) (cond (eqb k 12) (NoDart (level l) (dimension i) d) (cond (eqb k 13) (NoInvolution (level l) (dimension i) d)
    (cond (eqb k 14) (NoPass (level l) (dimension i) d) (cond (eqb k 15) (TooLong (level l) (dimension i) d)
    (cond (eqb k 16) (EndsEarly d) (cond (eqb k 17) (OtherTag d) (cond (eqb k 18) (WrongLength d) (cond (eqb k 19) (BytesAfter d)
    (cond (eqb k 20) Full (cond (eqb k 21) (TwoToOne d) (cond (eqb k 22) NoRows (Contracted d))))))))))))))))))))))

-- a refusal's values tell it, whatever holds it
pub refusal_told : {A : Type 0} (from : Verdict → A) (holding : Refusal → A) → ((k l i d : ℕ) → from (refused k l i d) ≡ holding (refusal_from k l i d)) → (r : Refusal) → from (refusal_of r) ≡ holding r
refusal_told from holding is Dimension = is 1 0 0 0
refusal_told from holding is Darts = is 2 0 0 0
refusal_told from holding is Height = is 3 0 0 0
refusal_told from holding is Length = is 4 0 0 0
refusal_told from holding is (Strays l i d) = is 5 l.0 i.0 d
refusal_told from holding is (NotTwice i d) = is 6 0 i.0 d
refusal_told from holding is (NotCommuting i d) = is 7 0 i.0 d
refusal_told from holding is (Marks l i d) = is 8 l.0 i.0 d
refusal_told from holding is (NotWhole l i d) = is 9 l.0 i.0 d
refusal_told from holding is (NotRemovable l i d) = is 10 l.0 i.0 d
refusal_told from holding is (NoLevel l i d) = is 11 l.0 i.0 d
refusal_told from holding is (NoDart l i d) = is 12 l.0 i.0 d
refusal_told from holding is (NoInvolution l i d) = is 13 l.0 i.0 d
refusal_told from holding is (NoPass l i d) = is 14 l.0 i.0 d
refusal_told from holding is (TooLong l i d) = is 15 l.0 i.0 d
refusal_told from holding is (EndsEarly offset) = is 16 0 0 offset
refusal_told from holding is (OtherTag offset) = is 17 0 0 offset
refusal_told from holding is (WrongLength offset) = is 18 0 0 offset
refusal_told from holding is (BytesAfter offset) = is 19 0 0 offset
refusal_told from holding is Full = is 20 0 0 0
refusal_told from holding is (TwoToOne d) = is 21 0 1 d
refusal_told from holding is NoRows = is 22 0 0 0
refusal_told from holding is (Contracted d) = is 23 0 0 d

-- the answer with a value where accepted, else the refusal
abbrev pub from_verdict : {A : Type 0} → A → Verdict → Result A Refusal
from_verdict value accepted = Ok value
from_verdict value (refused k l i d) = Err (refusal_from k l i d)

-- a refusal is told, whatever the value would have been
pub verdict_told : {A : Type 0} (value : A) (r : Refusal) → from_verdict value (refusal_of r) ≡ Err r
verdict_told value r = refusal_told (from_verdict value) Err (λ k l i d. refl) r

-- the answer of a check
abbrev pub check_from : Verdict → Result (Unit {0}) Refusal
check_from = from_verdict tt

pub check_told : (c : Result (Unit {0}) Refusal) → check_from (verdict_of c) ≡ c
check_told (Ok _) = refl
check_told (Err r) = verdict_told tt r

-- the answer of a reading by levels
abbrev pub reading_from : Value → Result Neighbour Refusal
reading_from (found neighbour count) = Ok (record { dart = neighbour; count = count })
reading_from (none k l i d) = Err (refusal_from k l i d)

pub reading_told : (r : Result Neighbour Refusal) → reading_from (value_of r) ≡ r
reading_told (Ok neighbour) = refl
reading_told (Err r) = refusal_told (λ v. reading_from (unless v (none 0 0 0 0))) Err (λ k l i d. refl) r

-- the answer of a direct reading: the same, and since which level the link stands
abbrev pub values_of_link : Result Link Refusal → Value × ℕ
values_of_link r = (link_of r, stands_since r)

abbrev pub link_from : Value × ℕ → Result Link Refusal
link_from (found neighbour count, since) = Ok (record { dart = neighbour; count = count; since = level since })
link_from (none k l i d, since) = Err (refusal_from k l i d)

pub link_told : (r : Result Link Refusal) → link_from (values_of_link r) ≡ r
link_told (Ok link) = refl
link_told (Err r) = refusal_told (λ v. link_from (unless v (none 0 0 0 0), 0)) Err (λ k l i d. refl) r

-- the answer of an unfolding: verdict, total, and since which level all links stand
abbrev pub values_of_total : Result Unfolding Refusal → Verdict × ℕ × ℕ
values_of_total t = (verdict_of t, total_of t, latest_of t)

abbrev pub total_from : Verdict × ℕ × ℕ → Result Unfolding Refusal
total_from x = from_verdict (record { count = x.1; since = level x.2 }) x.0

pub total_told : (t : Result Unfolding Refusal) → total_from (values_of_total t) ≡ t
total_told (Ok all) = refl
total_told (Err r) = verdict_told _ r

-- the answer of the survivor words: verdict and count
abbrev pub values_of_survivors : Result ℕ Refusal → Verdict × ℕ
values_of_survivors s = (verdict_of s, count_of_survivors s)

abbrev pub survivors_from : Verdict × ℕ → Result ℕ Refusal
survivors_from x = from_verdict x.1 x.0

pub survivors_told : (s : Result ℕ Refusal) → survivors_from (values_of_survivors s) ≡ s
survivors_told (Ok count) = refl
survivors_told (Err r) = verdict_told _ r

-- the answer of an add to a pyramid of height h, or of a join in it: verdict and height
abbrev pub values_of_height : ℕ → Result Level Refusal → Verdict × ℕ
values_of_height h x = (verdict_of x, height_of h x)

abbrev pub height_from : Verdict × ℕ → Result Level Refusal
height_from x = from_verdict (level x.1) x.0

pub height_told : (h : ℕ) (x : Result Level Refusal) → height_from (values_of_height h x) ≡ x
height_told h (Ok new) = refl
height_told h (Err r) = verdict_told _ r

-- the answer of taking a record
abbrev pub taken_from : Outcome → Result Sizes Refusal
taken_from x = from_verdict (record { n = dimension x.dimension; h = level x.height; darts = x.darts }) x.verdict

pub taken_told : (t : Result Sizes Refusal) → taken_from (taken_of t) ≡ t
taken_told (Ok sizes) = refl
taken_told (Err r) = refusal_told (λ v. taken_from (saying v 0 0 0)) Err (λ k l i d. refl) r

-- the answer of writing a record
abbrev pub written_from : Writing → Result ℕ Refusal
written_from x = from_verdict x.bytes x.verdict

pub written_told : (w : Result ℕ Refusal) → written_from (written_of w) ≡ w
written_told (Ok length) = refl
written_told (Err r) = verdict_told _ r

-- the answer of a decimation
abbrev pub factor_from : Shrinking → Result Factor Refusal
factor_from x = from_verdict (cond (eqb x.empty 0) (By x.factor) Empty) x.verdict

pub factor_told : (f : Result Factor Refusal) → factor_from (factor_of f) ≡ f
factor_told (Ok (By factor)) = refl
factor_told (Ok Empty) = refl
factor_told (Err r) = verdict_told _ r

-- the answer of starting again; the sizes as given in a refusal
abbrev pub rebased_from : Rebasing → Result Sizes Refusal
rebased_from x = from_verdict (record { n = dimension x.dimension; h = level x.height; darts = x.darts }) x.verdict

pub rebased_told : (sizes : Sizes) (x : Result Sizes Refusal) → rebased_from (rebased_of sizes x) ≡ x
rebased_told sizes (Ok new) = refl
rebased_told sizes (Err r) = verdict_told _ r

-- the four numbers of a refusal
abbrev pub numbers_from : Verdict → Numbers
numbers_from accepted = record { number = 0; level = 0; involution = 0; dart = 0 }
numbers_from (refused k l i d) = record { number = k; level = l; involution = i; dart = d }

pub numbers_told : (r : Numbers) → numbers_from (said r) ≡ r
numbers_told r = refl
