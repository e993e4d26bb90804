-- What the tests of the code say of a base entry, of a step of a walk and of a pass. Assumes nothing.
use mathlib.Core.Path.{◌≡◌, refl, sym, ap, ◌∙◌}
use mathlib.Core.Bool.{Bool, true, false, ◌&&◌}
use Prim.Native.Nat.{ℕ, suc, ◌+◌, ◌-◌, ◌*◌, ◌≤◌, ◌<◌}
use native.Mathlib.Omega.{arith}
use native.Mathlib.Numerals.{add-one}
use lib.Dec.{eqb}
use borrow.Author.Tests.{lt-ltb, le-ltb, not-false}
use Rattle.maps.specs.Mark.{is_mark, between}
use Rattle.maps.specs.Table.{each}
use Rattle.maps.specs.Folded.{refused_marks, Folded, base, lambda_of, delta_of}
use Rattle.maps.specs.Walk.{Walked}
use Rattle.maps.specs.ByLevels.{read_base, read_level}
use Rattle.maps.specs.Unfold.{walk_verdict}
use Rattle.maps.specs.Read.{none, unless, reading_of}
use Rattle.answers.specs.Numbers.{refusal_of}
use Rattle.answers.specs.declared.Refusal.{Refusal}
use Rattle.answers.specs.declared.Dim.{Dim}
use Rattle.std.specs.Prelude.{Result, Ok, Err, Some, None}
use Rattle.std.specs.Result.{IsErrAnd}
use Rattle.std.proofs.lemmas.Result.{err_from_is_err_and}
use Rattle.by_levels.specs.declared.Place.{Place}
use Rattle.by_levels.specs.declared.Stop.{Stop}
use Rattle.by_levels.specs.declared.Stop.TheVariants.{TooLong, Strays, Marks, NoPass}
use Rattle.by_levels.specs.declared.Stopped.{Stopped}
use Rattle.by_levels.specs.Ends.{stopped_of, walked_of, refused_of, Second, Asked, level_of, Reads}
use Rattle.by_levels.proofs.Turns.{onward, reached, passed, Landed, passed_met, level_met, rest, level_turn}

-- what is stopped stays so
stays : (i b : ℕ) (x : Stop) (p : Place) (go : ℕ → ℕ → ℕ → Walked) → onward (stopped_of i b x p) go ≡ stopped_of i b x p
stays i b TooLong p go = refl
stays i b Strays p go = refl
stays i b Marks p go = refl
stays i b NoPass p go = refl

-- what the refusal of a stopped reading says
pub stopped_reading : (l i b : ℕ) (s : Stopped) (r : Refusal) → refusal_of r ≡ refused_of l i b s → unless (refusal_of r) (none 0 0 0 0) ≡ reading_of l (walked_of i b (Err s))
stopped_reading l i b s r e = rw e (go s.0)
  where
    go : (y : Stop) → unless (walk_verdict l (stopped_of i b y s.1)) (none 0 0 0 0) ≡ reading_of l (stopped_of i b y s.1)
    go TooLong = refl
    go Strays = refl
    go Marks = refl
    go NoPass = refl

-- how a reading ends: at a place, or stopped
abbrev pub End : Type 0
End = Result Place Stopped

-- what `?` hands on is why and where the reading below was stopped
pub stopped_on : {s : Stopped} (end : End) → IsErrAnd end (λ e. e ≡ s) → end ≡ Err s
stopped_on end e = let p = err_from_is_err_and end e in p.1 ∙ ap Err p.2

module _ (f : Folded) where
  open f use {lambda, delta}

  -- a base entry
  module _ (at : Place) where
    pub base_long : 1 + 2 * f.N ≤ at.count → Reads f 0 at (Err (record { 0 = TooLong; 1 = at }))
    unfolding read_level read_base
    base_long x i b = rw (le-ltb at.count (1 + 2 * f.N) x, read_base)

    module _ (few : at.count < 1 + 2 * f.N) (dart : ℕ) (is : dart ≡ base f at.row.0 at.dart) where
      abbrev met : Place
      met = record { row = at.row; dart = dart; count = at.count + 1 }

      pub base_strays : f.N ≤ dart → Reads f 0 at (Err (record { 0 = Strays; 1 = at }))
      unfolding read_level read_base
      base_strays x i b = rw (lt-ltb at.count (1 + 2 * f.N) few, ← is, le-ltb dart f.N x, read_base)

      module _ (inside : dart < f.N) {bad : Bool} (marks : bad ≡ refused_marks f.n f.h (each lambda dart) (each delta dart)) where
        pub base_marks : bad ≡ true → Reads f 0 at (Err (record { 0 = Marks; 1 = met }))
        unfolding read_level read_base
        base_marks x i b = rw (lt-ltb at.count (1 + 2 * f.N) few, ← is, lt-ltb dart f.N inside, ← is, ← marks, x, is, read_base)

        pub base_ends : bad ≡ false → Reads f 0 at (Ok met)
        unfolding read_level read_base
        base_ends x i b = rw (lt-ltb at.count (1 + 2 * f.N) few, ← is, lt-ltb dart f.N inside, ← is, ← marks, x, is, add-one, read_base)

  abbrev Lands : ℕ → ℕ → Place → Type 0
  Lands t c p = Landed f.n f.N f.h (each lambda) (each delta) t c p.row.0 p.dart p.count

  -- a place was met on level l, which has a kernel, and the marks of its dart are not refused
  pub record Meets (l : ℕ) (p : Place) : Type 0 where
    pub asked : Asked f (suc l) p
    pub marks : refused_marks f.n f.h (lambda_of f p.dart) (delta_of f p.dart) ≡ false

  -- r is how a place that was met is passed on level l
  abbrev pub Passes : ℕ → Place → End → Type 0
  Passes l p r = (i b : ℕ) → walked_of i b r ≡ passed (lambda_of f) (delta_of f) (level_of f i b l) l p.row.0 p.dart p.count

  -- where the reading of a place ends
  pub landed : (l : ℕ) (at p : Place) → Reads f l at (Ok p) → Lands at.row.0 at.count p
  landed l at p w = rw (← (w 0 0)) at (level_met (base f) f.n f.N f.h (each lambda) (each delta) 0 0 l at.row.0 at.dart at.count)

  -- the walk to level l from a place has come to another one
  pub record OnWay (l : ℕ) (from at : Place) : Type 0 where
    pub row : at.row.0 ≡ from.row.0
    pub dart : at.dart < f.N
    pub same : (i b : ℕ) → level_of f i b l from.row.0 from.dart from.count ≡ level_of f i b l at.row.0 at.dart at.count

  -- from there a reading on the level below has ended
  pub record Stepped (l : ℕ) (from at : Place) (end : End) : Type 0 where
    pub above : 0 < l
    pub way : OnWay l from at
    pub read : Reads f (l - 1) at end

  -- the walk to level l from a place is under way: from some place that it has come to, a reading has met this one
  pub record Underway (l : ℕ) (from met : Place) : Type 0 where
    pub at : Place
    pub stepped : Stepped l from at (Ok met)

  -- at a dart that is not on level l, which was passed or not
  pub record Turned (l : ℕ) (from at : Place) (end : End) : Type 0 where
    pub met : Place
    pub step : Stepped l from at (Ok met)
    pub left : each lambda met.dart < l
    pub pass : Passes (l - 1) met end

  -- a place was met on level l by the first row of its mark, and a reading of the second row has ended
  pub record Crossed (l : ℕ) (p : Place) (end : End) : Type 0 where
    pub second : Dim
    pub second_row : Second (each lambda) (each delta) l p.row.0 p.dart (Some second)
    pub read : Reads f l (record { row = second; dart = p.dart; count = p.count }) end

  -- a pass that is refused where it begins
  pub no_second : (l : ℕ) (p : Place) → Second (each lambda) (each delta) l p.row.0 p.dart None → Passes l p (Err (record { 0 = NoPass; 1 = p }))
  no_second l p x i b = rw x

module _ {f : Folded} {l : ℕ} where
  open f use {lambda, delta}

  -- a step of a walk
  module _ {from at : Place} where
    turn : {end : End} (x : Stepped f l from at end) (i b : ℕ) → level_of f i b l from.row.0 from.dart from.count ≡ onward (walked_of i b end) (rest (base f) f.n f.N f.h (each lambda) (each delta) i b (l - 1) l at.row.0)
    turn x i b =
        x.way.same i b ∙ level_turn (base f) f.n f.N f.h (each lambda) (each delta) i b l x.above at.row.0 at.dart at.count ∙ rw (← (x.read i b))

    -- an end that was taken apart
    pub pass_told : {r end : End} → Turned f l from at r → r ≡ end → Turned f l from at end
    pass_told x e = rw e at x

    pub step_stops : {s : Stopped} → Stepped f l from at (Err s) → Reads f l from (Err s)
    step_stops {s} x i b = sym (turn x i b ∙ stays i b s.0 s.1 _)

    pub step_ends : {p : Place} → Stepped f l from at (Ok p) → l ≤ each lambda p.dart → Reads f l from (Ok p)
    step_ends {p} x on i b = sym (turn x i b ∙ rw (le-ltb (each lambda p.dart) l on))

    pub step_lands : {p : Place} (x : Stepped f l from at (Ok p)) → Lands f at.row.0 at.count p
    step_lands {p} x = landed f (l - 1) at p x.read

    turned : {end : End} (x : Turned f l from at end) (i b : ℕ) → level_of f i b l from.row.0 from.dart from.count ≡ onward (walked_of i b end) (λ u e k. level_of f i b l at.row.0 e k)
    turned x i b = turn x.step i b ∙ rw (lt-ltb (each lambda x.met.dart) l x.left, ← (x.pass i b))

    pub pass_stops : {s : Stopped} → Turned f l from at (Err s) → Reads f l from (Err s)
    pass_stops {s} x i b = sym (turned x i b ∙ stays i b s.0 s.1 _)

    -- behind a pass the walk is that from the dart reached
    module _ {p : Place} (x : Turned f l from at (Ok p)) where
      behind : Lands f (between (each delta x.met.dart)).1 x.met.count p
      behind =
          let m = x.met in
          let met = level_met (base f) f.n f.N f.h (each lambda) (each delta) 0 0 (l - 1) in
          rw (← (x.pass 0 0)) at (passed_met (base f) f.n f.N f.h (each lambda) (each delta) 0 0 (level_of f 0 0 (l - 1)) met (l - 1) m.row.0 m.dart m.count)

      pub pass_comes : OnWay f l from (record { row = from.row; dart = p.dart; count = p.count })
      pass_comes = record { row = refl; dart = behind.dart; same = λ i b. turned x i b ∙ rw x.step.way.row }

  -- past a place that was met on level l
  module _ {p : Place} where
    -- a dart of a kernel has a mark
    pub kernel_mark : Meets f l p → each lambda p.dart ≡ l → is_mark f.n (each delta p.dart) ≡ true
    kernel_mark m kernel = not-false (is_mark f.n (each delta p.dart)) (rw (kernel, le-ltb f.h l (omega (arith, m.asked.under, m.asked.lent.level)), lt-ltb l f.h (omega (arith, m.asked.under, m.asked.lent.level))) at m.marks)

    crossed : {end : End} (x : Crossed f l p end) (i b : ℕ) → passed (each lambda) (each delta) (level_of f i b l) l p.row.0 p.dart p.count ≡ onward (walked_of i b end) (reached (each lambda) (each delta) l p.dart)
    crossed x i b = rw (x.second_row.0, ← x.second_row.1, ← (x.read i b))

    pub across_stops : {s : Stopped} → Crossed f l p (Err s) → Passes f l p (Err s)
    across_stops {s} x i b = sym (crossed x i b ∙ stays i b s.0 s.1 _)

    module _ {q : Place} (x : Crossed f l p (Ok q)) where
      pub across_lands : Lands f x.second.0 p.count q
      across_lands = landed f l (record { row = x.second; dart = p.dart; count = p.count }) q x.read

      module _ {same : Bool} (is : same ≡ (eqb (each lambda q.dart) l && eqb (each delta q.dart) (each delta p.dart))) where
        pub across_ends : same ≡ true → Passes f l p (Ok q)
        across_ends f i b = sym (crossed x i b ∙ rw (← is, f))

        pub across_no_pass : same ≡ false → Passes f l p (Err (record { 0 = NoPass; 1 = q }))
        across_no_pass f i b = sym (crossed x i b ∙ rw (← is, f))

-- a reading behind a pass leaves fewer entries to read
pub nearer : (f : Folded) (l : ℕ) (at met : Place) {next : Place} {t u e : ℕ} → Landed f.n f.N f.h (lambda_of f) (delta_of f) t met.count u e at.count → Reads f l at (Ok next) → 2 + 2 * f.N - next.count < 2 + 2 * f.N - met.count
nearer f l at met {next = next} x read = let y = landed f l at next read in omega (arith, x.more, y.more, y.most)

-- a walk that is stopped in the second step of a pass
pub crossing_stops : {f : Folded} {l : ℕ} {from at met : Place} {s : Stopped} → Stepped f l from at (Ok met) → each f.lambda met.dart < l → Crossed f (l - 1) met (Err s) → Reads f l from (Err s)
crossing_stops {met = met} {s = s} step left x = pass_stops {s = s} (record { met = met; step = step; left = left; pass = across_stops x })
