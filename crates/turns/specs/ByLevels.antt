-- What a reading by levels does, counted: the definition of the reading once more, with a number for each thing that happens. That the code's calls and turns are these is read in it. Assumes nothing: these are definitions.
use Rattle.std.specs.Prelude.{true, false, cond, ◌&&◌, ℕ, zero, suc, ◌+◌, ◌*◌, eqb, ltb}
use Rattle.maps.specs.Count.{one}
use Rattle.maps.specs.Map.{Involutions}
use Rattle.maps.specs.Mark.{between}
use Rattle.maps.specs.Folded.{gone}
use Rattle.maps.specs.Walk.{Walked, ended, stopped}
use Rattle.maps.specs.ByLevels.{read_base, read_level}

-- What is counted, by the level that it happens on: a call of `reading`; a base entry read; a second step or a further turn of `walk`; a stop that begins there;
-- a stop from one level lower that is passed up.
pub record Counted : Type 0 where
  pub call : ℕ → ℕ
  pub entry : ℕ
  pub more : ℕ → ℕ
  pub begun : ℕ → ℕ
  pub passed : ℕ → ℕ

-- 0 where a reading has ended, else the number
abbrev pub if_stopped : Walked → ℕ → ℕ
if_stopped (ended row dart count) number = 0
if_stopped (stopped kind row dart) number = number

-- the question is involution i of dart b; c base entries are read already
module _ (a : Involutions) (n N h : ℕ) (Λ Δ : ℕ → ℕ) (i b : ℕ) (w : Counted) where
  -- a base entry, as `readBase` reads it: none is read where there were too many before
  unfoldable pub tally_base : ℕ → ℕ → ℕ → ℕ
  tally_base t d c = w.call 0 + (cond (ltb c (1 + 2 * N)) w.entry 0 + if_stopped (read_base a n N h Λ Δ i b t d c) (w.begun 0))

  -- the walk over level l, as `overLevel` walks, where `below` reads that level and `tally` counts each reading there; at its limit of turns, which is never reached, it stops
  unfoldable pub tally_over : (ℕ → ℕ → ℕ → Walked) → (ℕ → ℕ → ℕ → ℕ) → ℕ → ℕ → ℕ → ℕ → ℕ → ℕ
  tally_over below tally l zero t d c = w.begun (suc l)
  tally_over below tally l (suc times) t d c = tally t d c + elim (below t d c) [
    | stopped number row dart ↦ w.passed (suc l)
    | ended u e c₁ ↦ elim (gone Λ (suc l) e) [
      | false ↦ 0
      | true ↦ elim (eqb (Λ e) l && eqb (between (Δ e)).0 t) [
        | false ↦ w.begun (suc l)
        | true ↦ w.more (suc l) + (tally (between (Δ e)).1 e c₁ + elim (below (between (Δ e)).1 e c₁) [
          | stopped number row dart ↦ w.passed (suc l)
          | ended u₂ e₂ c₂ ↦ elim (eqb (Λ e₂) l && eqb (Δ e₂) (Δ e)) [
            | false ↦ w.begun (suc l)
            | true ↦ w.more (suc l) + tally_over below tally l times t e₂ c₂
          ]
        ])
      ]
    ]
  ]

  -- row t of dart d on level l, as `readLevel` reads it
  unfoldable pub tally_level : ℕ → ℕ → ℕ → ℕ → ℕ
  tally_level zero t d c = tally_base t d c
  tally_level (suc l) t d c = w.call (suc l) + tally_over (read_level a n N h Λ Δ i b l) (tally_level l) l (1 + 2 * N) t d c

-- calls of `reading` on level k
abbrev pub calls_on : ℕ → Counted
calls_on k = record { call = λ l. one (eqb l k); entry = 0; more = λ l. 0; begun = λ l. 0; passed = λ l. 0 }

-- base entries read
abbrev pub entries_read : Counted
entries_read = record { call = λ l. 0; entry = 1; more = λ l. 0; begun = λ l. 0; passed = λ l. 0 }

-- second steps and further turns of all walks
abbrev pub further_steps : Counted
further_steps = record { call = λ l. 0; entry = 0; more = λ l. 1; begun = λ l. 0; passed = λ l. 0 }

-- stops that begin, on whichever level
abbrev pub stops_begun : Counted
stops_begun = record { call = λ l. 0; entry = 0; more = λ l. 0; begun = λ l. 1; passed = λ l. 0 }

-- how often a stop is passed up
abbrev pub stops_passed : Counted
stops_passed = record { call = λ l. 0; entry = 0; more = λ l. 0; begun = λ l. 0; passed = λ l. 1 }

-- of a stop the level that it begins on
abbrev pub stop_level : Counted
stop_level = record { call = λ l. 0; entry = 0; more = λ l. 0; begun = λ l. l; passed = λ l. 0 }
