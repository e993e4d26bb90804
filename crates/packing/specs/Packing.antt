-- Values packed to a place, one after the other, of the numbers that pass a test. Assumes nothing: these are definitions.
use Rattle.std.specs.Prelude.{◌≡◌, Bool, true, List, ℕ, suc, ◌+◌, ◌*◌, ◌/◌, ◌%◌, ◌≤◌, ◌<◌, length, get_or}
use Rattle.maps.specs.Count.{count}
use Rattle.maps.specs.Mark.{stay}
use Rattle.maps.specs.Table.{entry, each, listed, absent}
use Rattle.maps.specs.Folded.{survives}
use Rattle.maps.specs.NewBase.{rank, old_number, new_darts, newΛ, newΔ}
use Rattle.maps.specs.Rebase.{packed}

-- The values of the numbers below d that pass stand from `at` on, in their order; what is before and behind them is untouched.
pub record Packs (p : ℕ → Bool) (value : ℕ → ℕ) (at d : ℕ) (before after : List ℕ) : Type 0 where
  pub long : length after ≡ length before
  pub done : (e : ℕ) → e < d → p e ≡ true → get_or after (at + count p e) 0 ≡ value e
  pub front : (x : ℕ) → x < at → get_or after x 0 ≡ get_or before x 0
  pub rest : (x : ℕ) → at + count p d ≤ x → get_or after x 0 ≡ get_or before x 0

-- the numbers of a row are below a bound at the survivors of level l
abbrev pub Inside : (ℕ → ℕ) → ℕ → ℕ → ℕ → (ℕ → ℕ) → Type 0
Inside Λ l N bound row = (d : ℕ) → d < N → survives Λ l d ≡ true → row d < bound

-- the same of row i of a table, for all darts of Λ
abbrev pub EntriesInside : List ℕ → ℕ → List ℕ → ℕ → Type 0
EntriesInside lambda l rows i = Inside (each lambda) l (length lambda) (length lambda) (entry (length lambda) rows i)

-- the row that begins at `from` has a rank at each survivor
abbrev pub RowInside : List ℕ → ℕ → List ℕ → List ℕ → ℕ → Type 0
RowInside lambda l ranks rows from = Inside (each lambda) l (length lambda) (length ranks) (λ d. get_or rows (from + d) 0)

-- its survivors' entries stand from `to` on, as ranks
abbrev pub RowPacked : List ℕ → ℕ → List ℕ → ℕ → ℕ → List ℕ → List ℕ → Type 0
RowPacked lambda l ranks from to before after = Packs (survives (each lambda) l) (λ d. each ranks (get_or before (from + d) 0)) to (length lambda) before after

-- how many darts are on level l
abbrev pub count_on : List ℕ → ℕ → ℕ
count_on lambda l = new_darts (length lambda) (each lambda) l

-- their ranks
abbrev pub ranks_on : List ℕ → ℕ → List ℕ
ranks_on lambda l = listed (rank (each lambda) l) (length lambda)

-- rows of the new length, of ranks, and 65,535 behind them
abbrev pub packed_rows : ℕ → List ℕ → ℕ → ℕ → List ℕ → List ℕ
packed_rows n lambda l count rows = packed (λ x. rank (each lambda) l (entry (length lambda) rows (x / count) (old_number (length lambda) (each lambda) l (x % count)))) (suc n * count) absent (length rows)

-- Λ of the survivors, reduced, and 255 behind it
abbrev pub packedΛ : List ℕ → ℕ → List ℕ
packedΛ lambda l = packed (newΛ (length lambda) (each lambda) l) (count_on lambda l) stay (length lambda)

-- Δ of the survivors, and 255 behind it
abbrev pub packedΔ : List ℕ → List ℕ → ℕ → List ℕ
packedΔ lambda delta l = packed (newΔ (length lambda) (each lambda) (each delta) l) (count_on lambda l) stay (length lambda)

-- their old numbers, and 65,535 behind them
abbrev pub packed_old : List ℕ → ℕ → List ℕ
packed_old lambda l = packed (old_number (length lambda) (each lambda) l) (count_on lambda l) absent (length lambda)
