-- The loops of marking, census and region names that search, with the darts that they queue and the entries that their searches read. A search is what the contract of `orbit` leaves; that the loops around are these is read in the code. Assumes nothing: these are definitions.
use Rattle.std.specs.Prelude.{Bool, false, cond, ◌&&◌, not, List, ℕ, zero, suc, ◌+◌, get_or, replicate}
use Rattle.maps.specs.Count.{count, sum}
use Rattle.maps.specs.Map.{Involutions}
use Rattle.maps.specs.Table.{entry}
use Rattle.maps.specs.Explicit.{present}
use Rattle.maps.specs.Folded.{Folded}
use Rattle.maps.specs.CheckPyramid.{table_at}
use Rattle.orbits.specs.Search.{State, has, state, pushed, turns}
use Rattle.cells.specs.Marked.{failing, undivided}

-- no flag is turned
abbrev pub none : List Bool
none = replicate 4096 false

-- two sets of flags, the queue that their searches share, the darts queued for each set, and the entries read
pub record Work : Type 0 where
  pub first : List Bool
  pub second : List Bool
  pub queue : List ℕ
  pub firsts : ℕ
  pub seconds : ℕ
  pub entries : ℕ

-- nothing is reached, queued or read
abbrev pub begun : List ℕ → Work
begun queue = record { first = none; second = none; queue = queue; firsts = 0; seconds = 0; entries = 0 }

-- the second set is made anew
abbrev pub anew : Work → Work
anew w = record { first = w.first; second = none; queue = w.queue; firsts = w.firsts; seconds = 0; entries = w.entries }

-- a search as `orbit` leaves it, from the queue's begin on
unfoldable pub searched : Involutions → ℕ → ℕ → (ℕ → ℕ → Bool) → List Bool → List ℕ → ℕ → State
searched a n N uses reached queue d = turns a n uses 0 (pushed (state reached queue 0) d) N

-- the entries that it reads: of each dart of its queue one for each row used
unfoldable pub search_reads : ℕ → (ℕ → ℕ → Bool) → State → ℕ
search_reads n uses t = sum (λ k. count (λ j. uses j (get_or t.queue k 0)) (suc n)) t.tail

-- some steps for each dart in rising order
unfoldable pub each_dart : (Work → ℕ → Work) → Work → ℕ → Work
each_dart step w zero = w
each_dart step w (suc d) = step (each_dart step w d) d

module _ (a : Involutions) (n N : ℕ) where
  -- a search over the first set
  unfoldable pub in_first : (ℕ → ℕ → Bool) → Work → ℕ → Work
  in_first uses w d =
      let t = searched a n N uses w.first w.queue d in
      record { first = t.reached; second = w.second; queue = t.queue; firsts = w.firsts + t.tail; seconds = w.seconds; entries = w.entries + search_reads n uses t }

  -- and over the second
  unfoldable pub in_second : (ℕ → ℕ → Bool) → Work → ℕ → Work
  in_second uses w d =
      let t = searched a n N uses w.second w.queue d in
      record { first = w.first; second = t.reached; queue = t.queue; firsts = w.firsts; seconds = w.seconds + t.tail; entries = w.entries + search_reads n uses t }

  -- `name_orbits`, at one dart
  unfoldable pub name_step : (ℕ → ℕ → Bool) → Work → ℕ → Work
  name_step uses w d = cond (not (has w.first d)) (in_first uses w d) w

-- `count_cells`, at one dart of an explicit level, by the rows of a cell
unfoldable pub count_step : ℕ → ℕ → List ℕ → (ℕ → ℕ → Bool) → Work → ℕ → Work
count_step n N table cell w d = cond (present N table d && not (has w.first d)) (in_first (entry N table) n N cell w d) w

-- and at all of them
abbrev pub counted_cells : ℕ → ℕ → List ℕ → (ℕ → ℕ → Bool) → List ℕ → Work
counted_cells n N table cell queue = each_dart (count_step n N table cell) (begun queue) N

-- the darts that a census queues on level l, in all dimensions, by the rows of an i-cell
abbrev pub queued_on : Folded → (ℕ → ℕ → ℕ → Bool) → (ℕ → ℕ → List ℕ) → ℕ → ℕ
queued_on f cell queue l = sum (λ i. (counted_cells f.n f.N (table_at f l) (cell i) (queue l i)).firsts) (suc f.n)

-- and the entries that its searches read there
abbrev pub read_on : Folded → (ℕ → ℕ → ℕ → Bool) → (ℕ → ℕ → List ℕ) → ℕ → ℕ
read_on f cell queue l = sum (λ i. (counted_cells f.n f.N (table_at f l) (cell i) (queue l i)).entries) (suc f.n)

-- the orbits named, of all darts of the base, by the rows of each dart's choice; `give` takes the queue of each search once more
abbrev pub named_orbits : Involutions → ℕ → ℕ → (ℕ → ℕ → Bool) → List ℕ → Work
named_orbits a n N uses queue = each_dart (name_step a n N uses) (begun queue) N

-- an explicit level, and the rows of a cell, of a part of it, and all
module _ (n N : ℕ) (table : List ℕ) (cell part every : ℕ → ℕ → Bool) where
  -- `spoil` for dimension δ, at one dart: where it is not reached and its own test fails, its cell is searched
  unfoldable pub spoil_step : ℕ → Work → ℕ → Work
  spoil_step δ w d = cond (not (has w.first d)) (cond (failing n N table δ d) (in_first (entry N table) n N cell w d) w) w

  -- `divide`: where it is still to be found out, the part of the dart is searched, and its cell where that part has both sides
  unfoldable pub divide_step : ℕ → Work → ℕ → Work
  divide_step δ w d =
      cond (undivided N table δ (has w.first) (has w.second) d)
      (let v = in_second (entry N table) n N part w d in cond (has v.second (entry N table (δ + 1) d)) (in_first (entry N table) n N cell v d) v)
      w

  -- `break_pieces`: the piece of a dart that is reached and in no piece yet
  unfoldable pub piece_step : Work → ℕ → Work
  piece_step w d = cond (present N table d && (has w.first d && not (has w.second d))) (in_second (entry N table) n N every w d) w

  -- `spare`: of a dart that is in no piece yet the cell, and then the piece
  unfoldable pub spare_step : Work → ℕ → Work
  spare_step w d = cond (present N table d && not (has w.second d)) (in_second (entry N table) n N every (in_first (entry N table) n N cell w d) d) w

  -- a marking after `spoil`
  abbrev pub spoiled : List ℕ → ℕ → Work
  spoiled queue δ = each_dart (spoil_step δ) (begun queue) N

  -- after `divide`, whose parts are a set of their own
  abbrev pub divided : List ℕ → ℕ → Work
  divided queue δ = each_dart (divide_step δ) (anew (spoiled queue δ)) N

  -- after `break_pieces` and `spare`, which share the set of pieces
  abbrev pub spared : List ℕ → ℕ → Work
  spared queue δ = each_dart spare_step (each_dart piece_step (anew (divided queue δ)) N) N
