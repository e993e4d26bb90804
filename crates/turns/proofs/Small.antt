-- The counts on a small map, by computation: the square of four edges, of which three vertices are removed. Bounds are reached there. Assumes nothing.
use mathlib.Core.Path.{◌≡◌, refl}
use mathlib.Core.Bool.{true, false}
use mathlib.Core.List.{List, [], ◌∷◌}
use Prim.Native.Nat.{ℕ}
use lib.ListN.{replicate}
use Rattle.maps.specs.Count.{count, sum}
use Rattle.maps.specs.Mark.{is_mark, between}
use Rattle.maps.specs.Table.{entry, each}
use Rattle.maps.specs.ByLevels.{read_base, over_level, read_level}
use Rattle.orbits.specs.Search.{pushed, spread, turns}
use Rattle.orbits.specs.Explicit.{but}
use Rattle.turns.specs.Strings.{turns_along, turns_over}
use Rattle.turns.specs.Searches.{searched, search_reads, each_dart, in_first, in_second, count_step, counted_cells, spoil_step, divide_step, piece_step, spare_step, divided, spared}
use Rattle.turns.specs.Walks.{walk_entries}
use Rattle.turns.specs.ByLevels.{Counted, tally_base, tally_over, tally_level, calls_on, entries_read, further_steps, stops_begun, stops_passed, stop_level}

-- its rows, and Λ and Δ
abbrev square : List ℕ
square = 1 ∷ 0 ∷ 3 ∷ 2 ∷ 5 ∷ 4 ∷ 7 ∷ 6 ∷ 7 ∷ 2 ∷ 1 ∷ 4 ∷ 3 ∷ 6 ∷ 5 ∷ 0 ∷ []

abbrev vertices : ℕ → ℕ
vertices = each (1 ∷ 0 ∷ 0 ∷ 0 ∷ 0 ∷ 0 ∷ 0 ∷ 1 ∷ [])

-- the strings of its kernel and of what is left
abbrev heads : List ℕ
heads = 1 ∷ 0 ∷ []

abbrev nexts : List ℕ
nexts = 7 ∷ 2 ∷ 3 ∷ 4 ∷ 5 ∷ 6 ∷ 65535 ∷ 65535 ∷ []

pub small_strings : (turns_over 8 heads nexts (λ l. 8) 0 1 ≡ 6) × (turns_along 8 nexts 2 1 ≡ 2)
unfolding turns_over turns_along sum
small_strings = (refl, refl)

-- the neighbour of dart 0 by a_0 on level 1: past six darts, by seven entries
abbrev asked : Counted → ℕ
asked w = tally_level (entry 8 square) 1 8 1 vertices vertices 0 0 w 1 0 0 0

pub small_levels : (asked entries_read ≡ 7) × (asked (calls_on 0) ≡ 7) × (asked (calls_on 1) ≡ 1) × (asked further_steps ≡ 6) × (asked stops_begun ≡ 0) × (asked stops_passed ≡ 0)
unfolding tally_level tally_over tally_base read_level over_level read_base is_mark between
small_levels = (refl, refl, refl, refl, refl, refl)

pub small_walk : walk_entries (entry 8 square) 1 8 1 vertices vertices 1 17 0 0 ≡ 7
unfolding walk_entries is_mark between
small_walk = refl

-- with dart 2 left out of the kernel, level 2 is asked: 14 begins on level 1 and is passed up to level 2
abbrev broken : Counted → ℕ
broken w = tally_level (entry 8 square) 1 8 2 (each (2 ∷ 0 ∷ 2 ∷ 0 ∷ 0 ∷ 0 ∷ 0 ∷ 2 ∷ [])) (each (1 ∷ 0 ∷ 1 ∷ 0 ∷ 0 ∷ 0 ∷ 0 ∷ 1 ∷ [])) 0 0 w 2 0 0 0

pub small_stop : (broken entries_read ≡ 2) × (broken (calls_on 0) ≡ 2) × (broken (calls_on 1) ≡ 1) × (broken (calls_on 2) ≡ 1) × (broken further_steps ≡ 1) × (broken stops_begun ≡ 1) × (broken stops_passed ≡ 1) × (broken stop_level ≡ 1)
unfolding tally_level tally_over tally_base read_level over_level read_base is_mark between
small_stop = (refl, refl, refl, refl, refl, refl, refl, refl)

-- its vertices counted: four searches, two darts each, one row of each
pub small_count : ((counted_cells 1 8 square (λ j d. but 0 j) (replicate 4096 0)).firsts ≡ 8) × ((counted_cells 1 8 square (λ j d. but 0 j) (replicate 4096 0)).entries ≡ 8)
unfolding each_dart count_step in_first searched search_reads turns spread pushed sum count
small_count = (refl, refl)

-- its vertices marked: no cell fails, each part is one dart, all is one piece whose lowest vertex is left unmarked
pub small_marking : ((divided 1 8 square (λ j d. but 0 j) (λ j d. false) (λ j d. true) (replicate 4096 0) 0).seconds ≡ 4)
    × ((spared 1 8 square (λ j d. but 0 j) (λ j d. false) (λ j d. true) (replicate 4096 0) 0).firsts ≡ 2)
    × ((spared 1 8 square (λ j d. but 0 j) (λ j d. false) (λ j d. true) (replicate 4096 0) 0).seconds ≡ 8)
unfolding each_dart spoil_step divide_step piece_step spare_step in_first in_second searched search_reads turns spread pushed sum count
small_marking = (refl, refl, refl)
