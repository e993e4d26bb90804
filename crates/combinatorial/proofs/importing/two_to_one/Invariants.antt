-- `combinatorial::importing::two_to_one` meets its contract. The invariant: a flag is set where a dart passed had the image, and no dart passed has the image of one before. Assumes nothing.
use mathlib.Core.Path.{◌≡◌}
use mathlib.Core.Bool.{false}
use Prim.Native.Nat.{ℕ, ◌≤◌, ◌<◌}
use lib.ListN.{length, get_or}
use Rattle.maps.specs.Partner.{had as had_before}
use Rattle.combinatorial.proofs.Tests.{FreshTo}
use Rattle.combinatorial.proofs.importing.two_to_one.Given as goal

abbrev pub invariant-loop-d : goal.invariant-loop-d
invariant-loop-d l = (l.d ≤ l.darts) × (length l.had ≡ 2048) × ((x : ℕ) → x < l.darts → get_or l.had x false ≡ had_before l.vertices x l.d) × FreshTo l.darts l.vertices l.d
