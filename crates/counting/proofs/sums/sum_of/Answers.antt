-- `counting::sums::sum_of` meets its contract: it is the difference of two halves, which fit. Assumes nothing.
use mathlib.Core.Path.{◌≡◌, sym, ◌∙◌}
use Prim.Native.Nat.{◌+◌, ◌≤◌}
use borrow.Author.Rules.{rules}
use lib.IntN.{pos, ◌-ℤ◌}
use mir.Syntax.{w32}
use mir.ValLaws.{to_z-of_z}
use Rattle.maps.specs.Table.{each}
use Rattle.maps.specs.Census.{alternating}
use Rattle.counting.proofs.Alternating.{alternating_five, difference_fits}
use Rattle.counting.proofs.sums.sum_of.Goals as goal

pub returns : goal.returns
returns c =
    let row = each c.args.row in
    let halves : pos (c.from.result + c.from-2.result + c.from-3.result) -ℤ pos (c.from-4.result + c.from-5.result) ≡ alternating row 5 =
    (λ x. pos (c.from.ensures x + c.from-2.ensures x + c.from-3.ensures x) -ℤ pos (c.from-4.ensures x + c.from-5.ensures x)) ∙ sym (alternating_five row) in
    let plus : c.from.result + c.from-2.result + c.from-3.result ≤ 196605 = search rules in
    let minus : c.from-4.result + c.from-5.result ≤ 196605 = search rules in
    to_z-of_z w32 c.difference.result (rw c.difference.ensures (difference_fits _ _ plus minus)) ∙ c.difference.ensures ∙ halves
