-- `programs::with_pyramid` meets its contract: the sizes of a record that was taken are in range, so that its pyramid lies in the arrays. Assumes nothing.
use mathlib.Core.Path.{◌≡◌, sym, ap, ◌∙◌}
use mathlib.Core.List.{List}
use Prim.Native.Nat.{ℕ, ◌≤◌, suc, ◌*◌}
use lib.Seq.{length-take-le}
use native.Mathlib.Omega.{arith}
use Rattle.std.specs.Prelude.{Result, Ok}
use Rattle.maps.specs.Record.{Allowed}
use Rattle.answers.specs.declared.Refusal.{Refusal}
use Rattle.answers.specs.declared.Sizes.{Sizes}
use Rattle.taking.specs.Answers.{taken_of, taken}
use Rattle.taking.proofs.Joined.{taken_sized}
use Rattle.programs.proofs.with_pyramid.Goals as goal

-- the darts and the entries of a pyramid that was taken
small : (bytes : List ℕ) (allowed : Allowed) (rows lambda delta table : List ℕ) {answer : Result Sizes Refusal} {sizes : Sizes} → answer ≡ Ok sizes → taken_of answer ≡ taken bytes allowed rows lambda delta table → (sizes.darts ≤ 4096) × (suc sizes.n.0 * sizes.darts ≤ 20480)
small bytes allowed rows lambda delta table e f = taken_sized bytes allowed rows lambda delta table (sym (ap taken_of e) ∙ f)

pub slice_bounds-rows-end : goal.slice_bounds-rows-end
slice_bounds-rows-end g c = omega (arith, c.entries-size.ensures, (small _ _ _ _ _ _ c.in-Ok.is c.take.ensures.answer).1)

pub slice_bounds-pyramid-end : goal.slice_bounds-pyramid-end
slice_bounds-pyramid-end g c = sym (length-take-le _ _ (omega (arith, c.entries-size.ensures, (small _ _ _ _ _ _ c.in-Ok.is c.take.ensures.answer).1)))

pub slice_bounds-lambda-end : goal.slice_bounds-lambda-end
slice_bounds-lambda-end g c = omega (arith, (small _ _ _ _ _ _ c.in-Ok.is c.take.ensures.answer).0)

pub slice_bounds-pyramid-end-in-Ok : goal.slice_bounds-pyramid-end-in-Ok
slice_bounds-pyramid-end-in-Ok g c = sym (length-take-le _ _ (omega (arith, (small _ _ _ _ _ _ c.in-Ok.is c.take.ensures.answer).0)))

pub slice_bounds-delta-end : goal.slice_bounds-delta-end
slice_bounds-delta-end g c = omega (arith, (small _ _ _ _ _ _ c.in-Ok.is c.take.ensures.answer).0)

pub slice_bounds-pyramid-end-in-Ok-2 : goal.slice_bounds-pyramid-end-in-Ok-2
slice_bounds-pyramid-end-in-Ok-2 g c = sym (length-take-le _ _ (omega (arith, (small _ _ _ _ _ _ c.in-Ok.is c.take.ensures.answer).0)))

pub slice_bounds-table-end : goal.slice_bounds-table-end
slice_bounds-table-end g c = omega (arith, c.entries-size.ensures, (small _ _ _ _ _ _ c.in-Ok.is c.take.ensures.answer).1)

pub slice_bounds-show-end : goal.slice_bounds-show-end
slice_bounds-show-end g c = sym (length-take-le _ _ (omega (arith, c.entries-size.ensures, (small _ _ _ _ _ _ c.in-Ok.is c.take.ensures.answer).1)))
