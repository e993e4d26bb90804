-- `bases::map_valid` meets its contract. Assumes nothing.
use mathlib.Core.Path.{◌≡◌, refl, sym, subst, ◌∙◌}
use mathlib.Core.Bool.{Bool, true, true≢false}
use native.Mathlib.Omega.{arith}
use Rattle.maps.specs.Verdict.{accepted}
use Rattle.bases.specs.InTable.{check_map_in}
use Rattle.bases.proofs.Places.{base_none}
use Rattle.bases.proofs.Valid.{kept_none, all_valid}
use Rattle.bases.proofs.map_valid.Goals.{then-explicit, else-explicit}
use Rattle.bases.proofs.map_valid.Goals as goal

pub returns-then-largest-table : goal.returns-then-largest-table
returns-then-largest-table c h =
    let a = c.args in
    all_valid a.explicit a.table.now.n.0 a.table.now.darts a.table.now.entries.now (base_none a.explicit a.table.now.n.0 a.table.now.darts a.table.now.entries.now c.requires.0 (λ k l. omega (arith, c.largest.ensures.above k l))) (λ d ld p. c.all_valid.ensures h d ld refl)

pub all_valid-requires-then-rows_kept : goal.all_valid-requires-then-rows_kept
all_valid-requires-then-rows_kept c = elim c.if-explicit.branch [
  | then-explicit w ↦ (c.requires.0, λ d ld p i li. (w.rows_kept.ensures (sym w.value-is ∙ c.if-rows_kept.true) i li d ld).leads p, c.requires.1)
  | else-explicit w ↦ absurd (true≢false (sym c.if-rows_kept.true ∙ w.value-is ∙ w.if-explicit.false))
]

pub returns-then-rows_kept : goal.returns-then-rows_kept
returns-then-rows_kept c h =
    let a = c.args in
    let valid = c.all_valid-then-rows_kept.ensures h in
    elim c.if-explicit.branch [
      | then-explicit w ↦ (let five = kept_none a.table.now.n.0 a.table.now.darts a.table.now.entries.now c.requires.0 (w.rows_kept.ensures (sym w.value-is ∙ c.if-rows_kept.true)) valid in
          subst (λ (b : Bool). check_map_in b a.table.now.n.0 a.table.now.darts a.table.now.entries.now ≡ accepted) (sym w.if-explicit.true) (all_valid true a.table.now.n.0 a.table.now.darts a.table.now.entries.now five valid))
      | else-explicit w ↦ absurd (true≢false (sym c.if-rows_kept.true ∙ w.value-is ∙ w.if-explicit.false))
    ]
