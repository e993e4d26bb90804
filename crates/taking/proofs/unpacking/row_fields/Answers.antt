-- `taking::row_fields` meets its contract. The invariant: the rows before are accepted. The measure: the rows left. Assumes nothing.
use mathlib.Core.Path.{◌≡◌, refl, sym, ap₂, ◌∙◌}
use Prim.Native.Nat.{ℕ, suc, ◌+◌, ◌*◌, zero-le}
use native.Mathlib.Omega.{arith}
use Rattle.maps.specs.Record.{field}
use Rattle.maps.specs.Verdict.{scan}
use Rattle.laws.proofs.Verdicts.{scan_more, scan_first}
use Rattle.answers.specs.Numbers.{verdict_of}
use Rattle.answers.proofs.Refusals.{passed_on, told, refusal_refuses}
use Rattle.taking.specs.Parts.{row_field}
use Rattle.taking.proofs.unpacking.row_fields.Goals.{After-field}
use Rattle.taking.proofs.unpacking.row_fields.Goals as goal

-- what row i's field answers
row_told : (c : After-field) → let a = c.args in verdict_of c.field.result ≡ row_field a.bytes.now a.one a.size c.loop-i.i
row_told c =
    let a = c.args in
    c.field.ensures ∙ ap₂ (λ (i tag : ℕ). field a.bytes.now (7 + i * (3 + a.size)) tag a.size) c.from.ensures c.row_kind.ensures.1

pub loop-i-init : goal.loop-i-init
unfolding scan
loop-i-init c = (zero-le, refl)

pub returns-in_err-field : goal.returns-in_err-field
returns-in_err-field c =
    let a = c.args in
    let l = c.loop-i in
    let x = c.in_err-field.field-0.0 in
    let r = refusal_refuses x in
    let e = told (row_told (goal.at.returns-in_err-field c).After-field) c.in_err-field.was in
    rw (passed_on c.from_residual.result c.from_residual.ensures.1) (r.is ∙ sym (scan_first (suc a.n.0) (row_field a.bytes.now a.one a.size) l.i r.number r.level r.involution r.dart (omega arith) l.invariant.1 (sym e ∙ r.is)))

pub loop-i-preserved : goal.loop-i-preserved
loop-i-preserved c =
    let l = c.loop-i in
    (omega arith, scan_more _ l.i l.invariant.1 (sym (told (row_told (goal.at.loop-i-preserved c).After-field) c.in_ok-field.was)))
