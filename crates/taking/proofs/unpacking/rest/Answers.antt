-- `taking::rest` meets its contract: the tests one after the other. Assumes nothing.
use Rattle.answers.proofs.Refusals.{passed_on, refused_then}
use Rattle.taking.specs.Parts.{rest_of}
use Rattle.taking.proofs.unpacking.rest.Goals as goal

pub returns-in_err-row_fields : goal.returns-in_err-row_fields
unfolding rest_of
returns-in_err-row_fields c =
    rw (passed_on c.from_residual.result c.from_residual.ensures.1, ← c.row_size.ensures.0) (refused_then c.in_err-row_fields.field-0.0 _ _ c.in_err-row_fields.ensures)

pub returns-in_err-field : goal.returns-in_err-field
unfolding rest_of
returns-in_err-field c =
    let r = c.from_residual-in_err-field in
    rw (passed_on r.result r.ensures.1, ← c.marks_at-at.ensures.0, ← c.row_size.ensures.0, ← c.in_ok-row_fields.ensures) (refused_then c.in_err-field.field-0.0 _ _ c.in_err-field.ensures)

pub returns-in_err-field-2 : goal.returns-in_err-field-2
unfolding rest_of
returns-in_err-field-2 c =
    let r = c.from_residual-in_err-field-2 in
    rw (passed_on r.result r.ensures.1, ← c.marks_at-at.ensures.0, ← c.row_size.ensures.0, ← c.in_ok-row_fields.ensures, ← c.in_ok-field.ensures) (refused_then c.in_err-field-2.field-0.0 _ _ c.in_err-field-2.ensures)

pub returns : goal.returns
unfolding rest_of
returns c =
    rw (← c.marks_at-at.ensures.0, ← c.row_size.ensures.0, ← c.in_ok-row_fields.ensures, ← c.in_ok-field.ensures, ← c.in_ok-field-2.ensures) c.room.ensures
