-- `by_levels::read_base` meets its contract. Assumes nothing.
use Rattle.answers.specs.Pyramid.{folded}
use Rattle.by_levels.proofs.Readings.{base_long, base_strays, base_marks, base_ends}
use Rattle.by_levels.proofs.read_base.Goals as goal

pub returns-then-sizes-at : goal.returns-then-sizes-at
returns-then-sizes-at c = let a = c.args in base_long (folded a.pyramid.now) a.at c.if-sizes-at.true

pub returns-then-sizes-dart : goal.returns-then-sizes-dart
returns-then-sizes-dart c =
    let a = c.args in
    base_strays (folded a.pyramid.now) a.at c.if-sizes-at.false c.at-dart.result c.at-dart.ensures c.if-sizes-dart.true

pub returns-then-marks_refused : goal.returns-then-marks_refused
returns-then-marks_refused c =
    let a = c.args in
    base_marks (folded a.pyramid.now) a.at c.if-sizes-at.false c.at-dart.result c.at-dart.ensures c.if-sizes-dart.false (rw (c.lambda_at-own.ensures, c.delta_at-mark.ensures) at c.marks_refused.ensures) c.if-marks_refused.true

pub returns : goal.returns
returns c =
    let a = c.args in
    base_ends (folded a.pyramid.now) a.at c.if-sizes-at.false c.at-dart.result c.at-dart.ensures c.if-sizes-dart.false (rw (c.lambda_at-own.ensures, c.delta_at-mark.ensures) at c.marks_refused.ensures) c.if-marks_refused.false
