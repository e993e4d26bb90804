-- `checking::pyramid::ascend` meets its contract. Assumes nothing.
use native.Mathlib.Numerals.{add-one}
use Rattle.checking.proofs.AddKernels.{folded_part, ascend_base, ascend_risen}
use Rattle.checking.proofs.pyramid.ascend.Goals as goal

pub rise-requires : goal.rise-requires
rise-requires c =
    let p = c.requires in
    let e = c.folded_apart.ensures in
    let s = c.args.pyramid.now in
    (ascend_base c.args.row.now p.base.0 p.base.1 p.row_len.1 (folded_part _ e.new_lambda_left p.row_len.0) (folded_part _ e.new_delta_left p.row_len.0) (add-one s.sizes.h.0), p.base.2)

pub returns : goal.returns
returns c =
    let p = c.requires in
    let e = c.folded_apart.ensures in
    let s = c.args.pyramid.now in
    let both = ascend_risen c.args.row.now p.base.0 p.base.1 p.row_len.1 (folded_part _ e.new_lambda_left p.row_len.0) (folded_part _ e.new_delta_left p.row_len.0) (add-one s.sizes.h.0) c.rise.ensures.verdict c.rise.ensures.table_left in record { verdict = both.0; table_left = both.1 }
