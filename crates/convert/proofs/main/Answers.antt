-- `convert::main` meets its contract: the new record lies in the buffer. Assumes nothing.
use mathlib.Core.Path.{sym, ap, ◌∙◌}
use native.Mathlib.Omega.{arith}
use Rattle.writing.specs.Answers.{written_of}
use Rattle.converting.proofs.Joined.{converted_fits}
use Rattle.convert.proofs.main.Goals as goal

pub hand_out-requires : goal.hand_out-requires
hand_out-requires c =
    let fits = converted_fits _ _ _ _ _ _ (sym (ap written_of c.in-Ok.is) ∙ c.convert.ensures.answer) in
    omega (arith, fits)
