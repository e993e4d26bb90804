-- `joined_kernels::tested` meets its contract. Assumes nothing.
use mathlib.Core.Path.{◌≡◌, refl, ap, ◌∙◌}
use mathlib.Core.List.{List, ◌++◌}
use Prim.Native.Nat.{ℕ}
use native.Mathlib.Omega.{arith}
use lib.ListN.{length, take, drop, get_or-replicate}
use Rattle.maps.specs.Table.{each, listed}
use Rattle.maps.specs.Join.{joinΛ}
use Rattle.laws.proofs.Tables.{length_listed}
use Rattle.climbing.proofs.Rows.{blank, part_is}
use Rattle.joined_kernels.proofs.Climbs.{joined_ready, joined_told}
use Rattle.joined_kernels.proofs.tested.Goals as goal

-- a row whose first places are written holds what was written there
joined_part : (lambda : List ℕ) (l : ℕ) {new : List ℕ} {N : ℕ} → new ≡ listed (joinΛ l (each lambda)) (length lambda) → length lambda ≡ N → take N (new ++ drop N blank) ≡ listed (joinΛ l (each lambda)) N
joined_part lambda l {new} {N} e long =
    let is : new ≡ listed (joinΛ l (each lambda)) N = e ∙ ap (listed (joinΛ l (each lambda))) long in
    part_is N new (ap length is ∙ length_listed (joinΛ l (each lambda)) N) ∙ is

pub string-requires : goal.string-requires
string-requires c =
    let b = c.requires.1.1.1.base in
    let long = ap length (joined_part c.args.pyramid.now.lambda.now c.args.level.0 c.join_row.ensures b.lambda_long) ∙ length_listed _ _ in
    (omega (arith, long, b.darts), record { none = λ k lk. get_or-replicate 256 k 65535 0 lk; heads = refl; room = refl })

pub whole-requires : goal.whole-requires
whole-requires c =
    let p = c.requires in
    let both = joined_ready _ _ p.0 p.1.1.1 (joined_part c.args.pyramid.now.lambda.now c.args.level.0 c.join_row.ensures p.1.1.1.base.lambda_long) c.string.ensures refl in
    record { tested = both.0; strung = both.1 }

pub returns : goal.returns
returns c = λ all.
    let p = c.requires in
    joined_told _ _ p.0 p.1.1.1 (joined_part c.args.pyramid.now.lambda.now c.args.level.0 c.join_row.ensures p.1.1.1.base.lambda_long) c.string.ensures c.whole.ensures all
