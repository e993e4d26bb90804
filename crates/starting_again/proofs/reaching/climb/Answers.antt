-- `starting_again::reaching::climb` meets its contract. The invariant: the kernels passed are removed, and the rows hold the level that they leave. The measure is the kernels left. Assumes nothing.
use mathlib.Core.Path.{refl}
use Prim.Native.Nat.{◌<◌, zero-le}
use native.Mathlib.Omega.{arith}
use lib.ListN.{get_or-replicate}
use Rattle.climbing.proofs.Steps.{climb_none, climb_strung}
use Rattle.starting_again.proofs.Reached.{kernel_ready, kernel_removed}
use Rattle.starting_again.proofs.reaching.climb.Goals as goal

pub string-requires : goal.string-requires
string-requires c = let b = c.requires.1.base in (omega (arith, b.darts, b.lambda_long), record { none = λ k lk. get_or-replicate 256 k 65535 0 lk; heads = refl; room = refl })

pub loop-l-init : goal.loop-l-init
loop-l-init c = (zero-le, λ h r. climb_none r.base c.string.ensures refl)

pub remove-requires : goal.remove-requires
remove-requires c =
    let i = c in
    let s = c in
    let f : i.loop-l.l < s.requires.0 = omega (arith, s.requires.1.low) in
    let v = i.loop-l.invariant.1 s.requires.0 s.requires.1 in record { ready = kernel_ready v f s.requires.1.climbed; strung = climb_strung v f refl }

pub loop-l-preserved : goal.loop-l-preserved
loop-l-preserved c =
    let e = c in
    let v = e.loop-l in
    (omega arith, λ h r. kernel_removed (v.invariant.1 h r) (omega (arith, r.low)) r.climbed c.remove.ensures)
