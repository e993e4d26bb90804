-- `kernels::Kernel::fits` meets its contract. The invariant: neither number is due at the darts of the kernel passed. The measure is the darts left. Assumes nothing.
use mathlib.Core.Path.{◌≡◌}
use Prim.Native.Nat.{◌<◌}
use native.Mathlib.Omega.{arith}
use lib.ListN.{length}
use Rattle.maps.specs.Mark.{is_mark}
use Rattle.kernels.specs.Strings.{kernel_row}
use Rattle.kernels.proofs.Tests.{walk_marked}
use Rattle.kernels.proofs.Runs.{both_start, both_all, ten_run, ten_on}
use Rattle.kernels.proofs.Kernel.fits.Goals as goal

pub loop-d-init : goal.loop-d-init
loop-d-init c = let s = c in both_start s.requires.tested s.requires.strung

pub commute_alike-requires : goal.commute_alike-requires
commute_alike-requires c =
    let long : length c.args.self.now.lambda.now ≡ c.args.self.now.darts =
    c.requires.strung.marks.lambda_long in
    let inside : c.loop-d.d < length c.args.self.now.lambda.now =
    omega (arith, long, c.loop-d-test.true) in
    let z = c in
    let i = z in
    let h = i in
    let v = h.loop-d.invariant in
    let e = long in
    let a = c.args in
    (c.requires.tested.shape, (walk_marked v.0 (inside) z.delta_at-mark.ensures).0, omega (arith, z.whole_alike-end.ensures.alike.1), ((λ x. is_mark a.self.now.n.0 (kernel_row a.self.now.lambda.now a.self.now.delta.now a.self.now.level.0 x)), rw e at (ten_run v.1)))

pub loop-d-preserved : goal.loop-d-preserved
loop-d-preserved c =
    let long : length c.args.self.now.lambda.now ≡ c.args.self.now.darts =
    c.requires.strung.marks.lambda_long in
    let z = c in
    let v = z.loop-d.invariant in
    let e = z.whole_alike-end.ensures in
    let t = c.commute_alike.ensures c.if-not-commute_alike.false in
    (e.whole, ten_on v.1 e.whole _ e.alike.2 (rw (long) t))

pub returns : goal.returns
returns c q = let h = c in let s = c in both_all s.requires.tested s.requires.strung h.loop-d.invariant.0 h.loop-d.invariant.1 c.loop-d-test.false
