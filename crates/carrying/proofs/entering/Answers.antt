-- `carrying::entering` meets its contract. Assumes nothing.
use mathlib.Core.Path.{◌≡◌, sym, ap, ◌∙◌}
use mathlib.Core.Bool.{true}
use mathlib.Core.List.{List}
use Prim.Native.Nat.{ℕ, ◌≤◌, ◌<◌}
use native.Mathlib.Omega.{arith}
use Rattle.maps.specs.Mark.{is_mark, between}
use Rattle.maps.specs.Table.{entry, each}
use Rattle.laws.proofs.Marks.{mark_byte, mark_rows}
use Rattle.kernels.specs.declared.Kernel.{Kernel}
use Rattle.kernels.specs.Ready.{row_of}
use Rattle.kernels.proofs.Strung.{in_kernel_lem, mark_is}
use Rattle.kernels.proofs.Places.{place}
use Rattle.carrying.specs.Carried.{CanTake, led_from}
use Rattle.carrying.proofs.entering.Goals as goal

-- the mark of dart d, the first row of it, and where that leads
module _ (k : Kernel) (block : List ℕ) (d : ℕ) (p : CanTake k block) (ld : d < k.darts) (q : is_mark k.n.0 (row_of k d) ≡ true) where
  mark_of : {m : ℕ} → m ≡ each k.delta.now d → m ≡ row_of k d
  mark_of e = e ∙ mark_is p.1.marks p.0.tested.shape.dimension d ld q

  row_low : (between (row_of k d)).0 ≤ k.n.0
  row_low = (mark_rows k.n.0 (row_of k d) q).first

  dart_inside : led_from k block d < k.darts
  dart_inside = (p.0.tested.sound.valid.inside (between (row_of k d)).0 d row_low (ld, p.0.tested.marked d ld q)).0

  module _ {m i : ℕ} (e : m ≡ each k.delta.now d) (is : i ≡ (between m).0) where
    row_is : i ≡ (between (row_of k d)).0
    row_is = is ∙ ap (λ (x : ℕ). (between x).0) (mark_of e)

    dart_is : {b : ℕ} → b ≡ entry k.darts block i d → b ≡ led_from k block d
    dart_is at = at ∙ ap (λ (x : ℕ). entry k.darts block x d) row_is

pub between-rows-requires : goal.between-rows-requires
between-rows-requires c =
    let r = c.requires in
    let z = r.0.0.tested.shape.dimension in
    mark_byte c.args.kernel.now.n.0 c.delta_at.result.0 (omega arith) (rw (mark_of c.args.kernel.now c.args.block.now c.args.d r.0 r.1 r.2 c.delta_at.ensures) r.2)

pub at-b-requires : goal.at-b-requires
at-b-requires c =
    let r = c.requires in
    let e = row_is c.args.kernel.now c.args.block.now c.args.d r.0 r.1 r.2 c.delta_at.ensures c.between-rows.ensures.0 in
    place r.0.0.tested.shape _ _ (omega (arith, e, row_low c.args.kernel.now c.args.block.now c.args.d r.0 r.1 r.2)) r.1

pub removed-requires : goal.removed-requires
removed-requires c =
    let r = c.requires in
    let e = dart_is c.args.kernel.now c.args.block.now c.args.d r.0 r.1 r.2 c.delta_at.ensures c.between-rows.ensures.0 c.at-b.ensures.0 in
    omega (arith, e, dart_inside c.args.kernel.now c.args.block.now c.args.d r.0 r.1 r.2, r.0.1.marks.lambda_long)

pub returns-then-removed : goal.returns-then-removed
returns-then-removed c =
    let r = c.requires in
    let e = dart_is c.args.kernel.now c.args.block.now c.args.d r.0 r.1 r.2 c.delta_at.ensures c.between-rows.ensures.0 c.at-b.ensures.0 in
    let gone = sym (in_kernel_lem r.0.1.marks r.0.0.tested.shape.dimension c.at-b.result (omega (arith, e, dart_inside c.args.kernel.now c.args.block.now c.args.d r.0 r.1 r.2))) ∙ sym c.removed.ensures ∙ c.if-removed.true in
    rw e at gone

pub returns : goal.returns
returns c =
    let r = c.requires in
    let i = row_is c.args.kernel.now c.args.block.now c.args.d r.0 r.1 r.2 c.delta_at.ensures c.between-rows.ensures.0 in
    let e = dart_is c.args.kernel.now c.args.block.now c.args.d r.0 r.1 r.2 c.delta_at.ensures c.between-rows.ensures.0 c.at-b.ensures.0 in
    let inside : c.at-b.result < c.args.kernel.now.darts = omega (arith, e, dart_inside c.args.kernel.now c.args.block.now c.args.d r.0 r.1 r.2) in
    record {
      row = i;
      low = omega (arith, i, row_low c.args.kernel.now c.args.block.now c.args.d r.0 r.1 r.2);
      dart = e;
      inside = inside;
      stays = sym (in_kernel_lem r.0.1.marks r.0.0.tested.shape.dimension c.at-b.result inside) ∙ sym c.removed.ensures ∙ c.if-removed.false;
    }
