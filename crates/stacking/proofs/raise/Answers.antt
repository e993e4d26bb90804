-- `stacking::raise` meets its contract. Assumes nothing.
use mathlib.Core.Path.{sym, ap, subst, ◌∙◌}
use mathlib.Core.List.{List}
use Prim.Native.Nat.{ℕ, suc, ◌*◌}
use lib.ListN.{take}
use Rattle.maps.specs.Table.{entry}
use Rattle.maps.specs.Check.{check_kernel}
use Rattle.kernels.specs.Ready.{Ready, row_of}
use Rattle.stacking.proofs.Stacks.{part_is, ready_of}
use Rattle.stacking.proofs.raise.Goals as goal

pub remove-requires : goal.remove-requires
remove-requires c =
    let k = c.args.kernel.now in
    let pair = c.args.pair.now in
    let size = c.entries-size in
    let accepts = c.in_ok-tested.ensures ∙ ap (λ (x : ℕ). check_kernel (entry k.darts (take x pair)) k.n.0 k.darts (row_of k) k.level.0) size.ensures in record {
      ready = subst (λ (x : List ℕ). Ready k.n.0 k.darts (row_of k) x) (sym (part_is pair (suc k.n.0 * k.darts) size.result size.ensures c.requires.pair_len.0 c.double.new.pair c.double.ensures)) (ready_of k.level.0 c.requires.pair_len.1 accepts);
      strung = c.requires.strung;
    }
