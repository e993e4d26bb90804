-- `cells::mark::Marking::fails` meets its contract. Assumes nothing.
use mathlib.Core.Path.{sym, ◌∙◌}
use Prim.Native.Nat.{ℕ, ◌+◌, ◌-◌, ◌*◌, ◌≤◌, ◌<◌}
use native.Mathlib.Omega.{arith}
use lib.ListN.{length}
use Rattle.maps.specs.Table.{entry}
use Rattle.answers.proofs.Rows.{rows_entry}
use Rattle.orbits.proofs.Explicit.{level_valid}
use Rattle.cells.proofs.mark.Marking.fails.Goals as goal

pub commute-requires : goal.commute-requires
commute-requires c =
    let a = c.args in
    let entries : (i d : ℕ) → i ≤ a.self.now.table.n.0 → d < a.self.now.table.darts → (i * a.self.now.table.darts + d < length a.self.now.table.entries.now) × (length a.self.now.table.entries.now ≤ 20480) =
    rows_entry c.args.self.now.table.n.0 c.args.self.now.table.darts c.args.self.now.table.entries.now c.requires.0.level.rows in
    let inside : (j : ℕ) → j ≤ a.self.now.table.n.0 → entry a.self.now.table.darts a.self.now.table.entries.now j a.d < a.self.now.table.darts =
    λ j lj. ((level_valid c.args.self.now.table.n.0 c.args.self.now.table.darts c.args.self.now.table.entries.now c.requires.0.level).inside j c.args.d lj (c.requires.1, sym c.there.ensures ∙ c.if-not-there.false)).0 in
    let δ = c.args.self.now.dimension.0 in
    let last = c.args.self.now.table.darts - 1 in
    let low = entries (δ + 1) last (omega arith) (omega (arith, c.requires.1)) in
    let high = entries (δ + 2) last (omega arith) (omega (arith, c.requires.1)) in
    record {
      row_i = omega (arith, low.0, c.requires.1);
      row_j = omega (arith, high.0, c.requires.1);
      small = low.1;
      dart = c.requires.1;
      by_i = inside (δ + 1) (omega arith);
      by_j = inside (δ + 2) (omega arith);
    }
