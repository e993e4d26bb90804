-- `kernels::testing::commuting` meets its contract. Assumes nothing.
use mathlib.Core.Path.{◌≡◌}
use mathlib.Core.Bool.{true}
use Prim.Native.Nat.{ℕ, ◌≤◌}
use native.Mathlib.Omega.{arith}
use Rattle.maps.specs.Mark.{is_mark, between, has_beyond, beyond}
use Rattle.laws.proofs.Marks.{mark_byte, mark_rows, beyond_row}
use Rattle.kernels.proofs.Places.{place}
use Rattle.kernels.proofs.testing.commuting.Goals as goal

-- the mark's second row and the row beyond it are rows of the map
module _ (n m : ℕ) {i : ℕ} (q : is_mark n m ≡ true) where
  near : i ≡ (between m).1 → i ≤ n
  near e = omega (arith, e, (mark_rows n m q).second)

  far : has_beyond n m ≡ true → i ≡ beyond m → i ≤ n
  far b e = omega (arith, e, (beyond_row n m q b).0)

pub between-rows-requires : goal.between-rows-requires
between-rows-requires c = let s = c in let z = s.requires.rows.0.dimension in mark_byte s.args.n.0 s.args.mark.0 (omega arith) s.requires.rows.1

pub at-by_near-requires : goal.at-by_near-requires
at-by_near-requires c = let r = c.requires.rows in place r.0 _ _ (near c.args.n.0 c.args.mark.0 r.1 c.between-rows.ensures.1) r.2

pub at-by_far-requires : goal.at-by_far-requires
at-by_far-requires c = let r = c.requires.rows in place r.0 _ _ (far c.args.n.0 c.args.mark.0 r.1 r.3 c.beyond-far.ensures) r.2

pub at-requires : goal.at-requires
at-requires c =
    let r = c.requires.rows in
    place r.0 _ _ (far c.args.n.0 c.args.mark.0 r.1 r.3 c.beyond-far.ensures) (rw c.at-by_near.ensures.0 (c.requires.by_index _ (near c.args.n.0 c.args.mark.0 r.1 c.between-rows.ensures.1)))

pub at-requires-2 : goal.at-requires-2
at-requires-2 c =
    let r = c.requires.rows in
    place r.0 _ _ (near c.args.n.0 c.args.mark.0 r.1 c.between-rows.ensures.1) (rw c.at-by_far.ensures.0 (c.requires.by_index _ (far c.args.n.0 c.args.mark.0 r.1 r.3 c.beyond-far.ensures)))
