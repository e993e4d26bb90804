-- `orbits::push_neighbours` meets its contract. Assumes nothing.
use mathlib.Core.Path.{◌≡◌, refl, ap, ◌∙◌}
use mathlib.Core.List.{List}
use Prim.Native.Nat.{ℕ, suc}
use native.Mathlib.Omega.{arith}
use Rattle.maps.specs.Table.{entry}
use Rattle.orbits.specs.Choices.{uses}
use Rattle.orbits.specs.Search.{State, state, spread}
use Rattle.orbits.specs.Orbits.{pushed_by}
use Rattle.orbits.specs.declared.Search.{Search}
use Rattle.orbits.proofs.push_neighbours.Goals as goal

-- the state t is what the rows below m leave of the state s
module _ (from : Search) (choice : ℕ) (table : List ℕ) (s : State) where
  abbrev Left : ℕ → State → Type 0
  Left m t = t ≡ spread (entry from.darts table) (uses choice) from.dart s m

  none : Left 0 s
  unfolding spread
  none = refl

  next : (m : ℕ) (t u : State) → Left m t → u ≡ pushed_by from choice table m t → Left (suc m) u
  unfolding spread
  next m t u e f = f ∙ ap (pushed_by from choice table m) e

pub returns-then-n-lt2 : goal.returns-then-n-lt2
returns-then-n-lt2 c =
    let a = c.args in
    let s = state a.reached.now a.queue.now a.from.tail in
    let after = next a.from a.choice a.table.now s in
    let left-0 = none a.from a.choice a.table.now s in
    let left-1 = after 0 _ _ left-0 c.push_by-zero.ensures.pushes in
    let left-2 = after 1 _ _ left-1 (rw c.ending.ensures at c.push_by-one.ensures.pushes) in
    let e : a.from.n.0 ≡ 1 = omega (arith, c.requires.rows.dimension, c.requires.two_rows) in
    rw e left-2

pub returns-then-n-lt3 : goal.returns-then-n-lt3
returns-then-n-lt3 c =
    let a = c.args in
    let s = state a.reached.now a.queue.now a.from.tail in
    let after = next a.from a.choice a.table.now s in
    let left-0 = none a.from a.choice a.table.now s in
    let left-1 = after 0 _ _ left-0 c.push_by-zero.ensures.pushes in
    let left-2 = after 1 _ _ left-1 (rw c.ending.ensures at c.push_by-one.ensures.pushes) in
    let left-3 = after 2 _ _ left-2 (rw c.ending-2.ensures at c.push_by-two.ensures.pushes) in
    let e : a.from.n.0 ≡ 2 = omega (arith, c.requires.rows.dimension, c.requires.two_rows) in
    rw e left-3

pub returns-then-n-lt4 : goal.returns-then-n-lt4
returns-then-n-lt4 c =
    let a = c.args in
    let s = state a.reached.now a.queue.now a.from.tail in
    let after = next a.from a.choice a.table.now s in
    let left-0 = none a.from a.choice a.table.now s in
    let left-1 = after 0 _ _ left-0 c.push_by-zero.ensures.pushes in
    let left-2 = after 1 _ _ left-1 (rw c.ending.ensures at c.push_by-one.ensures.pushes) in
    let left-3 = after 2 _ _ left-2 (rw c.ending-2.ensures at c.push_by-two.ensures.pushes) in
    let left-4 = after 3 _ _ left-3 (rw c.ending-3.ensures at c.push_by-three.ensures.pushes) in
    let e : a.from.n.0 ≡ 3 = omega (arith, c.requires.rows.dimension, c.requires.two_rows) in
    rw e left-4

pub returns : goal.returns
returns c =
    let a = c.args in
    let s = state a.reached.now a.queue.now a.from.tail in
    let after = next a.from a.choice a.table.now s in
    let left-0 = none a.from a.choice a.table.now s in
    let left-1 = after 0 _ _ left-0 c.push_by-zero.ensures.pushes in
    let left-2 = after 1 _ _ left-1 (rw c.ending.ensures at c.push_by-one.ensures.pushes) in
    let left-3 = after 2 _ _ left-2 (rw c.ending-2.ensures at c.push_by-two.ensures.pushes) in
    let left-4 = after 3 _ _ left-3 (rw c.ending-3.ensures at c.push_by-three.ensures.pushes) in
    let left-5 = after 4 _ _ left-4 (rw c.ending-4.ensures at c.push_by.ensures.pushes) in
    let e : a.from.n.0 ≡ 4 = omega (arith, c.requires.rows.dimension, c.requires.two_rows) in
    rw e left-5
