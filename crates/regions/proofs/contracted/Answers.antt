-- `regions::contracted` meets its contract. The invariant: no dart before is contracted. Assumes nothing.
use mathlib.Core.Path.{◌≡◌, sym, ◌∙◌}
use mathlib.Core.List.{List, [], ◌∷◌}
use Prim.Native.Nat.{ℕ, zero, suc, max, ◌≤◌, ◌<◌}
use lib.ListN.{length, get_or}
use borrow.Author.Rules.{rules}
use borrow.Author.Tests.{ltb-false, le-ltb}
use Rattle.std.specs.List.{fold}
use native.Mathlib.Omega.{arith}
use Rattle.maps.specs.Table.{each}
use Rattle.maps.specs.Regions.{at23}
use Rattle.laws.proofs.Verdicts.{scan_first, scan_all}
use Rattle.regions.proofs.contracted.Goals as goal

-- the largest of a number and a list is no less than either
below_largest : (xs : List ℕ) (a : ℕ) → a ≤ fold max a xs
below_largest [] a = omega arith
below_largest (x ∷ xs) a = omega (arith, below_largest xs (max a x))

mark_below : (xs : List ℕ) (a k : ℕ) → k < length xs → get_or xs k 0 ≤ fold max a xs
mark_below [] a k l = omega arith
mark_below (x ∷ xs) a zero l = omega (arith, below_largest xs (max a x))
mark_below (x ∷ xs) a (suc k) l = mark_below xs (max a x) k (omega arith)

pub returns-then-not-contracts : goal.returns-then-not-contracts
returns-then-not-contracts c =
    let xs = c.args.pyramid.now.delta.now in
    let is : c.fold-largest.result ≡ fold max 0 xs = search rules in
    let most : c.fold-largest.result ≤ 8 = ltb-false 8 c.fold-largest.result (sym c.contracts.ensures ∙ c.if-not-contracts.true) in
    sym (scan_all c.args.pyramid.now.sizes.darts (at23 (each xs)) (λ k l. rw (le-ltb 8 (get_or xs k 0) (omega (arith, is, mark_below xs 0 k (omega (arith, c.requires)))))))

pub returns-then-contracts : goal.returns-then-contracts
returns-then-contracts c =
    let d = c.loop-d.d in
    let marks = at23 (each c.args.pyramid.now.delta.now) in
    sym (scan_first c.args.pyramid.now.sizes.darts marks d 23 0 0 d c.loop-d-test.true (scan_all d marks (λ k l. rw (c.loop-d.invariant k l))) (rw (rw c.delta_at.ensures at (sym c.contracts-in-loop-d.ensures ∙ c.if-contracts.true))))

pub returns : goal.returns
returns c = sym (scan_all c.args.pyramid.now.sizes.darts (at23 (each c.args.pyramid.now.delta.now)) (λ k l. rw (c.loop-d.invariant k (omega arith))))
