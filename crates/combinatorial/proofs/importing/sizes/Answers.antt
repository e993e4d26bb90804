-- `combinatorial::importing::sizes` meets its contract. Assumes nothing.
use mathlib.Core.Logic.{inl, inr}
use native.Mathlib.Omega.{arith}
use borrow.Author.Tests.{le-leb, lt-leb}
use Rattle.maps.specs.Sizes.{number4}
use Rattle.maps.specs.Partner.{number2_m}
use Rattle.combinatorial.proofs.importing.sizes.Goals as goal

pub returns-then-darts-lt1 : goal.returns-then-darts-lt1
unfolding number2_m
returns-then-darts-lt1 c =
    let a = c.args in
    elim c.then-darts-lt1.either [
      | inl few ↦ simp (lt-leb 1 a.darts few)
      | inr many ↦ simp (le-leb 1 a.darts many.0, lt-leb a.darts 2048 many.1)
    ]

pub returns-then-not-lengths_fit : goal.returns-then-not-lengths_fit
unfolding number2_m number4
returns-then-not-lengths_fit c = let a = c.args in rw (le-leb 1 a.darts (omega arith), le-leb a.darts 2048 (omega arith), ← c.lengths_fit.ensures, c.if-not-lengths_fit.true)

pub returns : goal.returns
unfolding number2_m number4
returns c = let a = c.args in rw (le-leb 1 a.darts (omega arith), le-leb a.darts 2048 (omega arith), ← c.lengths_fit.ensures, c.if-not-lengths_fit.false)
