-- What accepted sizes and lengths tell. Assumes nothing.
use mathlib.Core.Path.{◌≡◌}
use mathlib.Core.Bool.{Bool, true, ◌&&◌, not}
use Prim.Native.Nat.{ℕ, ◌≤◌}
use lib.Dec.{eqb, leb, ltb}
use borrow.Author.Tests.{ltb-false, leb-true, eqb-true, not-false}
use Rattle.maps.specs.Verdict.{accepted, ◌then◌}
use Rattle.maps.specs.Sizes.{number1, number2, number3, number4, sizes}
use Rattle.laws.proofs.Verdicts.{then_accepted, when_accepted, and_both}

pub record Sized (n N h : ℕ) : Type 0 where
  pub one_dimension : 1 ≤ n
  pub dimension : n ≤ 4
  pub one_dart : 1 ≤ N
  pub darts : N ≤ 4096
  pub height : h ≤ 32

pub sizes_sized : (n N h : ℕ) → sizes n N h ≡ accepted → Sized n N h
unfolding sizes number1 number2 number3
sizes_sized n N h e =
    let r = then_accepted (number1 n) (number2 N then number3 h) e in
    let s = then_accepted (number2 N) (number3 h) r.1 in
    let one = and_both (leb 1 n) (leb n 4) (not-false (leb 1 n && leb n 4) (when_accepted (not (leb 1 n && leb n 4)) 1 0 0 0 r.0)) in
    let two = and_both (leb 1 N) (leb N 4096) (not-false (leb 1 N && leb N 4096) (when_accepted (not (leb 1 N && leb N 4096)) 2 0 0 0 s.0)) in
    record {
      one_dimension = leb-true 1 n one.0;
      dimension = leb-true n 4 one.1;
      one_dart = leb-true 1 N two.0;
      darts = leb-true N 4096 two.1;
      height = ltb-false 32 h (when_accepted (ltb 32 h) 3 0 0 0 s.1);
    }

pub lengths_exact : (exact : Bool) → number4 exact ≡ accepted → exact ≡ true
unfolding number4
lengths_exact exact e = not-false exact (when_accepted (not exact) 4 0 0 0 e)

-- what accepted sizes and lengths tell
pub lent_sized : (n N h : ℕ) (fit : Bool) → sizes n N h then number4 fit ≡ accepted → Sized n N h × (fit ≡ true)
lent_sized n N h fit e = let r = then_accepted (sizes n N h) (number4 fit) e in (sizes_sized n N h r.0, lengths_exact fit r.1)

-- two numbers that are found equal, and more behind them
pub both_equal : (x m : ℕ) (more : Bool) → (eqb x m && more) ≡ true → (x ≡ m) × (more ≡ true)
both_equal x m more e = let r = and_both (eqb x m) more e in (eqb-true x m r.0, r.1)
