-- Laws of a check with what else is lent measured too. Assumes nothing.
use mathlib.Core.Path.{◌≡◌, refl, sym}
use mathlib.Core.Bool.{Bool, true, false, ◌&&◌, not}
use mathlib.Core.List.{List}
use Prim.Native.Nat.{ℕ}
use lib.Dec.{leb, ltb}
use Rattle.maps.specs.Verdict.{Verdict, accepted, refused, when, ◌then◌}
use Rattle.maps.specs.Sizes.{number1, number2, number3, sizes, number4}
use Rattle.maps.specs.Folded.{Folded}
use Rattle.maps.specs.CheckPyramid.{left_behind, check_lent, check_leaves, check_with, check_with_leaves}

-- a test made twice is made once
then_again : (v w : Verdict) → v then (v then w) ≡ v then w
then_again accepted w = refl
then_again (refused number level involution dart) w = refl

-- behind 4 nothing is tested
pub then_stops : (v w : Verdict) → (v then number4 false) then w ≡ v then number4 false
unfolding number4
then_stops accepted w = refl
then_stops (refused number level involution dart) w = refl

then_ends : (v w : Verdict) → v then (number4 false then w) ≡ v then number4 false
unfolding number4
then_ends accepted w = refl
then_ends (refused number level involution dart) w = refl

-- where 1, 2 or 3 refuses, a table is as found
keeps : (first second third : Bool) (w : Verdict) (top : List ℕ) (levels : ℕ → List ℕ) (table : List ℕ)
    → (when first (refused 1 0 0 0) then (when second (refused 2 0 0 0) then when third (refused 3 0 0 0)) ≡ accepted → ⊥)
    → left_behind top levels table ((when first (refused 1 0 0 0) then (when second (refused 2 0 0 0) then when third (refused 3 0 0 0))) then w) ≡ table
unfolding left_behind
keeps true second third w top levels table ne = refl
keeps false true third w top levels table ne = refl
keeps false false true w top levels table ne = refl
keeps false false false w top levels table ne = absurd (ne refl)

sizes_keep : (n N h : ℕ) (w : Verdict) (top : List ℕ) (levels : ℕ → List ℕ) (table : List ℕ) → (sizes n N h ≡ accepted → ⊥) → left_behind top levels table (sizes n N h then w) ≡ table
unfolding sizes number1 number2 number3
sizes_keep n N h w top levels table ne = keeps (not (leb 1 n && leb n 4)) (not (leb 1 N && leb N 4096)) (ltb 32 h) w top levels table ne

module _ (f : Folded) (table : List ℕ) where
  -- all have their lengths: the check's own
  pub with_checks : (others : Bool) → others ≡ true → check_with f table others ≡ check_lent f table
  unfolding check_with check_lent number4
  with_checks others q = rw q (then_again (sizes f.n f.N f.h) _)

  pub with_leaves : (others : Bool) → others ≡ true → check_with_leaves f table others ≡ check_leaves f table
  unfolding check_with_leaves
  with_leaves others q = rw q

  -- one has not: 1, 2, 3, and else 4, and the table is as found
  pub with_other : (others : Bool) → others ≡ false → check_with f table others ≡ sizes f.n f.N f.h then number4 false
  unfolding check_with
  with_other others q = rw q (then_ends (sizes f.n f.N f.h) (check_lent f table))

  pub with_found : (others : Bool) → others ≡ false → check_with_leaves f table others ≡ table
  unfolding check_with_leaves
  with_found others q = rw q

  -- and so it is after 1 to 4
  pub with_lent : (others : Bool) → (sizes f.n f.N f.h then number4 others ≡ accepted → ⊥) → check_with_leaves f table others ≡ table
  unfolding check_with_leaves check_leaves check_lent number4
  with_lent true ne = sizes_keep f.n f.N f.h _ _ _ table (λ e. ne (rw e))
  with_lent false ne = refl
