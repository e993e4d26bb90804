-- The job's tests in two parts, the first as `asked` makes them, and what accepted tests tell. Assumes nothing.
use mathlib.Core.Path.{◌≡◌}
use mathlib.Core.Bool.{◌&&◌}
use mathlib.Core.List.{List}
use Prim.Native.Nat.{ℕ, suc, ◌+◌, ◌*◌, ◌≤◌}
use native.Mathlib.Nat.{mul-le-mul_right}
use native.Mathlib.Omega.{arith}
use lib.Dec.{ltb}
use lib.ListN.{length}
use borrow.Author.Tests.{ltb-false, eqb-true}
use Rattle.maps.specs.Verdict.{accepted, ◌then◌}
use Rattle.maps.specs.Sizes.{sizes, number4, number11, number13, has_length}
use Rattle.maps.specs.Row.{row_lent}
use Rattle.laws.proofs.Tables.{table_size, next_row}
use Rattle.laws.proofs.Verdicts.{then_accepted, then_three, when_accepted}
use Rattle.laws.proofs.Sizes.{lent_sized, both_equal}
use Rattle.answers.specs.declared.Refusal.{Refusal}
use Rattle.answers.specs.Numbers.{refusal_of}
use Rattle.answers.proofs.Refusals.{refused_then}
use Rattle.answers.specs.Lent.{lent_of, asked_of}

module _ (n N h : ℕ) (base unfolded : List ℕ) (l i : ℕ) where
  pub row_lent_lem : row_lent n N h base unfolded l i ≡ asked_of n N h (has_length base (suc n * N) && has_length unfolded (suc n * N)) l i 0 then number13 n l i 0
  unfolding row_lent
  row_lent_lem = then_three (sizes n N h) (number4 (has_length base (suc n * N) && has_length unfolded (suc n * N))) (number11 h l i 0) (number13 n l i 0)

  -- what an accepted row tells: the part lies in both tables
  pub record Within : Type 0 where
    pub small : i * N ≤ 16384
    pub darts : N ≤ 4096
    pub base_end : i * N + N ≤ length base
    pub unfolded_end : i * N + N ≤ length unfolded

  pub row_within : row_lent n N h base unfolded l i ≡ accepted → Within
  unfolding number13
  row_within e =
      let fit = has_length base (suc n * N) && has_length unfolded (suc n * N) in
      let r = then_accepted (asked_of n N h fit l i 0) (number13 n l i 0) (rw row_lent_lem at e) in
      let s = lent_sized n N h fit (then_accepted (lent_of n N h fit) (number11 h l i 0) r.0).0 in
      let b = both_equal (length base) (suc n * N) (has_length unfolded (suc n * N)) s.1 in
      let u = eqb-true (length unfolded) (suc n * N) b.1 in
      let f : i ≤ n = ltb-false n i (when_accepted (ltb n i) 13 l i 0 r.1) in
      let m : (i + 1) * N ≤ suc n * N = mul-le-mul_right N (omega arith) in
      let w = table_size n N i s.0.dimension s.0.darts f in
      let x = next_row i N in
      record { small = w.0; darts = s.0.darts; base_end = omega arith; unfolded_end = omega arith }

  -- what the tests of every job say of a row: a refusal, or that the involution decides
  pub row_refused : (r : Refusal) → refusal_of r ≡ asked_of n N h (has_length base (suc n * N) && has_length unfolded (suc n * N)) l i 0 → refusal_of r ≡ row_lent n N h base unfolded l i
  row_refused r e = rw row_lent_lem (refused_then r _ _ e)

  pub row_allowed : accepted ≡ asked_of n N h (has_length base (suc n * N) && has_length unfolded (suc n * N)) l i 0 → number13 n l i 0 ≡ row_lent n N h base unfolded l i
  row_allowed e = rw (row_lent_lem, ← e)
