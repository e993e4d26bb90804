-- Marks read back, in the words of the jobs: of every accepted pyramid, and out of an accepted add the row that was added. Assumes nothing.
use mathlib.Core.Path.{◌≡◌, sym}
use mathlib.Core.Bool.{false, ◌&&◌}
use mathlib.Core.List.{List}
use Prim.Native.Nat.{ℕ, suc, ◌*◌, ◌≤◌, ◌<◌}
use native.Mathlib.Omega.{arith}
use lib.ListN.{length}
use borrow.Author.Tests.{le-leb, le-ltb, eqb-true, eq-eqb}
use Rattle.maps.specs.Verdict.{accepted}
use Rattle.maps.specs.Table.{each}
use Rattle.maps.specs.Folded.{refused_marks, marks, addΛ, addΔ, Folded, lambda_of, delta_of, of_parts}
use Rattle.maps.specs.Sizes.{number1, number2, number3, number4, number11, has_length, sizes}
use Rattle.maps.specs.CheckPyramid.{check_lent}
use Rattle.maps.specs.AddLevel.{add_lent, add_lambda, add_delta}
use Rattle.maps.specs.MarksBack.{at_marks8, marks_lent, marks_leaves}
use Rattle.laws.proofs.Verdicts.{scan_all}
use Rattle.laws.proofs.Sizes.{Sized, both_equal}
use Rattle.laws.proofs.Tables.{length_listed, get_or_listed, listed_of}
use Rattle.facts.proofs.Adding.{marks_new}
use Rattle.facts.proofs.AcceptedJobs.{parts as checked_parts, exact, accepted_pyramid}
use Rattle.facts.proofs.AddedJobs.{parts as added_parts, add_pyramid}

module _ (P : Folded) where
  open P use {n, N, h, lambda, delta}

  -- allowed marks of the exact length are read back at every level
  back : (l : ℕ) (out : List ℕ) → sizes n N h ≡ accepted → length lambda ≡ N → length delta ≡ N → length out ≡ N → l ≤ h
      → ((d : ℕ) → d < N → refused_marks n h (lambda_of P d) (delta_of P d) ≡ false) → marks_lent n N h lambda delta l out ≡ accepted
  unfolding marks_lent number4 number11 at_marks8
  back l out s e f g k allowed =
      rw (s, eq-eqb (length lambda) N e, eq-eqb (length delta) N f, eq-eqb (length out) N g, le-ltb h l k, scan_all N (at_marks8 n h (lambda_of P) (delta_of P) l) (λ d ld. rw (allowed d ld)))

  -- marks are read back at every level of a pyramid that the check has accepted
  pub accepted_marks : (table : List ℕ) → check_lent P table ≡ accepted → (l : ℕ) → l ≤ h → (out : List ℕ) → length out ≡ N → marks_lent n N h lambda delta l out ≡ accepted
  accepted_marks table e l k out f =
      let x = exact P table e in
      back l out (checked_parts P table e).0 (eqb-true (length lambda) N x.1) (eqb-true (length delta) N x.2) f k (accepted_pyramid P table e).allowed

-- a level can be added below height 32
one_higher : (n N h : ℕ) → Sized n N h → (h ≡ 32 → ⊥) → sizes n N (suc h) ≡ accepted
unfolding sizes number1 number2 number3
one_higher n N h s ne = rw (le-leb 1 n s.one_dimension, le-leb n 4 s.dimension, le-leb 1 N s.one_dart, le-leb N 4096 s.darts, le-ltb 32 (suc h) (omega arith))

-- the row read back at the height before an accepted add is the row that was added
module _ (P : Folded) (row table : List ℕ) (e : add_lent P row table ≡ accepted) (out : List ℕ) (long : length out ≡ P.N) where
  open P use {n, N, h, rows, lambda, delta}

  abbrev lambda' : List ℕ
  lambda' = add_lambda P row table

  abbrev delta' : List ℕ
  delta' = add_delta P row table

  pub added_marks : marks_lent n N (suc h) (add_lambda P row table) (add_delta P row table) h out ≡ accepted
  unfolding add_lambda add_delta
  added_marks =
      let p = added_parts P row table e in
      let y = add_pyramid P row table e in
      let Λ' = addΛ n h (lambda_of P) (each row) in
      let Δ' = addΔ n (delta_of P) (each row) in
      let lambda-long : length lambda' ≡ N = rw e (length_listed Λ' N) in
      let delta-long : length delta' ≡ N = rw e (length_listed Δ' N) in
      back (of_parts n N (suc h) rows lambda' delta') h out (one_higher n N h p.sized p.room) lambda-long delta-long long (omega arith) y.allowed

  pub added_row : marks_leaves n N (suc h) (add_lambda P row table) (add_delta P row table) h out ≡ row
  unfolding marks_leaves add_lambda add_delta
  added_row =
      let p = added_parts P row table e in
      let Λ' = addΛ n h (lambda_of P) (each row) in
      let Δ' = addΔ n (delta_of P) (each row) in
      let a = both_equal (length rows) (suc n * N) (has_length lambda N && (has_length delta N && (has_length row N && has_length table (suc n * N)))) p.fit in
      let b = both_equal (length lambda) N (has_length delta N && (has_length row N && has_length table (suc n * N))) a.1 in
      let c = both_equal (length delta) N (has_length row N && has_length table (suc n * N)) b.1 in
      let d = both_equal (length row) N (has_length table (suc n * N)) c.1 in
      rw added_marks
      (sym
      (listed_of (marks (suc h) (each lambda') (each delta') h) N row d.0 (λ x lx. sym (rw (e, get_or_listed Λ' N x 0 lx, get_or_listed Δ' N x 0 lx) (marks_new n N h (lambda_of P) (delta_of P) (each row) p.marked x lx)))))
