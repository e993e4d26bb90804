-- What the jobs' definitions promise. Assumes nothing.
use mathlib.Core.Path.{◌≡◌}
use mathlib.Core.Bool.{◌&&◌}
use mathlib.Core.List.{List}
use Prim.Native.Nat.{ℕ}
use Rattle.maps.specs.Verdict.{accepted, scan}
use Rattle.maps.specs.Sizes.{number11, has_length}
use Rattle.maps.specs.Folded.{survivors}
use Rattle.maps.specs.Table.{each}
use Rattle.maps.specs.Survivors.{at_lambda8, survivors_lent, survivor_count}
use Rattle.laws.proofs.Verdicts.{then_accepted}
use Rattle.laws.proofs.Sizes.{lent_sized}
use Rattle.answers.specs.Lent.{lent_of, asked_of}
use Rattle.survivor_words.proofs.Accepted.{survivors_lent_lem}
use Rattle.survivor_words.proofs.Ones.{words_count}

-- the survivor count, the number of ones in the words, is the number of survivors
pub survivors_counted : (N h : ℕ) (lambda : List ℕ) (l : ℕ) (words : List ℕ) → survivors_lent N h lambda l words ≡ accepted → survivor_count N h lambda l words ≡ survivors N (each lambda) l
unfolding survivor_count
survivors_counted N h lambda l words e =
    let fit = has_length lambda N && has_length words 64 in
    let r = then_accepted (asked_of 1 N h fit l 0 0) (scan N (at_lambda8 h (each lambda) l)) (rw (survivors_lent_lem N h lambda l words) at e) in
    let s = lent_sized 1 N h fit (then_accepted (lent_of 1 N h fit) (number11 h l 0 0) r.0).0 in
    rw e (words_count N h lambda l words s.0.darts)
