-- What is packed to the front is the new pyramid, and the pyramid check accepts it. Assumes nothing.
use mathlib.Core.Path.{◌≡◌, refl, ◌∙◌}
use mathlib.Core.Bool.{cond}
use mathlib.Core.List.{List}
use Prim.Native.Nat.{ℕ, suc, ◌+◌, ◌*◌, ◌/◌, ◌%◌, ◌≤◌, ◌<◌}
use native.Mathlib.Nat.{mul-le-mul_left}
use native.Mathlib.Omega.{arith}
use lib.ListN.{length, get_or, take}
use lib.Seq.{get_or-take, length-take-le}
use lib.Arith.{digits_div, digits_mod}
use lib.Dec.{ltb}
use borrow.Author.Tests.{lt-ltb, eq-eqb}
use Rattle.maps.specs.Verdict.{accepted}
use Rattle.maps.specs.Sizes.{number4}
use Rattle.maps.specs.Mark.{stay}
use Rattle.maps.specs.Table.{entry, each, absent}
use Rattle.maps.specs.Folded.{Folded, On, survives, marks, level, of_parts}
use Rattle.maps.specs.Cost.{reads}
use Rattle.maps.specs.Pyramid.{Pyramid}
use Rattle.maps.specs.CheckPyramid.{check_lent}
use Rattle.laws.proofs.Counting.{count_le}
use Rattle.laws.proofs.Tables.{length_listed, get_or_listed, in_table}
use Rattle.facts.proofs.Checks.{pyramid_check}
use Rattle.facts.proofs.Facts.{Facts, facts}
use Rattle.facts.proofs.AcceptedJobs.{accepted_pyramid}
use Rattle.maps.specs.NewBase.{rank, old_number, new_darts, new_height, newΛ, newΔ, new_base}
use Rattle.maps.specs.Rebase.{packed, rebase_lent, rebase_darts, rebase_height, rebase_rows, rebase_lambda, rebase_delta, rebase_old}
use Rattle.starting_again.proofs.Renumbering.{Renumbered, renumbered_agree, renumbered_pyramid, alike}
use Rattle.starting_again.proofs.FewerReads.{fewer_reads}
use Rattle.starting_again.proofs.Tests.{Passed, passed}
use Rattle.starting_again.proofs.StartingAgain.{rank_below, old_rank, again_renumbered, again_sizes}

-- a packed entry, and the first m entries by themselves
module _ (value : ℕ → ℕ) (m filler size : ℕ) (fits : m ≤ size) where
  -- the entry of a packed place
  pub packed_at : (x : ℕ) → x < m → get_or (packed value m filler size) x 0 ≡ value x
  unfolding packed
  packed_at x f = get_or_listed (λ z. cond (ltb z m) (value z) filler) size x 0 (omega arith) ∙ rw (lt-ltb x m f)

  -- the same of the front alone
  pub front_at : (x : ℕ) → x < m → get_or (take m (packed value m filler size)) x 0 ≡ value x
  front_at x f = get_or-take m (packed value m filler size) x 0 f ∙ packed_at x f

  -- the front has the new length
  pub front_length : length (take m (packed value m filler size)) ≡ m
  unfolding packed
  front_length = length-take-le m (packed value m filler size) (omega (arith, length_listed (λ z. cond (ltb z m) (value z) filler) size))

-- of a pyramid lent, and of what is left of it
module _ (P : Folded) (l N' h' : ℕ) (rows' lambda' delta' old' : List ℕ) where
  open P use {n, N, h, rows, lambda, delta}

  -- What the job leaves where it does not refuse.
  pub record PackedAgain : Type 0 where
    -- level l has darts, and no more than before
    pub some : 1 ≤ N'
    pub few : N' ≤ N
    -- the packed parts are level l of the pyramid lent, under new numbers, with Λ and h reduced by l; so all that `Renumbered` gives holds of them
    pub renumbered : Renumbered (entry N rows) n N h (each lambda) (each delta) l (entry N' (take (suc n * N') rows')) N' h' (each (take N' lambda')) (each (take N' delta')) (each old')
    -- they are all its survivors, in their order
    pub as_many : N' ≡ new_darts N (each lambda) l
    pub rising : (d : ℕ) → d < N' → each old' d ≡ old_number N (each lambda) l d
    -- no survivor of level l is left out: its rank is a new dart, whose old number is the survivor's
    pub every : (d : ℕ) → On N (each lambda) l d → (rank (each lambda) l d < N') × (each old' (rank (each lambda) l d) ≡ d)
    -- level k of them is the old level l + k, under the new numbers
    pub neighbour : (k i d : ℕ) → k ≤ h' → i ≤ n → On N' (each (take N' lambda')) k d
        → each old' (level (entry N' (take (suc n * N') rows')) n N' (marks h' (each (take N' lambda')) (each (take N' delta'))) k i d) ≡ level (entry N rows) n N (marks h (each lambda) (each delta)) (l + k) i (each old' d)
    -- demand 3, with reads counted in the new base
    pub facts : (k : ℕ) → k ≤ h' → Facts (entry N' (take (suc n * N') rows')) n N' h' (each (take N' lambda')) (each (take N' delta')) k
    -- a walk reads no more entries than the old walk of the same dart
    pub no_more : (k i d : ℕ) → k ≤ h' → i ≤ n → On N' (each (take N' lambda')) k d
        → reads (entry N' (take (suc n * N') rows')) n N' h' (each (take N' lambda')) (each (take N' delta')) k i d ≤ reads (entry N rows) n N h (each lambda) (each delta) (l + k) i (each old' d)
    -- lent again, in their new lengths, they are accepted
    pub accepted_again : (table' : List ℕ) → length table' ≡ suc n * N' → check_lent (of_parts n N' h' (take (suc n * N') rows') (take N' lambda') (take N' delta')) table' ≡ accepted

module _ (P : Folded) (table : List ℕ) (l : ℕ) (old : List ℕ) (e : rebase_lent P table l old ≡ accepted) where
  open P use {n, N, h, rows, lambda, delta}

  abbrev a : ℕ → ℕ → ℕ
  a = entry N rows

  abbrev Λ : ℕ → ℕ
  Λ = each lambda

  abbrev Δ : ℕ → ℕ
  Δ = each delta

  abbrev D : ℕ
  D = new_darts N Λ l

  abbrev H : ℕ
  H = new_height h l

  -- an accepted job has passed all its tests
  found : Passed P table l old
  found = passed P table l old e

  -- what is lent is an accepted pyramid
  pub lent_pyramid : Pyramid a n N h Λ Δ
  lent_pyramid = accepted_pyramid P table found.checked

  -- there are no more darts than before
  fewer_darts : D ≤ N
  fewer_darts = count_le (survives Λ l) N

  -- nor entries
  smaller : suc n * D ≤ suc n * N
  smaller = mul-le-mul_left (suc n) fewer_darts

  -- the packed rows, one after the other
  abbrev values : ℕ → ℕ
  values x = new_base a n N h Λ Δ l (x / D) (x % D)

  -- the fronts of rows, Λ and Δ
  abbrev R : List ℕ
  R = take (suc n * D) (packed values (suc n * D) absent (suc n * N))

  abbrev L : List ℕ
  L = take D (packed (newΛ N Λ l) D stay N)

  abbrev T : List ℕ
  T = take D (packed (newΔ N Λ Δ l) D stay N)

  -- an entry of the front of the rows
  row_entry : (i d : ℕ) → i ≤ n → d < D → entry D R i d ≡ new_base a n N h Λ Δ l i d
  row_entry i d li ld = front_at values (suc n * D) absent (suc n * N) smaller (i * D + d) (in_table n D i d li ld) ∙ rw (digits_div i ld, digits_mod i ld)

  -- the fronts are level l under new numbers
  fronts : Renumbered a n N h Λ Δ l (entry D R) D H (each L) (each T) (each (packed (old_number N Λ l) D absent N))
  fronts =
      renumbered_agree a n N h Λ Δ l (new_base a n N h Λ Δ l) (entry D R) D H (newΛ N Λ l) (each L) (newΔ N Λ Δ l) (each T) (old_number N Λ l) (each (packed (old_number N Λ l) D absent N))
      row_entry
      (λ d ld. front_at (newΛ N Λ l) D stay N fewer_darts d ld)
      (λ d ld. front_at (newΔ N Λ Δ l) D stay N fewer_darts d ld)
      (λ d ld. packed_at (old_number N Λ l) D absent N fewer_darts d ld)
      (again_renumbered a n N h Λ Δ lent_pyramid l found.low)

  -- no survivor is left out
  all_there : (d : ℕ) → On N Λ l d → (rank Λ l d < D) × (each (packed (old_number N Λ l) D absent N) (rank Λ l d) ≡ d)
  all_there d o = let f = rank_below N Λ l d o in (f, packed_at (old_number N Λ l) D absent N fewer_darts (rank Λ l d) f ∙ old_rank N Λ l d o)

  -- they are an accepted pyramid
  front_pyramid : Pyramid (entry D R) n D H (each L) (each T)
  front_pyramid = renumbered_pyramid a n N h Λ Δ lent_pyramid l (entry D R) D H (each L) (each T) (each (packed (old_number N Λ l) D absent N)) fronts

  -- and the check accepts them
  front_accepted : (table' : List ℕ) → length table' ≡ suc n * D → check_lent (of_parts n D H R L T) table' ≡ accepted
  unfolding check_lent number4
  front_accepted table' f =
      rw (
        again_sizes n N h Λ l found.sized found.some,
        eq-eqb (length R) (suc n * D) (front_length values (suc n * D) absent (suc n * N) smaller),
        eq-eqb (length L) D (front_length (newΛ N Λ l) D stay N fewer_darts),
        eq-eqb (length T) D (front_length (newΔ N Λ Δ l) D stay N fewer_darts),
        eq-eqb (length table') (suc n * D) f,
        pyramid_check (entry D R) n D H (each L) (each T) front_pyramid.dimension front_pyramid,
      )

  -- the job, where it does not refuse, leaves the new pyramid packed to the front
  pub packed_again : PackedAgain P l
      (rebase_darts P table l old) (rebase_height P table l old) (rebase_rows P table l old)
      (rebase_lambda P table l old) (rebase_delta P table l old) (rebase_old P table l old)
  unfolding rebase_darts rebase_height rebase_rows rebase_lambda rebase_delta rebase_old
  packed_again =
      rw e
      (record {
        some = found.some;
        few = fewer_darts;
        renumbered = fronts;
        as_many = refl;
        rising = λ d ld. packed_at (old_number N Λ l) D absent N fewer_darts d ld;
        every = all_there;
        neighbour = λ k i d f li o. (alike a n N h Λ Δ lent_pyramid l (entry D R) D H (each L) (each T) (each (packed (old_number N Λ l) D absent N)) fronts k f).neighbour i d li o;
        facts = λ k f. facts (entry D R) n D H (each L) (each T) front_pyramid k f;
        no_more = λ k i d f li o. fewer_reads a n N h Λ Δ lent_pyramid l (entry D R) D H (each L) (each T) (each (packed (old_number N Λ l) D absent N)) fronts k f i d li o;
        accepted_again = front_accepted;
      })
