-- Starting again from l and then from k is starting again from l + k. Assumes nothing.
use mathlib.Core.Path.{◌≡◌, refl, sym, ap, ◌∙◌}
use mathlib.Core.Bool.{Bool, false, not}
use mathlib.Core.List.{List}
use Prim.Native.Nat.{ℕ, suc, ◌+◌, ◌*◌, ◌/◌, ◌%◌, ◌≤◌, ◌<◌}
use native.Mathlib.Nat.{mul-le-mul_left}
use native.Mathlib.Omega.{arith}
use lib.ListN.{length, take}
use lib.Dec.{ltb}
use borrow.Author.Tests.{ltb-true, lt-ltb, eq-eqb, not-false}
use Rattle.maps.specs.Verdict.{accepted}
use Rattle.maps.specs.Sizes.{number4, has_length}
use Rattle.maps.specs.CheckPyramid.{check_lent}
use Rattle.facts.proofs.ExactJobs.{check_accepts, accepted_check}
use Rattle.answers.specs.Lent.{lent_of}
use Rattle.maps.specs.Count.{count}
use Rattle.maps.specs.Map.{Involutions}
use Rattle.maps.specs.Mark.{stay}
use Rattle.maps.specs.Table.{entry, each, listed, absent}
use Rattle.maps.specs.Folded.{On, gone, survives, marks, level, Folded, base, lambda_of, delta_of, of_parts}
use Rattle.maps.specs.Pyramid.{Pyramid}
use Rattle.maps.specs.NewBase.{kth, rank, old_number, new_darts, newΛ, newΔ, new_base}
use Rattle.maps.specs.Rebase.{packed, rebase_lent, rebase_darts, rebase_height, rebase_rows, rebase_lambda, rebase_delta, rebase_old}
use Rattle.laws.proofs.Counting.{count_same, count_le}
use Rattle.laws.proofs.Tables.{listed_of, listed_same, place}
use Rattle.packing.proofs.Numbering.{count_rises, kth_is, rank_one, count_renumbered}
use Rattle.starting_again.proofs.Renumbering.{Renumbered, ltb_raised, on_old, alike}
use Rattle.starting_again.proofs.Tests.{passed, all_passed}
use Rattle.starting_again.proofs.StartingAgain.{old_on, rank_below, rank_old, old_rank}
use Rattle.starting_again.proofs.PackedAgain.{PackedAgain, packed_again, lent_pyramid, front_at, front_length, packed_at}

-- the k-th number that passes is the same of a longer row
kth_longer : (p : ℕ → Bool) (m M k : ℕ) → m ≤ M → k < count p m → kth p m k ≡ kth p M k
kth_longer p m M k f l =
    let r = kth_is p m k l in
    let s = kth_is p M k (omega (arith, count_rises p m M f)) in
    rank_one p (kth p m k) (kth p M k) r.passes s.passes (r.ranked ∙ sym s.ranked)

-- a pyramid whose base is level l of another, all survivors in their rising order
module _ (a : Involutions) (n N h : ℕ) (Λ Δ : ℕ → ℕ) (y : Pyramid a n N h Λ Δ) (l : ℕ) (a' : Involutions) (N' h' : ℕ) (Λ' Δ' old : ℕ → ℕ) (r : Renumbered a n N h Λ Δ l a' N' h' Λ' Δ' old)
    (all : N' ≡ new_darts N Λ l) (rising : (d : ℕ) → d < N' → old d ≡ old_number N Λ l d) (k : ℕ) where
  -- what survives of it survives above
  survives_again : (x : ℕ) → x < N' → survives Λ' k x ≡ survives Λ (l + k) (old_number N Λ l x)
  survives_again x lx = ap not (sym (ltb_raised l (Λ' x) k) ∙ ap (λ (z : ℕ). ltb z (l + k)) (sym (r.lambda x lx) ∙ ap Λ (rising x lx)))

  -- what is gone from level l is gone above
  gone_above : (d : ℕ) → survives Λ l d ≡ false → survives Λ (l + k) d ≡ false
  gone_above d q = ap not (lt-ltb (Λ d) (l + k) (omega (arith, ltb-true (Λ d) l (not-false (gone Λ l d) q))))

  -- the rank of the rank
  rank_twice : (d : ℕ) → On N Λ l d → rank Λ' k (rank Λ l d) ≡ rank Λ (l + k) d
  rank_twice d o =
      count_same (survives Λ' k) (λ x. survives Λ (l + k) (kth (survives Λ l) d x)) (rank Λ l d)
      (λ x lx. survives_again x (omega (arith, all, rank_below N Λ l d o)) ∙ ap (survives Λ (l + k)) (sym (kth_longer (survives Λ l) d N x (omega (arith, o.0)) lx)))
      ∙ count_renumbered (survives Λ l) (survives Λ (l + k)) d (λ e le q. gone_above e q)

  -- as many darts
  pub darts_twice : new_darts N' Λ' k ≡ new_darts N Λ (l + k)
  darts_twice =
      count_same (survives Λ' k) (λ x. survives Λ (l + k) (old_number N Λ l x)) N' survives_again
      ∙ ap (count (λ x. survives Λ (l + k) (old_number N Λ l x))) all
      ∙ count_renumbered (survives Λ l) (survives Λ (l + k)) N (λ d ld q. gone_above d q)

  -- the old number of the old number
  pub old_twice : (x : ℕ) → x < new_darts N' Λ' k → old_number N Λ l (old_number N' Λ' k x) ≡ old_number N Λ (l + k) x
  old_twice x lx =
      let o = old_on N' Λ' k x lx in
      let z = old_number N' Λ' k x in
      let below : z < new_darts N Λ l = omega (arith, all, o.0) in
      let e = old_number N Λ l z in
      let up = on_old a n N h Λ Δ y l a' N' h' Λ' Δ' old r k z o in
      let here : On N Λ (l + k) e = rw (rising z o.0) at up in
      let ranked : rank Λ (l + k) e ≡ x = sym (rank_twice e (old_on N Λ l z below)) ∙ ap (rank Λ' k) (rank_old N Λ l z below) ∙ rank_old N' Λ' k x lx in
      sym (old_rank N Λ (l + k) e here) ∙ ap (old_number N Λ (l + k)) ranked

  -- Λ and Δ of it
  pub lambda_twice : (x : ℕ) → x < new_darts N' Λ' k → newΛ N' Λ' k x ≡ newΛ N Λ (l + k) x
  lambda_twice x lx =
      let o = old_on N' Λ' k x lx in
      let z = old_number N' Λ' k x in
      let e : Λ (old_number N Λ (l + k) x) ≡ l + Λ' z = ap Λ (sym (old_twice x lx) ∙ sym (rising z o.0)) ∙ r.lambda z o.0 in
      omega arith

  pub delta_twice : (x : ℕ) → x < new_darts N' Λ' k → newΔ N' Λ' Δ' k x ≡ newΔ N Λ Δ (l + k) x
  delta_twice x lx =
      let o = old_on N' Λ' k x lx in
      let z = old_number N' Λ' k x in
      r.delta z o.0 ∙ ap Δ (rising z o.0 ∙ old_twice x lx)

  -- its neighbours
  pub base_twice : k ≤ h' → (i x : ℕ) → i ≤ n → x < new_darts N' Λ' k → new_base a' n N' h' Λ' Δ' k i x ≡ new_base a n N h Λ Δ (l + k) i x
  base_twice f i x li lx =
      let o = old_on N' Λ' k x lx in
      let z = old_number N' Λ' k x in
      let s = alike a n N h Λ Δ y l a' N' h' Λ' Δ' old r k f in
      let w = level a' n N' (marks h' Λ' Δ') k i z in
      let lw : w < N' = (s.valid.inside i z li o).0 in
      let below : w < new_darts N Λ l = omega (arith, all) in
      ap (rank Λ' k) (sym (rank_old N Λ l w below)) ∙ rank_twice (old_number N Λ l w) (old_on N Λ l w below)
      ∙ ap (rank Λ (l + k)) (sym (rising w lw) ∙ s.neighbour i z li o ∙ ap (level a n N (marks h Λ Δ) (l + k) i) (rising z o.0 ∙ old_twice x lx))

-- the front of what is packed, as a list
front_is : (value : ℕ → ℕ) (m filler size : ℕ) → m ≤ size → take m (packed value m filler size) ≡ listed value m
front_is value m filler size f = listed_of value m (take m (packed value m filler size)) (front_length value m filler size f) (front_at value m filler size f)

-- What is left when the job starts again from l and then, lent the fronts, from k, and when it starts again from l + k at once.
pub record Twice (n N₂ h₂ N₃ h₃ : ℕ) (rows₂ lambda₂ delta₂ rows₃ lambda₃ delta₃ old₁ old₂ old₃ : List ℕ) : Type 0 where
  pub darts : N₂ ≡ N₃
  pub height : h₂ ≡ h₃
  pub rows : take (suc n * N₂) rows₂ ≡ take (suc n * N₃) rows₃
  pub lambda : take N₂ lambda₂ ≡ take N₃ lambda₃
  pub delta : take N₂ delta₂ ≡ take N₃ delta₃
  pub old : (x : ℕ) → x < N₃ → each old₁ (each old₂ x) ≡ each old₃ x

-- of lists that hold level l under new numbers
module _ (P : Folded) (y : Pyramid (base P) P.n P.N P.h (lambda_of P) (delta_of P)) (l N₁ h₁ : ℕ) (rows₁ lambda₁ delta₁ old₁ : List ℕ)
    (r : Renumbered (base P) P.n P.N P.h (lambda_of P) (delta_of P) l (entry N₁ rows₁) N₁ h₁ (each lambda₁) (each delta₁) (each old₁))
    (all : N₁ ≡ new_darts P.N (lambda_of P) l) (rising : (d : ℕ) → d < N₁ → each old₁ d ≡ old_number P.N (lambda_of P) l d)
    (table₂ : List ℕ) (k : ℕ) (old₂ : List ℕ) (e₂ : rebase_lent (of_parts P.n N₁ h₁ rows₁ lambda₁ delta₁) table₂ k old₂ ≡ accepted)
    (table₃ old₃ : List ℕ) (e₃ : rebase_lent P table₃ (l + k) old₃ ≡ accepted) where
  open P use {n, N, h, rows, lambda, delta}

  abbrev D₂ : ℕ
  D₂ = new_darts N₁ (each lambda₁) k

  abbrev D₃ : ℕ
  D₃ = new_darts N (each lambda) (l + k)

  few₂ : D₂ ≤ N₁
  few₂ = count_le (survives (each lambda₁) k) N₁

  few₃ : D₃ ≤ N
  few₃ = count_le (survives (each lambda) (l + k)) N

  as_many : D₂ ≡ D₃
  as_many = darts_twice (entry N rows) n N h (each lambda) (each delta) y l (entry N₁ rows₁) N₁ h₁ (each lambda₁) (each delta₁) (each old₁) r all rising k

  -- the fronts of two slices packed with the same values
  same_front : (v w : ℕ → ℕ) (filler : ℕ) → ((x : ℕ) → x < D₂ → v x ≡ w x) → take D₂ (packed v D₂ filler N₁) ≡ take D₃ (packed w D₃ filler N)
  same_front v w filler same = front_is v D₂ filler N₁ few₂ ∙ listed_same v w D₂ same ∙ ap (listed w) as_many ∙ sym (front_is w D₃ filler N few₃)

  abbrev row : ℕ → ℕ → ℕ
  row m x = new_base (entry N rows) n N h (each lambda) (each delta) (l + k) (x / m) (x % m)

  same_rows : take (suc n * D₂) (packed (λ x. new_base (entry N₁ rows₁) n N₁ h₁ (each lambda₁) (each delta₁) k (x / D₂) (x % D₂)) (suc n * D₂) absent (suc n * N₁)) ≡ take (suc n * D₃) (packed (row D₃) (suc n * D₃) absent (suc n * N))
  same_rows =
      front_is _ (suc n * D₂) absent (suc n * N₁) (mul-le-mul_left (suc n) few₂)
      ∙ listed_same _ (row D₂) (suc n * D₂) (λ x lx.
      let w = place n D₂ x lx in
      base_twice (entry N rows) n N h (each lambda) (each delta) y l (entry N₁ rows₁) N₁ h₁ (each lambda₁) (each delta₁) (each old₁) r all rising k (passed (of_parts n N₁ h₁ rows₁ lambda₁ delta₁) table₂ k old₂ e₂).low (x / D₂) (x % D₂) w.0 w.1)
      ∙ ap (λ (m : ℕ). listed (row m) (suc n * m)) as_many
      ∙ sym (front_is (row D₃) (suc n * D₃) absent (suc n * N) (mul-le-mul_left (suc n) few₃))

  same_old : (x : ℕ) → x < D₃ → each old₁ (each (packed (old_number N₁ (each lambda₁) k) D₂ absent N₁) x) ≡ each (packed (old_number N (each lambda) (l + k)) D₃ absent N) x
  same_old x lx =
      let l₂ : x < D₂ = omega (arith, as_many) in
      ap (each old₁) (packed_at (old_number N₁ (each lambda₁) k) D₂ absent N₁ few₂ x l₂)
      ∙ rising (old_number N₁ (each lambda₁) k x) (old_on N₁ (each lambda₁) k x l₂).0
      ∙ old_twice (entry N rows) n N h (each lambda) (each delta) y l (entry N₁ rows₁) N₁ h₁ (each lambda₁) (each delta₁) (each old₁) r all rising k x l₂
      ∙ sym (packed_at (old_number N (each lambda) (l + k)) D₃ absent N few₃ x lx)

  pub twice : Twice n (rebase_darts (of_parts n N₁ h₁ rows₁ lambda₁ delta₁) table₂ k old₂) (rebase_height (of_parts n N₁ h₁ rows₁ lambda₁ delta₁) table₂ k old₂) (rebase_darts P table₃ (l + k) old₃) (rebase_height P table₃ (l + k) old₃)
      (rebase_rows (of_parts n N₁ h₁ rows₁ lambda₁ delta₁) table₂ k old₂) (rebase_lambda (of_parts n N₁ h₁ rows₁ lambda₁ delta₁) table₂ k old₂) (rebase_delta (of_parts n N₁ h₁ rows₁ lambda₁ delta₁) table₂ k old₂)
      (rebase_rows P table₃ (l + k) old₃) (rebase_lambda P table₃ (l + k) old₃) (rebase_delta P table₃ (l + k) old₃)
      old₁ (rebase_old (of_parts n N₁ h₁ rows₁ lambda₁ delta₁) table₂ k old₂) (rebase_old P table₃ (l + k) old₃)
  unfolding rebase_darts rebase_height rebase_rows rebase_lambda rebase_delta rebase_old
  twice =
      rw (e₂, e₃)
      (record {
        darts = as_many;
        height = omega (arith, r.height);
        rows = same_rows;
        lambda = same_front (newΛ N₁ (each lambda₁) k) (newΛ N (each lambda) (l + k)) stay (lambda_twice (entry N rows) n N h (each lambda) (each delta) y l (entry N₁ rows₁) N₁ h₁ (each lambda₁) (each delta₁) (each old₁) r all rising k);
        delta = same_front (newΔ N₁ (each lambda₁) (each delta₁) k) (newΔ N (each lambda) (each delta) (l + k)) stay (delta_twice (entry N rows) n N h (each lambda) (each delta) y l (entry N₁ rows₁) N₁ h₁ (each lambda₁) (each delta₁) (each old₁) r all rising k);
        old = same_old;
      })

-- Where starting again from l, and then with the fronts from k, is accepted, so is starting again from l + k, and leaves the same.
module _ (P : Folded) (table : List ℕ) (l : ℕ) (old : List ℕ) (e : rebase_lent P table l old ≡ accepted) where
  open P use {n, N, h, rows, lambda, delta}

  abbrev N₁ : ℕ
  N₁ = rebase_darts P table l old

  abbrev h₁ : ℕ
  h₁ = rebase_height P table l old

  abbrev rows₁ : List ℕ
  rows₁ = take (suc n * N₁) (rebase_rows P table l old)

  abbrev lambda₁ : List ℕ
  lambda₁ = take N₁ (rebase_lambda P table l old)

  abbrev delta₁ : List ℕ
  delta₁ = take N₁ (rebase_delta P table l old)

  abbrev old₁ : List ℕ
  old₁ = rebase_old P table l old

  packed₁ : PackedAgain P l N₁ h₁ (rebase_rows P table l old) (rebase_lambda P table l old) (rebase_delta P table l old) old₁
  packed₁ = packed_again P table l old e

  lent : Pyramid (entry N rows) n N h (each lambda) (each delta)
  lent = lent_pyramid P table l old e

  module _ (table₂ : List ℕ) (k : ℕ) (old₂ : List ℕ) (e₂ : rebase_lent (of_parts n N₁ h₁ rows₁ lambda₁ delta₁) table₂ k old₂ ≡ accepted)
      (table₃ old₃ : List ℕ) (long : length table₃ ≡ suc n * N) (old-long : length old₃ ≡ N) where
    -- the check looks at the table's length alone
    checked_at_once : check_lent P table₃ ≡ accepted
    checked_at_once =
        let q = check_accepts P table (passed P table l old e).checked in
        accepted_check P table₃
        (record {
          dimension = q.dimension;
          darts = q.darts;
          height = q.height;
          rows_length = q.rows_length;
          lambda_length = q.lambda_length;
          delta_length = q.delta_length;
          table_length = long;
          pyramid = q.pyramid;
        })

    sized_at_once : lent_of n N h (has_length old₃ N) ≡ accepted
    unfolding number4
    sized_at_once = rw ((passed P table l old e).sized, eq-eqb (length old₃) N old-long)

    -- starting again from l + k at once is accepted
    pub at_once : rebase_lent P table₃ (l + k) old₃ ≡ accepted
    at_once =
        let f = passed (of_parts n N₁ h₁ rows₁ lambda₁ delta₁) table₂ k old₂ e₂ in
        let same = darts_twice (entry N rows) n N h (each lambda) (each delta) lent l (entry N₁ rows₁) N₁ h₁ (each lambda₁) (each delta₁) (each old₁) packed₁.renumbered packed₁.as_many packed₁.rising k in
        sym (all_passed P table₃ (l + k) old₃ (sym sized_at_once) refl (sym checked_at_once) (omega (arith, packed₁.renumbered.height, f.low)) (λ z. omega (arith, same, f.some, z))).0

    -- and leaves the same
    pub again_twice : Twice n (rebase_darts (of_parts n N₁ h₁ rows₁ lambda₁ delta₁) table₂ k old₂) (rebase_height (of_parts n N₁ h₁ rows₁ lambda₁ delta₁) table₂ k old₂) (rebase_darts P table₃ (l + k) old₃) (rebase_height P table₃ (l + k) old₃)
        (rebase_rows (of_parts n N₁ h₁ rows₁ lambda₁ delta₁) table₂ k old₂) (rebase_lambda (of_parts n N₁ h₁ rows₁ lambda₁ delta₁) table₂ k old₂) (rebase_delta (of_parts n N₁ h₁ rows₁ lambda₁ delta₁) table₂ k old₂)
        (rebase_rows P table₃ (l + k) old₃) (rebase_lambda P table₃ (l + k) old₃) (rebase_delta P table₃ (l + k) old₃)
        old₁ (rebase_old (of_parts n N₁ h₁ rows₁ lambda₁ delta₁) table₂ k old₂) (rebase_old P table₃ (l + k) old₃)
    again_twice = twice P lent l N₁ h₁ rows₁ lambda₁ delta₁ old₁ packed₁.renumbered packed₁.as_many packed₁.rising table₂ k old₂ e₂ table₃ old₃ at_once
