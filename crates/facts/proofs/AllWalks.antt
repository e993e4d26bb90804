-- What all the walks of a level read: each removed dart is left at most once by each of its two rows, over all walks. Assumes nothing.
use mathlib.Core.Path.{◌≡◌, refl, ap, ◌∙◌}
use mathlib.Core.Bool.{Bool, true, false, cond, not}
use mathlib.Core.List.{List, []}
use Prim.Native.Nat.{ℕ, suc, ◌+◌, ◌-◌, ◌*◌, ◌≤◌, ◌<◌}
use native.Mathlib.Omega.{arith}
use lib.ListN.{length}
use borrow.Author.Tests.{not-true}
use Rattle.maps.specs.Count.{one, count, sum}
use Rattle.maps.specs.Map.{Involutions}
use Rattle.laws.proofs.Counting.{Mem, Nodup, pigeon, sum_same, sum_add, sum_const, sum_count, gather, length_gather, mem_gather, nodup_gather}
use Rattle.facts.proofs.Runs.{Reaches, Ground, places, length_places, Place, place_of, passed, passed_count, places_ok, nodup_places, apart}

-- Walks with two numbers, v < M and w < K: where `picked v w`, there is one that begins by row `row v w` of dart `from v w` and passes `passes v w` darts.
module _ (a : Involutions) (dim via : ℕ → ℕ) (removed : ℕ → Bool) (N M K : ℕ) (picked : ℕ → ℕ → Bool) (row from passes : ℕ → ℕ → ℕ) where
  -- the places that the walk passes
  spots : ℕ → ℕ → List ℕ
  spots v w = cond (picked v w) (places a dim via removed N (passes v w) (row v w) (from v w)) []

  length_spots : (v w : ℕ) → length (spots v w) ≡ cond (picked v w) (passes v w) 0
  unfolding spots
  length_spots v w = go (picked v w)
    where
      go : (x : Bool) → length (cond x (places a dim via removed N (passes v w) (row v w) (from v w)) []) ≡ cond x (passes v w) 0
      go true = length_places a dim via removed N (passes v w) (row v w) (from v w)
      go false = refl

  module _ (n : ℕ) (present : ℕ → Type 0) where
    -- a walk of a survivor
    pub record Begun (v w : ℕ) : Type 0 where
      pub row_le : row v w ≤ n
      pub here : present (from v w)
      pub stays : removed (from v w) ≡ false
      pub last : ℕ
      pub end : ℕ
      pub course : Reaches a dim via removed (passes v w) (row v w) (from v w) last end

    module _ (g : Ground a dim via removed n present) (bound : (d : ℕ) → present d → d < N) (begun : (v w : ℕ) → v < M → w < K → picked v w ≡ true → Begun v w)
        (once : (v w v' w' : ℕ) → v < M → w < K → v' < M → w' < K → picked v w ≡ true → picked v' w' ≡ true → row v w ≡ row v' w' → from v w ≡ from v' w' → (v ≡ v') × (w ≡ w')) where
      spots_nodup : (v w : ℕ) → v < M → w < K → Nodup (spots v w)
      unfolding spots
      spots_nodup v w lv lw = go (picked v w) refl
        where
          go : (x : Bool) → picked v w ≡ x → Nodup (cond x (places a dim via removed N (passes v w) (row v w) (from v w)) [])
          go true q = let c = begun v w lv lw q in nodup_places a dim via removed n present g N bound (passes v w) (row v w) (from v w) c.last c.end c.row_le c.here c.stays c.course
          go false q = tt

      -- a place on a list: there is a walk, and it passes there
      spot : (v w x : ℕ) → v < M → w < K → Mem x (spots v w) → (picked v w ≡ true) × Place a dim via removed N (row v w) (from v w) x × (x < N + N) × (passed a dim via removed N x ≡ true)
      unfolding spots
      spot v w x lv lw = go (picked v w) refl
        where
          go : (y : Bool) → picked v w ≡ y → Mem x (cond y (places a dim via removed N (passes v w) (row v w) (from v w)) []) → (picked v w ≡ true) × Place a dim via removed N (row v w) (from v w) x × (x < N + N) × (passed a dim via removed N x ≡ true)
          go true q m =
              let c = begun v w lv lw q in
              let o = places_ok a dim via removed n present g N bound (passes v w) (row v w) (from v w) c.last c.end x c.row_le c.here c.course m in
              (q, place_of a dim via removed N (passes v w) (row v w) (from v w) c.last c.end x c.course m, o.0, o.1)
          go false q m = absurd m

      one_walk : (v w v' w' x : ℕ) → v < M → w < K → v' < M → w' < K → Mem x (spots v w) → Mem x (spots v' w') → (v ≡ v') × (w ≡ w')
      one_walk v w v' w' x lv lw lv' lw' m m' =
          let r = spot v w x lv lw m in
          let s = spot v' w' x lv' lw' m' in
          let p = begun v w lv lw r.0 in
          let q = begun v' w' lv' lw' s.0 in
          let o = apart a dim via removed n present g N bound (row v w) (from v w) (row v' w') (from v' w') x p.row_le p.here p.stays q.row_le q.here q.stays r.1 s.1 in
          once v w v' w' lv lw lv' lw' r.0 s.0 o.1 o.2

      all : List ℕ
      all = gather (λ v. gather (λ w. spots v w) K) M

      all_nodup : Nodup all
      unfolding all
      all_nodup =
          nodup_gather (λ v. gather (λ w. spots v w) K) M
          (λ v lv. nodup_gather (λ w. spots v w) K (λ w lw. spots_nodup v w lv lw) (λ w w' x lw lw' m m'. (one_walk v w v w' x lv lw lv lw' m m').1))
          (λ v v' x lv lv' m m'.
          let r = mem_gather (λ w. spots v w) K x m in
          let s = mem_gather (λ w. spots v' w) K x m' in
          (one_walk v r.0 v' s.0 x lv r.1 lv' s.1 r.2 s.2).0)

      all_passed : (x : ℕ) → Mem x all → (x < N + N) × (passed a dim via removed N x ≡ true)
      unfolding all
      all_passed x m =
          let r = mem_gather (λ v. gather (λ w. spots v w) K) M x m in
          let s = mem_gather (λ w. spots r.0 w) K x r.2 in
          let o = spot r.0 s.0 x r.1 s.1 s.2 in
          (o.2, o.3)

      all_length : length all ≡ sum (λ v. sum (λ w. cond (picked v w) (passes v w) 0) K) M
      unfolding all
      all_length =
          length_gather (λ v. gather (λ w. spots v w) K) M
          ∙ sum_same (λ v. length (gather (λ w. spots v w) K)) (λ v. sum (λ w. cond (picked v w) (passes v w) 0) K) M
          (λ v lv. length_gather (λ w. spots v w) K ∙ sum_same (λ w. length (spots v w)) (λ w. cond (picked v w) (passes v w) 0) K (λ w lw. length_spots v w))

      -- walks of survivors, no two of them the same, pass each removed dart at most twice
      pub passes_le : sum (λ v. sum (λ w. cond (picked v w) (passes v w) 0) K) M ≤ 2 * count removed N
      passes_le = omega (arith, all_length, pigeon all (passed a dim via removed N) (N + N) all_nodup all_passed, passed_count a dim via removed N)

-- The walk of a survivor b by row i counts one more than the darts that it passes.
module _ (a : Involutions) (dim via : ℕ → ℕ) (removed : ℕ → Bool) (N n : ℕ) (g : Ground a dim via removed n (λ d. d < N)) (counts : ℕ → ℕ → ℕ)
    (course : (i b : ℕ) → i ≤ n → b < N → removed b ≡ false → (p : ℕ) × (u : ℕ) × (e : ℕ) × Reaches a dim via removed p i b u e × (counts i b ≡ suc p)) where
  -- the darts that it passes
  abbrev passes : ℕ → ℕ → ℕ
  passes i b = cond (not (removed b)) (counts i b - 1) 0

  -- the walks of all survivors by all rows
  all_le : sum (λ i. sum (λ b. passes i b) N) (suc n) ≤ 2 * count removed N
  all_le =
      passes_le a dim via removed N (suc n) N (λ i b. not (removed b)) (λ i b. i) (λ i b. b) (λ i b. counts i b - 1) n (λ d. d < N) g (λ d l. l)
      (λ i b li lb q.
      let o = not-true (removed b) q in
      let c = course i b (omega arith) lb o in
      let p : counts i b - 1 ≡ c.0 = omega (arith, c.4) in
      record { row_le = omega arith; here = lb; stays = o; last = c.1; end = c.2; course = rw p c.3 })
      (λ i b j c li lb lj lc p q e f. (e, f))

  -- the first entry of each walk, and the darts that it passes
  counted : (i b : ℕ) → i ≤ n → b < N → cond (not (removed b)) (counts i b) 0 ≡ passes i b + one (not (removed b))
  counted i b li lb = go (removed b) refl
    where
      go : (x : Bool) → removed b ≡ x → cond (not (removed b)) (counts i b) 0 ≡ passes i b + one (not (removed b))
      go true q = rw q
      go false q = rw q (omega (arith, (course i b li lb q).4))

  -- the sum of the walks' counts
  pub sum_le : sum (λ i. sum (λ b. cond (not (removed b)) (counts i b) 0) N) (suc n) ≤ suc n * count (λ b. not (removed b)) N + 2 * count removed N
  sum_le =
      let S = count (λ b. not (removed b)) N in
      let e : sum (λ i. sum (λ b. cond (not (removed b)) (counts i b) 0) N) (suc n) ≡ sum (λ i. sum (λ b. passes i b) N + S) (suc n) =
      sum_same (λ i. sum (λ b. cond (not (removed b)) (counts i b) 0) N) (λ i. sum (λ b. passes i b) N + S) (suc n) (λ i l.
      sum_same (λ b. cond (not (removed b)) (counts i b) 0) (λ b. passes i b + one (not (removed b))) N (λ b lb. counted i b (omega arith) lb)
      ∙ sum_add (λ b. passes i b) (λ b. one (not (removed b))) N
      ∙ ap (λ (z : ℕ). sum (λ b. passes i b) N + z) (sum_count (λ b. not (removed b)) N)) in
      omega (arith, e, sum_add (λ i. sum (λ b. passes i b) N) (λ i. S) (suc n), sum_const S (suc n), all_le)
