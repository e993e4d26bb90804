-- The numbers of a level's survivors, summed, and the largest of them, are what unfolding the level counts. Assumes nothing.
use mathlib.Core.Path.{◌≡◌, refl, sym, ap, ◌∙◌}
use mathlib.Core.Bool.{Bool, true, false, cond}
use mathlib.Core.List.{List}
use Prim.Native.Nat.{ℕ, zero, suc, ◌+◌, ◌*◌, ◌-◌, ◌≤◌, ◌<◌, max}
use native.Mathlib.Numerals.{add-one}
use native.Mathlib.Omega.{arith}
use native.Mathlib.Nat.{mul-le-mul_right, suc-mul}
use lib.ListN.{length, get_or, take, drop, length-drop}
use lib.Seq.{length-take-le, get_or-take, get_or-drop, take_all}
use Rattle.std.specs.List.{sum_by, zip, fold}
use Rattle.std.proofs.lemmas.List.Sums.{sum_by_more, fold_more}
use Rattle.std.proofs.lemmas.List.Folds.{fold-map}
use Rattle.std.proofs.lemmas.Slice.Zip.{length-zip, get_or-zip}
use Rattle.maps.specs.Count.{sum}
use Rattle.maps.specs.Table.{entry, each}
use Rattle.maps.specs.Folded.{survives}
use Rattle.maps.specs.Trail.{largest}
use Rattle.laws.proofs.Counting.{sum_same}
use Rattle.laws.proofs.Tables.{table_size}
use Rattle.unfolding.specs.Told.{taken, row_total, row_latest}

-- the largest of the same numbers
pub largest_same : (f g : ℕ → ℕ) (m : ℕ) → ((x : ℕ) → x < m → f x ≡ g x) → largest f m ≡ largest g m
unfolding largest
largest_same f g zero h = refl
largest_same f g (suc m) h = rw (largest_same f g m (λ x l. h x (omega arith)), h m (omega arith))

-- one number more
pub sum_more : (f : ℕ → ℕ) (m v : ℕ) → v ≡ f m → sum f m + v ≡ sum f (m + 1)
unfolding sum
sum_more f m v e = rw (add-one, e)

pub largest_more : (f : ℕ → ℕ) (m v larger : ℕ) → v ≡ f m → larger ≡ max (largest f m) v → larger ≡ largest f (m + 1)
unfolding largest
largest_more f m v larger e g = rw (add-one, ← e) g

-- the same numbers, taken from the pairs of a chain
module _ (lambda row : List ℕ) (l : ℕ) (long : length row ≡ length lambda) where
  abbrev number : ℕ → ℕ
  number b = cond (survives (each lambda) l b) (each row b) 0

  pairs_long : length (zip lambda row) ≡ length lambda
  pairs_long = length-zip lambda row ∙ omega (arith, long)

  pair_at : (b : ℕ) → b < length lambda → taken l (get_or (zip lambda row) b (0, 0)) ≡ number b
  pair_at b lb = ap (taken l) (get_or-zip lambda row b (0, 0) lb (omega (arith, lb, long)))

  sum_to : (m : ℕ) → m ≤ length lambda → sum_by (taken l) (take m (zip lambda row)) ≡ sum number m
  unfolding sum
  sum_to zero lm = refl
  sum_to (suc m) lm =
      let lb : m < length lambda = omega arith in
      ap (λ (k : ℕ). sum_by (taken l) (take k (zip lambda row))) (sym (add-one m))
      ∙ sum_by_more (taken l) (zip lambda row) m (0, 0) (omega (arith, pairs_long)) ∙ rw (sum_to m (omega arith), pair_at m lb) refl

  sum_pairs : row_total lambda l row ≡ sum number (length lambda)
  sum_pairs = ap (sum_by (taken l)) (sym (take_all (length lambda) (zip lambda row) (omega (arith, pairs_long)))) ∙ sum_to (length lambda) (omega arith)

  largest_to : (m : ℕ) → m ≤ length lambda → fold (λ a p. max a (taken l p)) 0 (take m (zip lambda row)) ≡ largest number m
  unfolding largest
  largest_to zero lm = refl
  largest_to (suc m) lm =
      let lb : m < length lambda = omega arith in
      ap (λ (k : ℕ). fold (λ a p. max a (taken l p)) 0 (take k (zip lambda row))) (sym (add-one m))
      ∙ fold_more (λ a p. max a (taken l p)) 0 (zip lambda row) m (0, 0) (omega (arith, pairs_long)) ∙ rw (largest_to m (omega arith), pair_at m lb) refl

  largest_pairs : row_latest lambda l row ≡ largest number (length lambda)
  largest_pairs = fold-map max (taken l) 0 (zip lambda row) ∙ ap (fold (λ a p. max a (taken l p)) 0) (sym (take_all (length lambda) (zip lambda row) (omega (arith, pairs_long)))) ∙ largest_to (length lambda) (omega arith)

-- the row that begins at i * N
module _ (table lambda : List ℕ) (l i : ℕ) (within : i * length lambda + length lambda ≤ length table) where
  abbrev N : ℕ
  N = length lambda

  abbrev row : List ℕ
  row = take N (drop (i * N) table)

  row_long : length row ≡ N
  row_long = length-take-le N (drop (i * N) table) (omega (arith, length-drop (i * N) table, within))

  row_at : (b : ℕ) → b < N → each row b ≡ entry N table i b
  row_at b lb = get_or-take N (drop (i * N) table) b 0 lb ∙ get_or-drop (i * N) table b 0

  row_total_lem : row_total lambda l row ≡ sum (λ b. cond (survives (each lambda) l b) (entry N table i b) 0) N
  row_total_lem = sum_pairs lambda row l row_long ∙ sum_same _ _ N (λ b lb. ap (λ (x : ℕ). cond (survives (each lambda) l b) x 0) (row_at b lb))

  row_latest_lem : row_latest lambda l row ≡ largest (λ b. cond (survives (each lambda) l b) (entry N table i b) 0) N
  row_latest_lem = largest_pairs lambda row l row_long ∙ largest_same _ _ N (λ b lb. ap (λ (x : ℕ). cond (survives (each lambda) l b) x 0) (row_at b lb))

  -- numbers of 16 bits sum to few
  sum_few : ((x : ℕ) → get_or table x 0 < 65536) → (m : ℕ) → sum (λ b. cond (survives (each lambda) l b) (entry N table i b) 0) m ≤ 65536 * m
  unfolding sum
  sum_few small zero = omega arith
  sum_few small (suc m) = go (survives (each lambda) l m) (sum_few small m)
    where
      go : (t : Bool) → sum (λ b. cond (survives (each lambda) l b) (entry N table i b) 0) m ≤ 65536 * m → sum (λ b. cond (survives (each lambda) l b) (entry N table i b) 0) m + cond t (entry N table i m) 0 ≤ 65536 * suc m
      go true few = omega (arith, small (i * N + m), few)
      go false few = omega (arith, few)

  row_few : ((x : ℕ) → get_or table x 0 < 65536) → N ≤ 4096 → row_total lambda l row ≤ 268435456
  row_few small lN = omega (arith, row_total_lem, sum_few small N)

-- a row lies in its table
pub row_fits : (n N i from : ℕ) (table : List ℕ) → n ≤ 4 → N ≤ 4096 → i < n + 1 → from ≡ i * N → length table ≡ suc n * N → (from + N ≤ length table) × (length table ≤ 20480)
row_fits n N i from table ln lN li e long =
    let m : suc i * N ≤ suc n * N = mul-le-mul_right N (omega arith) in
    let t = table_size n N i ln lN (omega arith) in
    (omega (arith, suc-mul i N), omega (arith, t.1))

row_within : (n N i length : ℕ) → i < n + 1 → length ≡ suc n * N → i * N + N ≤ length
row_within n N i length li e = let m : suc i * N ≤ suc n * N = mul-le-mul_right N (omega arith) in omega (arith, suc-mul i N)

-- the part that a loop over rows cuts
part_row : (N i from : ℕ) (table : List ℕ) → from ≡ i * N → take (from + N - from) (drop from table) ≡ take N (drop (i * N) table)
part_row N i from table e =
    let k : from + N - from ≡ N = omega arith in
    ap (λ (x : ℕ). take x (drop from table)) k ∙ ap (λ (x : ℕ). take N (drop x table)) e

-- row i of a table, as the loops over its rows cut it
module _ (n i from : ℕ) (table lambda : List ℕ) (l : ℕ) (li : i < n + 1) (e : from ≡ i * length lambda) (long : length table ≡ suc n * length lambda) where
  abbrev cut : List ℕ
  cut = take (from + length lambda - from) (drop from table)

  within : i * length lambda + length lambda ≤ length table
  within = row_within n (length lambda) i (length table) li long

  pub cut_total : row_total lambda l cut ≡ sum (λ b. cond (survives (each lambda) l b) (entry (length lambda) table i b) 0) (length lambda)
  cut_total = ap (row_total lambda l) (part_row (length lambda) i from table e) ∙ row_total_lem table lambda l i within

  pub cut_few : ((x : ℕ) → get_or table x 0 < 65536) → length lambda ≤ 4096 → row_total lambda l cut ≤ 268435456
  cut_few small lN = omega (arith, ap (row_total lambda l) (part_row (length lambda) i from table e), row_few table lambda l i within small lN)

  pub cut_latest : row_latest lambda l cut ≡ largest (λ b. cond (survives (each lambda) l b) (entry (length lambda) table i b) 0) (length lambda)
  cut_latest = ap (row_latest lambda l) (part_row (length lambda) i from table e) ∙ row_latest_lem table lambda l i within
