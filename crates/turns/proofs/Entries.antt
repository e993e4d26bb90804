-- The entries of the table that a climb reads, kernel by kernel, in the loops along its strings: at most 2n + 8 for each dart gone, n + 8 where no kernel is refused. That the loops read these is seen in the code. Assumes nothing.
use mathlib.Core.Path.{◌≡◌, refl, sym, ap, ◌∙◌}
use mathlib.Core.Bool.{Bool, true, false, cond, not, true≢false}
use mathlib.Core.List.{List}
use Prim.Native.Nat.{ℕ, zero, suc, ◌+◌, ◌-◌, ◌*◌, ◌≤◌, ◌<◌}
use native.Mathlib.Nat.{mul-add, add-mul}
use native.Mathlib.Omega.{arith}
use lib.Dec.{eqb, ltb}
use borrow.Author.Tests.{ltb-false}
use lib.ListN.{length, set, replicate, length-set, length-replicate, get_or-replicate}
use Rattle.maps.specs.Verdict.{Verdict, accepted, refused, if_accepted}
use Rattle.maps.specs.Count.{one, count, sum}
use Rattle.maps.specs.Mark.{is_mark, has_beyond}
use Rattle.maps.specs.Table.{entry, each}
use Rattle.maps.specs.Folded.{Folded, lambda_of, delta_of, removed_below}
use Rattle.maps.specs.Explicit.{present, There}
use Rattle.maps.specs.CheckPyramid.{table_at}
use Rattle.laws.proofs.Counting.{count_same}
use Rattle.laws.proofs.Verdicts.{scan_accepted, scan_all}
use Rattle.facts.proofs.Checks.{kernel_sound}
use Rattle.facts.proofs.Turns.{removed_suc}
use Rattle.kernels.specs.Strings.{kernel_row, Linked}
use Rattle.kernels.specs.Ready.{Ready}
use Rattle.kernels.proofs.Strung.{in_kernel_lem, linked_none, linked_more}
use Rattle.kernels.proofs.Turns.{relink_reads, relink_reads_lem}
use Rattle.climbing.specs.Climb.{Base, kernel_of, climbs_to, Climbed}
use Rattle.climbing.proofs.Steps.{climb_strung, climb_tested, kernel_is}
use Rattle.checking.specs.Checked.{early_of}
use Rattle.checking.proofs.PyramidCheck.{early_passed}

-- The tests with a yes or no: `together` reads of each dart of the kernel every row but the first of its mark, `commuting` four entries where its mark has a row beyond. Where the answer is no, `whole` and `fitting` seek the place and read no more.
unfoldable pub test_reads : ℕ → ℕ → (ℕ → ℕ) → ℕ
test_reads n N mark = sum (λ d. cond (is_mark n (mark d)) (n + cond (has_beyond n (mark d)) 4 0) 0) N

-- The tests and the removal, which clears rows without reading them.
unfoldable pub kernel_reads : ℕ → ℕ → (ℕ → ℕ) → List ℕ → ℕ
kernel_reads n N mark table = test_reads n N mark + relink_reads n N mark table

-- Kernel k of a climb, on the table that holds its level: nothing where a kernel below was refused; the tests, twice, where it is refused itself.
unfoldable pub step_reads : Folded → ℕ → ℕ
step_reads f k =
    let row = kernel_row f.lambda f.delta k in
    if_accepted (climbs_to f k) (if_accepted (kernel_of f k) (kernel_reads f.n f.N row (table_at f k)) (2 * test_reads f.n f.N row)) 0

-- All kernels below level l.
unfoldable pub climb_reads : Folded → ℕ → ℕ
climb_reads f l = sum (step_reads f) l

pub test_reads_lem : (n N : ℕ) (mark : ℕ → ℕ) → test_reads n N mark ≤ (n + 4) * count (λ d. is_mark n (mark d)) N
unfolding test_reads sum count
test_reads_lem n zero mark = omega arith
test_reads_lem n (suc N) mark = omega (arith, test_reads_lem n N mark, mul-add (n + 4) (count (λ d. is_mark n (mark d)) N) (one (is_mark n (mark N))), go (is_mark n (mark N)) (has_beyond n (mark N)))
  where
    go : (x y : Bool) → cond x (n + cond y 4 0) 0 ≤ (n + 4) * one x
    go true true = omega arith
    go true false = omega arith
    go false y = omega arith

-- one kernel that is accepted
pub kernel_reads_lem : {n N : ℕ} {mark : ℕ → ℕ} {table : List ℕ} → Ready n N mark table → kernel_reads n N mark table ≤ (n + 8) * count (λ d. is_mark n (mark d)) N
unfolding kernel_reads
kernel_reads_lem {n} {N} {mark} {table} r =
    let C = count (λ d. is_mark n (mark d)) N in
    let e : n + 4 + 4 ≡ n + 8 = omega arith in
    omega (arith, test_reads_lem n N mark, relink_reads_lem r, add-mul (n + 4) 4 C, ap (λ (z : ℕ). z * C) e)

-- strings that a climb may go along: those that `link` makes
strings : (N : ℕ) (Λ : ℕ → ℕ) → N ≤ 4096 → ((d : ℕ) → d < N → Λ d < 256) → (k : ℕ) → k ≤ N → (head : List ℕ) × (next : List ℕ) × Linked N Λ (N - k) head next × (length head ≡ 256) × (length next ≡ 4096)
strings N Λ few low zero l =
    let e : N - 0 ≡ N = omega arith in
    let free : (k : ℕ) → k < 256 → each (replicate 256 65535) k ≡ 65535 = λ k lk. get_or-replicate 256 k 65535 0 lk in
    (replicate 256 65535, replicate 4096 0, rw e (linked_none Λ (replicate 4096 0) few free), length-replicate {A = ℕ} 256 65535, length-replicate {A = ℕ} 4096 0)
strings N Λ few low (suc k) l =
    let w = strings N Λ few low k (omega arith) in
    let d = N - suc k in
    let s = linked_more w.2 d (Λ d) (omega arith) (omega arith) refl (low d (omega arith)) w.3 (omega (arith, w.4)) in
    (set w.0 (Λ d) d, set w.1 d (each w.0 (Λ d)), s, length-set w.0 (Λ d) d ∙ w.3, length-set w.1 d (each w.0 (Λ d)) ∙ w.4)

module _ (f : Folded) (b : Base f) where
  abbrev row : ℕ → ℕ → ℕ
  row k = kernel_row f.lambda f.delta k

  small : (d : ℕ) → d < f.N → lambda_of f d < 256
  small d ld = go (ltb f.h (lambda_of f d)) (cond (ltb (lambda_of f d) f.h) (not (is_mark f.n (delta_of f d))) (not (eqb (delta_of f d) f.n))) refl (b.allowed d ld)
    where
      go : (x y : Bool) → ltb f.h (lambda_of f d) ≡ x → cond x true y ≡ false → lambda_of f d < 256
      go true y p q = absurd (true≢false q)
      go false y p q = omega (arith, ltb-false f.h (lambda_of f d) p, b.height)

  strung : (head : List ℕ) × (next : List ℕ) × Linked f.N (lambda_of f) 0 head next
  strung =
      let w = strings f.N (lambda_of f) b.darts small f.N (omega arith) in
      let e : f.N - f.N ≡ 0 = omega arith in
      (w.0, w.1, rw e at w.2)

  -- kernels 0 to k−1 are accepted
  module _ (k : ℕ) (m : k < f.h) (e : climbs_to f k ≡ accepted) where
    here : Climbed f k strung.0 strung.1 (table_at f k)
    here = record { base = b; low = omega arith; checked = e; holds = refl; strung = strung.2 }

    -- the darts of kernel k
    size : count (λ d. is_mark f.n (row k d)) f.N ≡ count (λ d. eqb (lambda_of f d) k) f.N
    size = count_same (λ d. is_mark f.n (row k d)) (λ d. eqb (lambda_of f d) k) f.N (λ d ld. sym (in_kernel_lem (climb_strung here m refl).marks b.dimension d ld))

    ready : kernel_of f k ≡ accepted → Ready f.n f.N (row k) (table_at f k)
    ready q =
        let t = climb_tested here m in
        record { tested = t; kernel = kernel_sound (entry f.N (table_at f k)) f.n f.N (row k) k (There f.N (present f.N (table_at f k))) t.sound.valid (λ d o. o.0) (kernel_is here m ∙ q) }

  -- the darts of one kernel
  abbrev size_of : ℕ → ℕ
  size_of k = count (λ d. eqb (lambda_of f d) k) f.N

  -- one kernel that is accepted, and one that may be refused
  step_accepted : (k : ℕ) → k < f.h → climbs_to f k ≡ accepted → kernel_of f k ≡ accepted → step_reads f k ≤ (f.n + 8) * size_of k
  unfolding step_reads
  step_accepted k m p q = rw (p, q) (rw (size k m p) at (kernel_reads_lem (ready k m p q)))

  step_reads_lem : (k : ℕ) → k < f.h → step_reads f k ≤ (2 * f.n + 8) * size_of k
  unfolding step_reads
  step_reads_lem k m = go (climbs_to f k) refl (kernel_of f k) refl
    where
      go : (v : Verdict) → climbs_to f k ≡ v → (w : Verdict) → kernel_of f k ≡ w → step_reads f k ≤ (2 * f.n + 8) * size_of k
      go accepted p accepted q =
          let e : f.n + (f.n + 8) ≡ 2 * f.n + 8 = omega arith in
          omega (arith, step_accepted k m p q, add-mul f.n (f.n + 8) (size_of k), ap (λ (z : ℕ). z * size_of k) e)
      go accepted p (refused x l i d) q =
          let e : f.n + 4 + (f.n + 4) ≡ 2 * f.n + 8 = omega arith in
          let t = rw (size k m p) at (test_reads_lem f.n f.N (row k)) in
          rw (p, q) (omega (arith, t, add-mul (f.n + 4) (f.n + 4) (size_of k), ap (λ (z : ℕ). z * size_of k) e))
      go (refused x l i d) p w q = rw p (omega arith)

  -- all kernels below a level, up to the first that is refused
  pub climb_reads_lem : (l : ℕ) → l ≤ f.h → climb_reads f l ≤ (2 * f.n + 8) * removed_below f.N (lambda_of f) l
  unfolding climb_reads sum
  climb_reads_lem zero k = omega arith
  climb_reads_lem (suc l) k =
      rw (removed_suc (lambda_of f) l f.N, mul-add (2 * f.n + 8) (removed_below f.N (lambda_of f) l) (size_of l)) (omega (arith, climb_reads_lem l (omega arith), step_reads_lem l k))

  -- and where none is
  pub climb_accepted : (l : ℕ) → l ≤ f.h → climbs_to f l ≡ accepted → climb_reads f l ≤ (f.n + 8) * removed_below f.N (lambda_of f) l
  unfolding climb_reads sum
  climb_accepted l m e = go l (omega arith)
    where
      go : (k : ℕ) → k ≤ l → climb_reads f k ≤ (f.n + 8) * removed_below f.N (lambda_of f) k
      go zero g = omega arith
      go (suc k) g =
          let below : climbs_to f k ≡ accepted = scan_all k (kernel_of f) (λ x y. scan_accepted l (kernel_of f) e x (omega arith)) in
          let here = step_accepted k (omega arith) below (scan_accepted l (kernel_of f) e k g) in
          rw (removed_suc (lambda_of f) k f.N, mul-add (f.n + 8) (removed_below f.N (lambda_of f) k) (size_of k)) (omega (arith, go k (omega arith), here))

  -- the removals alone, of kernels that are accepted, as a new base climbs
  pub relinks_reads : (l : ℕ) → l ≤ f.h → climbs_to f l ≡ accepted → sum (λ k. relink_reads f.n f.N (row k) (table_at f k)) l ≤ 4 * removed_below f.N (lambda_of f) l
  unfolding sum
  relinks_reads l m e = go l (omega arith)
    where
      go : (k : ℕ) → k ≤ l → sum (λ j. relink_reads f.n f.N (row j) (table_at f j)) k ≤ 4 * removed_below f.N (lambda_of f) k
      go zero g = omega arith
      go (suc k) g =
          let below : climbs_to f k ≡ accepted = scan_all k (kernel_of f) (λ x y. scan_accepted l (kernel_of f) e x (omega arith)) in
          let u : k < f.h = omega arith in
          let here = relink_reads_lem (ready k u below (scan_accepted l (kernel_of f) e k g)) in
          omega (arith, go k (omega arith), here, size k u below, removed_suc (lambda_of f) k f.N)

-- A check, also as taking, writing and decimation begin with it: it climbs where 1 to 8 have passed.
unfoldable pub check_reads : Folded → List ℕ → ℕ
check_reads f table = if_accepted (early_of f table) (climb_reads f f.h) 0

-- of any input at all
pub check_reads_lem : (f : Folded) (table : List ℕ) → check_reads f table ≤ (2 * f.n + 8) * removed_below f.N (lambda_of f) f.h
unfolding check_reads
check_reads_lem f table = go (early_of f table) refl
  where
    go : (v : Verdict) → early_of f table ≡ v → if_accepted v (climb_reads f f.h) 0 ≤ (2 * f.n + 8) * removed_below f.N (lambda_of f) f.h
    go accepted e = climb_reads_lem f (early_passed f table e).1 f.h (omega arith)
    go (refused x l i d) e = omega arith

-- of a pyramid whose kernels are accepted
pub check_accepted : (f : Folded) (table : List ℕ) → climbs_to f f.h ≡ accepted → check_reads f table ≤ (f.n + 8) * removed_below f.N (lambda_of f) f.h
unfolding check_reads
check_accepted f table q = go (early_of f table) refl
  where
    go : (v : Verdict) → early_of f table ≡ v → if_accepted v (climb_reads f f.h) 0 ≤ (f.n + 8) * removed_below f.N (lambda_of f) f.h
    go accepted e = climb_accepted f (early_passed f table e).1 f.h (omega arith) q
    go (refused x l i d) e = omega arith
