-- The counts and the levels since which of an accepted pyramid's levels, as they stand in tables, from one level to the next. Assumes nothing.
use mathlib.Core.Path.{◌≡◌, refl, sym, ap, ◌∙◌}
use mathlib.Core.Bool.{Bool, true, false, cond}
use mathlib.Core.List.{List}
use Prim.Native.Nat.{ℕ, zero, suc, ◌≤◌, ◌<◌}
use native.Mathlib.Omega.{arith}
use lib.ListN.{length}
use borrow.Author.Tests.{ltb-false, lt-ltb, le-ltb, not-true}
use Rattle.maps.specs.Verdict.{accepted, scan}
use Rattle.maps.specs.Count.{count}
use Rattle.maps.specs.Map.{Involutions}
use Rattle.maps.specs.Mark.{is_mark}
use Rattle.maps.specs.Removal.{marked}
use Rattle.maps.specs.Table.{entry, each}
use Rattle.maps.specs.Folded.{On, gone, survives, marks, level, Folded, base, lambda_of, delta_of}
use Rattle.maps.specs.Trail.{largest, since, latest}
use Rattle.maps.specs.Cost.{reads, cost}
use Rattle.maps.specs.Pyramid.{Pyramid}
use Rattle.maps.specs.Explicit.{present, There}
use Rattle.maps.specs.Check.{check_kernel, kernel_at, check_kernels}
use Rattle.maps.specs.CheckPyramid.{check_lent, table_at}
use Rattle.maps.specs.Unfold.{unfold_lent, unfold_total, unfold_since}
use Rattle.maps.specs.UnfoldAll.{counts_from, counts_of, total_at, latest_at}
use Rattle.laws.proofs.Counting.{sum_same, count_le}
use Rattle.laws.proofs.Verdicts.{scan_accepted, scan_all}
use Rattle.laws.proofs.Tables.{entry_explicit}
use Rattle.facts.proofs.Checks.{kernel_sound}
use Rattle.facts.proofs.Facts.{facts}
use Rattle.facts.proofs.Links.{stands_since_lem}
use Rattle.facts.proofs.Levels.{level_valid, taken_in}
use Rattle.facts.proofs.Towers.{on_below, on_above}
use Rattle.facts.proofs.Climbing.{table_present}
use Rattle.facts.proofs.Agreement.{passed_whole}
use Rattle.facts.proofs.AcceptedJobs.{accepted_pyramid, accepted_unfold}
use Rattle.facts.proofs.Carried.{carried_count, carried_since}
use Rattle.kernels.specs.Strings.{kernel_row, Linked, Strung}
use Rattle.kernels.specs.Ready.{Ready}
use Rattle.climbing.specs.Climb.{Base, climbs, Climbed}
use Rattle.climbing.proofs.Steps.{climb_tested, climb_strung, kernel_is}
use Rattle.stacking.proofs.Strings.{strings}
use Rattle.checking.proofs.PyramidCheck.{check_passed}
use Rattle.carrying.specs.Carried.{leads, Led, counted, Fits}
use Rattle.unfolding.specs.Told.{total_on, latest_on}
use Rattle.carrying.proofs.Local.{counts_stay, counts_local}
use Rattle.carrying.proofs.Leading.{leading}
use Rattle.stacking.proofs.Stacks.{block_long}
use Rattle.unfolding.proofs.Totals.{largest_same}

-- nothing is gone from level 0
none_gone : (Λ : ℕ → ℕ) (m : ℕ) → count (gone Λ 0) m ≡ 0
unfolding count
none_gone Λ zero = refl
none_gone Λ (suc m) = rw (le-ltb (Λ m) 0 (omega arith)) (omega (arith, none_gone Λ m))

-- the largest of numbers up to k
largest_most : (f : ℕ → ℕ) (m k : ℕ) → ((x : ℕ) → x < m → f x ≤ k) → largest f m ≤ k
unfolding largest
largest_most f zero k h = omega arith
largest_most f (suc m) k h = omega (arith, largest_most f m k (λ x l. h x (omega arith)), h m (omega arith))

-- a check reads no more of its table than its length
check_long : (f : Folded) (t t' : List ℕ) → length t ≡ length t' → check_lent f t ≡ check_lent f t'
unfolding check_lent
check_long f t t' e = rw e

module _ (f : Folded) (ok : check_lent f f.rows ≡ accepted) where
  open f use {n, N, h, rows, lambda, delta}

  abbrev Λ : ℕ → ℕ
  Λ = lambda_of f

  abbrev Δ : ℕ → ℕ
  Δ = delta_of f

  -- what the check tells
  pub based : Base f
  based = (check_passed f rows ok).1

  climbed_all : climbs f ≡ accepted
  climbed_all = (check_passed f rows ok).2

  pub height : h ≤ 32
  height = (check_passed f rows ok).0.height

  y : Pyramid (base f) n N h Λ Δ
  y = accepted_pyramid f rows ok

  -- a number at every link of level l is that of the level
  abbrev pub Told : (ℕ → ℕ → ℕ) → ℕ → List ℕ → Type 0
  Told number l table = (i b : ℕ) → i ≤ n → On N (lambda_of f) l b → entry N table i b ≡ number i b

  -- the counts and the levels since which of level l
  abbrev pub CountsAt : ℕ → List ℕ → Type 0
  CountsAt l table = Told (reads (base f) n N h (lambda_of f) (delta_of f) l) l table

  abbrev pub SinceAt : ℕ → List ℕ → Type 0
  SinceAt l table = Told (since (base f) N (lambda_of f) (delta_of f) l) l table

  -- on level 0 every count is 1, and every link stands since 0
  pub counts_base : (table : List ℕ) → ((i b : ℕ) → i ≤ n → b < N → entry N table i b ≡ 1) → CountsAt 0 table
  counts_base table one i b li o =
      let w = (facts (base f) n N h Λ Δ y 0 (omega arith)).few i b li o in
      one i b li o.0 ∙ omega (arith, w.0, w.1, none_gone Λ N)

  pub since_base : (table : List ℕ) → ((i b : ℕ) → i ≤ n → b < N → entry N table i b ≡ 0) → SinceAt 0 table
  since_base table none i b li o = let s = (stands_since_lem (base f) n N h Λ Δ y 0 (omega arith) i b li o).at_most in none i b li o.0 ∙ omega arith

  module _ (l : ℕ) (k : l ≤ h) where
    all_kernels : scan h (kernel_at (base f) n N h Λ Δ) ≡ accepted
    unfolding check_kernels
    all_kernels = climbed_all

    climbed_by : {head next : List ℕ} → Linked N Λ 0 head next → Climbed f l head next (table_at f l)
    climbed_by w = record { base = based; low = k; checked = scan_all l (kernel_at (base f) n N h Λ Δ) (λ x m. scan_accepted h (kernel_at (base f) n N h Λ Δ) all_kernels x (omega arith)); holds = refl; strung = w }

    climbed_to : Climbed f l (strings f based).head (strings f based).next (table_at f l)
    climbed_to = climbed_by (strings f based).linked

    unfolds : unfold_lent f l (table_at f l) ≡ accepted
    unfolds = accepted_unfold f (table_at f l) (check_long f (table_at f l) rows (block_long f l ∙ sym based.rows_long) ∙ ok) l k

    on : (b : ℕ) → b < N → survives Λ l b ≡ true → On N Λ l b
    on b lb q = (lb, ltb-false (Λ b) l (not-true (gone Λ l b) q))

    -- what is summed over the level is what unfolding it counts
    pub total_told : (table : List ℕ) → CountsAt l table → total_on n N lambda l table ≡ total_at f l
    unfolding unfold_total cost reads
    total_told table t = rw unfolds (sum_same _ _ (suc n) (λ i li. sum_same _ _ N (λ b lb. go i b (omega arith) lb (survives Λ l b) refl)))
      where
        go : (i b : ℕ) → i ≤ n → b < N → (x : Bool) → survives Λ l b ≡ x → cond (survives Λ l b) (entry N table i b) 0 ≡ reads (base f) n N h Λ Δ l i b
        go i b li lb true q = rw q (t i b li (on b lb q) ∙ rw q)
        go i b li lb false q = rw q

    pub latest_told : (table : List ℕ) → SinceAt l table → latest_on n N lambda l table ≡ latest_at f l
    unfolding unfold_since latest
    latest_told table t = rw unfolds (largest_same _ _ (suc n) (λ i li. largest_same _ _ N (λ b lb. go i b (omega arith) lb (survives Λ l b) refl)))
      where
        go : (i b : ℕ) → i ≤ n → b < N → (x : Bool) → survives Λ l b ≡ x → cond (survives Λ l b) (entry N table i b) 0 ≡ cond (survives Λ l b) (since (base f) N Λ Δ l i b) 0
        go i b li lb true q = rw q (t i b li (on b lb q))
        go i b li lb false q = rw q

    pub latest_few : (table : List ℕ) → SinceAt l table → latest_on n N lambda l table ≤ 32
    latest_few table t = let z = height in largest_most _ (suc n) 32 (λ i li. largest_most _ N 32 (λ b lb. go i b (omega arith) lb (survives Λ l b) refl))
      where
        go : (i b : ℕ) → i ≤ n → b < N → (x : Bool) → survives Λ l b ≡ x → cond (survives Λ l b) (entry N table i b) 0 ≤ 32
        go i b li lb true q = rw q (omega (arith, height, t i b li (on b lb q), (stands_since_lem (base f) n N h Λ Δ y l k i b li (on b lb q)).at_most))
        go i b li lb false q = rw q (omega arith)

  -- kernel l of it, over the block of level l
  module _ (l : ℕ) (k : l < h) where
    abbrev A : Involutions
    A = level (base f) n N (marks h Λ Δ) l

    abbrev row : ℕ → ℕ
    row = kernel_row lambda delta l

    abbrev block : List ℕ
    block = table_at f l

    passed : accepted ≡ check_kernel (entry N block) n N row l
    unfolding check_kernels
    passed = sym (kernel_is (climbed_to l (omega arith)) k ∙ scan_accepted h (kernel_at (base f) n N h Λ Δ) climbed_all l k)

    pub kernel_ready : Ready n N row block
    kernel_ready = let t = climb_tested (climbed_to l (omega arith)) k in record { tested = t; kernel = kernel_sound (entry N block) n N row l (There N (present N block)) t.sound.valid (λ d o. o.0) (sym passed) }

    pub kernel_strung : {head next : List ℕ} → Linked N (each lambda) 0 head next → {first : ℕ} → first ≡ each head l → Strung n N l first lambda delta next
    kernel_strung w e = climb_strung (climbed_by l (omega arith) w) k e

    row_is : (d : ℕ) → row d ≡ marks h Λ Δ l d
    unfolding kernel_row
    row_is d = rw (lt-ltb l h k)

    entry_is : (t d : ℕ) → t ≤ n → On N Λ l d → entry N block t d ≡ A t d
    entry_is t d lt o = entry_explicit A n N (survives Λ l) t d lt o.0 ∙ rw (le-ltb (Λ d) l o.1)

    -- on the next level: a link leads into the kernel where it does on the level
    module _ (i b : ℕ) (li : i ≤ n) (o : On N Λ (suc l) b) where
      below : On N Λ l b
      below = (on_below N Λ l b o).0

      unmarked : is_mark n (row b) ≡ false
      unmarked = ap (is_mark n) (row_is b) ∙ taken_in (base f) n N h Λ Δ y.dimension y.allowed l b k o.0 ∙ (on_below N Λ l b o).1

      leads_is : leads n N row block i b ≡ marked A n (marks h Λ Δ l) i (A i b)
      unfolding leads
      leads_is =
          let v = (level_valid (base f) n N h Λ Δ y l (omega arith)).inside i b li below in
          rw (entry_is i b li below, lt-ltb (A i b) N v.0, unmarked, row_is (A i b))

      module _ (table : List ℕ) (t : CountsAt l table) where
        counted_is : counted n N row block table i b ≡ reads (base f) n N h Λ Δ (suc l) i b
        unfolding counts_of
        counted_is =
            let v = level_valid (base f) n N h Λ Δ y l (omega arith) in
            let C = reads (base f) n N h Λ Δ l in
            let kernel = y.kernel l k in
            let same = row_is in
            let local = counts_local A (entry N block) n (On N Λ l) (marks h Λ Δ l) row C (entry N table) (λ t d lt p q. v.inside t d lt p)
            (passed_whole A A n (On N Λ l) (marks h Λ Δ l) (marks h Λ Δ l) v kernel (λ t d lt p q. refl) (λ d p. refl))
            (λ t d lt p q. sym (entry_is t d lt p)) (λ d p. sym (row_is d)) (λ t d lt p q. sym (t₀ t d lt p)) N i (A i b) li (v.inside i b li below) in
            omega (arith, t i b li below, local, ap (counts_from (entry N block) n row (entry N table) N i) (entry_is i b li below), carried_count (base f) n N h Λ Δ y l k i b li o)
          where
            t₀ : (i b : ℕ) → i ≤ n → On N Λ l b → entry N table i b ≡ reads (base f) n N h Λ Δ l i b
            t₀ = t

        -- its count is carried along
        pub count_next : (after : List ℕ) → Led n N row block (counted n N row block table) table after → entry N after i b ≡ reads (base f) n N h Λ Δ (suc l) i b
        unfolding counts_of
        count_next after led = led.rows i b o.0 ∙ go (leads n N row block i b) refl
          where
            go : (x : Bool) → leads n N row block i b ≡ x → cond (leads n N row block i b) (counted n N row block table i b) (entry N table i b) ≡ reads (base f) n N h Λ Δ (suc l) i b
            go true q = rw q counted_is
            go false q =
                let m = sym leads_is ∙ q in
                rw q (t i b li below ∙ omega (arith, counts_stay A n (marks h Λ Δ l) (reads (base f) n N h Λ Δ l) i (A i b) N m, carried_count (base f) n N h Λ Δ y l k i b li o))

      -- and so is its level since which
      pub since_next : (table after : List ℕ) → SinceAt l table → Led n N row block (λ _ _. suc l) table after → entry N after i b ≡ since (base f) N Λ Δ (suc l) i b
      since_next table after t led = led.rows i b o.0 ∙ rw (leads_is, t i b li below) (sym (carried_since (base f) n N h Λ Δ y l k i b li o))

    -- every count fits
    pub counts_fit : (table : List ℕ) → CountsAt l table → Fits n N row block table
    counts_fit table t i b li lb q =
        let x = leading kernel_ready i b lb q in
        let o : On N Λ (suc l) b = staying b lb x.there x.stays in
        let w = ((facts (base f) n N h Λ Δ y (suc l) k).few i b li o).1 in
        omega (arith, counted_is i b li o table t, w, count_le (gone Λ (suc l)) N, based.darts)
      where
        staying : (b : ℕ) → b < N → There N (present N block) b → is_mark n (row b) ≡ false → On N Λ (suc l) b
        staying b lb p q = on_above N Λ l b (on l (omega arith) b lb (sym (table_present (base f) n N h Λ Δ based.dimension based.darts based.valid based.allowed l (omega arith) (climbed_to l (omega arith)).checked b lb) ∙ p.1), sym (ap (is_mark n) (row_is b) ∙ taken_in (base f) n N h Λ Δ y.dimension y.allowed l b k lb) ∙ q)
