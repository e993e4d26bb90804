-- The checks of a map, of a kernel and of a pyramid, with the first place that is refused: numbers 5 to 10. Assumes nothing: these are definitions.
use Rattle.std.specs.Prelude.{Bool, true, cond, ◌&&◌, not, ℕ, suc, ◌+◌, eqb, ltb}
use Rattle.maps.specs.Verdict.{Verdict, refused, when, ◌then◌, scan}
use Rattle.maps.specs.Map.{Involutions}
use Rattle.maps.specs.Mark.{is_mark, between, has_beyond, beyond}
use Rattle.maps.specs.Table.{absent}
use Rattle.maps.specs.Folded.{refused_marks, marks, level}

module _ (a : Involutions) (present : ℕ → Bool) where
  -- Scope: 'Numbers of refusal'. 6: a_i twice doesn't lead back.
  abbrev pub not_twice : ℕ → ℕ → Bool
  not_twice i d = present d && not (eqb (a i (a i d)) d)

  -- Scope: 'Numbers of refusal'. 7: two rows at least two apart don't commute.
  abbrev pub not_commuting : ℕ → ℕ → ℕ → Bool
  not_commuting i j d = present d && (ltb (i + 1) j && not (eqb (a j (a i d)) (a i (a j d))))

  -- Scope: 'Fields'. 6 names the row and the dart.
  unfoldable pub at6 : ℕ → ℕ → Verdict
  at6 i d = when (not_twice i d) (refused 6 0 i d)

  -- Scope: 'Fields'. 7 names the smaller row and the dart.
  unfoldable pub at7 : ℕ → ℕ → ℕ → Verdict
  at7 i j d = when (not_commuting i j d) (refused 7 0 i d)

module _ (a : Involutions) (N : ℕ) (present : ℕ → Bool) where
  -- Scope: 'Numbers of refusal'. 5: the entry of a dart present is no dart present, or an absent dart's is another than 65,535.
  abbrev pub strays : ℕ → ℕ → Bool
  strays i d = cond (present d) (not (ltb (a i d) N && present (a i d))) (not (eqb (a i d) absent))

  -- Scope: 'Fields'. 5 names the row and the dart.
  unfoldable pub at5 : ℕ → ℕ → Verdict
  at5 i d = when (strays i d) (refused 5 0 i d)

module _ (a : Involutions) (n N : ℕ) (present : ℕ → Bool) where
  -- Scope: 'First place found'. 5 is sought over rows, then darts.
  unfoldable pub check5 : Verdict
  check5 = scan (suc n) (λ i. scan N (at5 a N present i))

  -- Scope: 'First place found'. So is 6.
  unfoldable pub check6 : Verdict
  check6 = scan (suc n) (λ i. scan N (at6 a present i))

  -- Scope: 'First place found'. 7 is sought over i, then j, then darts.
  unfoldable pub check7 : Verdict
  check7 = scan (suc n) (λ i. scan (suc n) (λ j. scan N (at7 a present i j)))

  -- Scope: 'Check a base'. 5, 6 and 7 of a map, in this order.
  unfoldable pub check_map : Verdict
  check_map = check5 then (check6 then check7)

-- Scope: 'Cells that fit'. A dart ends elsewhere by the mark's second row and then the row beyond it than in the other order.
abbrev pub differs : Involutions → (ℕ → ℕ) → ℕ → Bool
differs a mark d = not (eqb (a (beyond (mark d)) (a (between (mark d)).1 d)) (a (between (mark d)).1 (a (beyond (mark d)) d)))

-- darts of a level with their marks
module _ (a : Involutions) (n : ℕ) (mark : ℕ → ℕ) where
  -- Scope: 'Kernels'. Row j leads from a dart marked to a dart of another mark, and j isn't its dimension.
  abbrev pub leaves : ℕ → ℕ → Bool
  leaves d j = is_mark n (mark d) && (not (eqb j (between (mark d)).0) && not (eqb (mark (a j d)) (mark d)))

  -- Scope: 'Numbers of refusal'. 10: the dart's own test fails, so its cell is neither removable nor contractible as it is marked.
  abbrev pub not_fitting : ℕ → Bool
  not_fitting d = is_mark n (mark d) && (has_beyond n (mark d) && differs a mark d)

-- the kernel of level l
module _ (a : Involutions) (n : ℕ) (mark : ℕ → ℕ) (l : ℕ) where
  -- Scope: 'Fields'. 9 names the kernel's level, the row that leaves and the dart.
  unfoldable pub at9 : ℕ → ℕ → Verdict
  at9 d j = when (leaves a n mark d j) (refused 9 l j d)

  -- Scope: 'Fields'. 10 names the kernel's level, the mark's second row and the dart.
  unfoldable pub at10 : ℕ → Verdict
  at10 d = when (not_fitting a n mark d) (refused 10 l (between (mark d)).1 d)

module _ (a : Involutions) (n N : ℕ) (mark : ℕ → ℕ) (l : ℕ) where
  -- Scope: 'First place found'. 9 is sought over darts, then involutions.
  unfoldable pub check9 : Verdict
  check9 = scan N (λ d. scan (suc n) (at9 a n mark l d))

  -- Scope: 'First place found'. 10 is sought over darts.
  unfoldable pub check10 : Verdict
  check10 = scan N (at10 a n mark l)

  -- Scope: 'Order of tests'. 9 before 10 at each level.
  unfoldable pub check_kernel : Verdict
  check_kernel = check9 then check10

-- Scope: 'Fields'. 8 of Λ and Δ names the dart alone.
unfoldable pub at8 : ℕ → ℕ → (ℕ → ℕ) → (ℕ → ℕ) → ℕ → Verdict
at8 n h Λ Δ d = when (refused_marks n h (Λ d) (Δ d)) (refused 8 0 0 d)

-- Scope: 'First place found'. 8 is sought over darts.
unfoldable pub check8 : ℕ → ℕ → ℕ → (ℕ → ℕ) → (ℕ → ℕ) → Verdict
check8 n N h Λ Δ = scan N (at8 n h Λ Δ)

module _ (a : Involutions) (n N h : ℕ) (Λ Δ : ℕ → ℕ) where
  -- Scope: 'Check a pyramid'. Each kernel is tested on its own level.
  unfoldable pub kernel_at : ℕ → Verdict
  kernel_at l = check_kernel (level a n N (marks h Λ Δ) l) n N (marks h Λ Δ l) l

  -- Scope: 'Check a pyramid'. The kernels, in rising order.
  unfoldable pub check_kernels : Verdict
  check_kernels = scan h kernel_at

  -- Scope: 'Accepted pyramids'. The base, the marks, the kernels.
  unfoldable pub check_pyramid : Verdict
  check_pyramid = check_map a n N (λ d. true) then (check8 n N h Λ Δ then check_kernels)
