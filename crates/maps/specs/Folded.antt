-- The folded form: Λ, the number of the kernel that removes or contracts a dart, and Δ, its mark there; the mark rows and levels of it. Assumes nothing: these are definitions.
use Rattle.std.specs.Prelude.{Bool, true, cond, ◌&&◌, not, List, ℕ, zero, suc, ◌≤◌, ◌<◌, eqb, ltb}
use Rattle.maps.specs.Map.{Involutions}
use Rattle.maps.specs.Mark.{is_mark, stay}
use Rattle.maps.specs.Removal.{removal}
use Rattle.maps.specs.Count.{count}
use Rattle.maps.specs.Table.{entry, each, explicit}

-- Scope: 'Λ and Δ'. Level l holds the darts with Λ ≥ l.
abbrev pub On : ℕ → (ℕ → ℕ) → ℕ → ℕ → Type 0
On N Λ l d = (d < N) × (l ≤ Λ d)

-- Scope: 'Λ and Δ'. A dart is gone from level l if a kernel below removes it: Λ < l.
abbrev pub gone : (ℕ → ℕ) → ℕ → ℕ → Bool
gone Λ l d = ltb (Λ d) l

-- Scope: 'Λ and Δ'. The others survive.
abbrev pub survives : (ℕ → ℕ) → ℕ → ℕ → Bool
survives Λ l d = not (gone Λ l d)

-- Scope: 'Survivor words'. How many darts are on level l.
abbrev pub survivors : ℕ → (ℕ → ℕ) → ℕ → ℕ
survivors N Λ l = count (survives Λ l) N

-- Scope: 'What is promised'. How many darts are removed or contracted below level l.
abbrev pub removed_below : ℕ → (ℕ → ℕ) → ℕ → ℕ
removed_below N Λ l = count (gone Λ l) N

-- Scope: 'Numbers of refusal'. 8: Λ above h, or below it with a Δ that is no mark, or h with another Δ than n.
abbrev pub refused_marks : ℕ → ℕ → ℕ → ℕ → Bool
refused_marks n h lambda delta = cond (ltb h lambda) true (cond (ltb lambda h) (not (is_mark n delta)) (not (eqb delta n)))

-- Scope: 'Mark rows'. The mark row of level l: Δ where Λ is l, else 255; for level h 255 throughout.
abbrev pub marks : ℕ → (ℕ → ℕ) → (ℕ → ℕ) → ℕ → ℕ → ℕ
marks h Λ Δ l d = cond (ltb l h && eqb (Λ d) l) (Δ d) stay

-- Scope: 'Add a level'. A dart marked gets the old h, a survivor that stays the new one.
abbrev pub addΛ : ℕ → ℕ → (ℕ → ℕ) → (ℕ → ℕ) → ℕ → ℕ
addΛ n h Λ mark d = cond (is_mark n (mark d)) h (cond (eqb (Λ d) h) (suc h) (Λ d))

-- Scope: 'Add a level'. A dart marked gets its mark.
abbrev pub addΔ : ℕ → (ℕ → ℕ) → (ℕ → ℕ) → ℕ → ℕ
addΔ n Δ mark d = cond (is_mark n (mark d)) (mark d) (Δ d)

-- Scope: 'Λ and Δ'. Kernels 0 to h−1 folded, one level added after the other: Λ is h for a dart never removed.
unfoldable pub foldΛ : ℕ → (ℕ → ℕ → ℕ) → ℕ → ℕ → ℕ
foldΛ n kernels zero d = 0
foldΛ n kernels (suc h) d = addΛ n h (foldΛ n kernels h) (kernels h) d

-- Scope: 'Λ and Δ'. The same of Δ, which is n for a dart never removed.
unfoldable pub foldΔ : ℕ → (ℕ → ℕ → ℕ) → ℕ → ℕ → ℕ
foldΔ n kernels zero d = n
foldΔ n kernels (suc h) d = addΔ n (foldΔ n kernels h) (kernels h) d

-- Scope: 'Λ and Δ'. Level 0 is the base; the removal of kernel l makes level l+1 of level l.
unfoldable pub level : Involutions → ℕ → ℕ → (ℕ → ℕ → ℕ) → ℕ → Involutions
level a n N kernels zero = a
level a n N kernels (suc l) = removal (level a n N kernels l) n (kernels l) N

-- Scope: 'Explicit levels'. The table of level l of a folded pyramid.
abbrev pub level_table : Involutions → ℕ → ℕ → ℕ → (ℕ → ℕ) → (ℕ → ℕ) → ℕ → List ℕ
level_table a n N h Λ Δ l = explicit (level a n N (marks h Λ Δ) l) n N (survives Λ l)

-- Scope: 'What is lent and asked'. A folded pyramid as it is lent: n, N, h, base rows, Λ and Δ.
pub record Folded : Type 0 where
  pub n : ℕ
  pub N : ℕ
  pub h : ℕ
  pub rows : List ℕ
  pub lambda : List ℕ
  pub delta : List ℕ

-- its involutions
abbrev pub base : Folded → Involutions
base f = entry f.N f.rows

-- its Λ
abbrev pub lambda_of : Folded → ℕ → ℕ
lambda_of f = each f.lambda

-- its Δ
abbrev pub delta_of : Folded → ℕ → ℕ
delta_of f = each f.delta

-- the same from its parts
abbrev pub of_parts : ℕ → ℕ → ℕ → List ℕ → List ℕ → List ℕ → Folded
of_parts n N h rows lambda delta = record { n = n; N = N; h = h; rows = rows; lambda = lambda; delta = delta }
