-- The mark row of a kernel, and its darts strung one after the other. Assumes nothing: these are definitions.
use Rattle.std.specs.Prelude.{◌≡◌, Bool, true, false, cond, List, ℕ, ◌+◌, ◌≤◌, ◌<◌, length, eqb}
use Rattle.maps.specs.Mark.{is_mark, stay}
use Rattle.maps.specs.Table.{each}

-- the mark row of kernel l below h: Δ where Λ is l, else 255
unfoldable pub kernel_row : List ℕ → List ℕ → ℕ → ℕ → ℕ
kernel_row lambda delta l d = cond (eqb (each lambda d) l) (each delta d) stay

-- dart e is the first from `from` on that passes the test; where there is none, e is no dart
pub record First (test : ℕ → Bool) (N from e : ℕ) : Type 0 where
  pub after : from ≤ e
  pub none : (x : ℕ) → from ≤ x → x < e → x < N → test x ≡ false
  pub here : e < N → test e ≡ true

-- the darts that pass the test, strung from `first` on: `next` has the next after each
pub record Along (test : ℕ → Bool) (N first : ℕ) (next : List ℕ) : Type 0 where
  pub start : First test N 0 first
  pub onward : (d : ℕ) → d < N → test d ≡ true → First test N (d + 1) (each next d)

-- some darts are strung
abbrev pub Strings : ℕ → ℕ → List ℕ → Type 0
Strings N first next = (test : ℕ → Bool) × Along test N first next

-- no dart is strung: no head holds one
pub record Unstrung (head next : List ℕ) : Type 0 where
  pub none : (k : ℕ) → k < 256 → each head k ≡ 65535
  pub heads : length head ≡ 256
  pub room : length next ≡ 4096

-- the darts from `from` on, strung by kernel: `head` has the first of each kernel, `next` the next after each dart
pub record Linked (N : ℕ) (Λ : ℕ → ℕ) (from : ℕ) (head next : List ℕ) : Type 0 where
  pub heads : (k : ℕ) → k < 256 → First (λ x. eqb (Λ x) k) N from (each head k)
  pub onward : (d : ℕ) → from ≤ d → d < N → First (λ x. eqb (Λ x) (Λ d)) N (d + 1) (each next d)

-- Λ and Δ of N darts, of which those of kernel l are all marked
pub record Marks (n N l : ℕ) (lambda delta : List ℕ) : Type 0 where
  pub lambda_long : length lambda ≡ N
  pub delta_long : length delta ≡ N
  pub marked : (d : ℕ) → d < N → each lambda d ≡ l → is_mark n (each delta d) ≡ true

-- the darts of kernel l, strung from `first` on
pub record Strung (n N l first : ℕ) (lambda delta next : List ℕ) : Type 0 where
  pub marks : Marks n N l lambda delta
  pub string : Along (λ d. is_mark n (kernel_row lambda delta l d)) N first next
