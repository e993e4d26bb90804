-- The parts of a record as the functions put them into the buffer. Assumes nothing: these are definitions.
use Rattle.std.specs.Prelude.{◌≡◌, List, [], ◌∷◌, ℕ, suc, ◌+◌, ◌*◌, ◌/◌, ◌%◌, ◌≤◌, length, get_or}
use Rattle.answers.specs.declared.Sizes.{Sizes}
use Rattle.taking.specs.Parts.{Laid}

-- the bytes of a record
abbrev pub record_size : ℕ → ℕ → ℕ
record_size n N = 7 + suc n * (3 + 2 * N) + 2 * (3 + N)

-- sizes in range, rows, Λ and Δ of the exact lengths, and a buffer that is long enough for their record
abbrev pub CanHold : Sizes → List ℕ → List ℕ → List ℕ → List ℕ → Type 0
CanHold sizes rows lambda delta bytes =
    (sizes.n.0 ≤ 4) × (sizes.darts ≤ 4096) × (length rows ≡ suc sizes.n.0 * sizes.darts) × (length lambda ≡ sizes.darts) × (length delta ≡ sizes.darts)
    × (record_size sizes.n.0 sizes.darts ≤ length bytes)

-- the head of a field with this many bytes
abbrev pub head_of : ℕ → ℕ → List ℕ
head_of tag size = tag ∷ size % 256 ∷ size / 256 ∷ []

-- a list put into a slice from place `at` on, the rest untouched
pub record Put (list : List ℕ) (at : ℕ) (old new : List ℕ) : Type 0 where
  pub laid : Laid (λ k. get_or list k 0) at (length list) old new
