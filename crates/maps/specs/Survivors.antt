-- Survivor words of a level. Assumes nothing: these are definitions.
use Rattle.std.specs.Prelude.{Bool, ◌&&◌, List, ℕ, ◌+◌, ◌*◌, ◌^◌, ltb}
use Rattle.std.specs.Int.Count.{ones}
use Rattle.maps.specs.Verdict.{Verdict, refused, when, if_accepted, ◌then◌, scan}
use Rattle.maps.specs.Count.{one, sum}
use Rattle.maps.specs.Sizes.{sizes, number4, number11, has_length}
use Rattle.maps.specs.Table.{each, listed}
use Rattle.maps.specs.Folded.{survives}

-- Scope: 'Survivor words'. Of 8 only Λ > h is tested, with the level asked and involution 0.
unfoldable pub at_lambda8 : ℕ → (ℕ → ℕ) → ℕ → ℕ → Verdict
at_lambda8 h Λ l d = when (ltb h (Λ d)) (refused 8 l 0 d)

-- Scope: 'Survivor words'. Bit b of word w is that of dart 64w + b; there is no dart beyond N.
abbrev pub bit : ℕ → (ℕ → ℕ) → ℕ → ℕ → ℕ → Bool
bit N Λ l w b = ltb (w * 64 + b) N && survives Λ l (w * 64 + b)

-- Scope: 'Survivor words'. Word w, from its bits.
unfoldable pub word : ℕ → (ℕ → ℕ) → ℕ → ℕ → ℕ
word N Λ l w = sum (λ b. one (bit N Λ l w b) * 2 ^ b) 64

module _ (N h : ℕ) (lambda : List ℕ) (l : ℕ) (words : List ℕ) where
  -- Scope: 'Survivor words'. Sizes and lengths, 64 words exactly, then 11 and 8.
  unfoldable pub survivors_lent : Verdict
  survivors_lent = sizes 1 N h then (number4 (has_length lambda N && has_length words 64) then (number11 h l 0 0 then scan N (at_lambda8 h (each lambda) l)))

  -- Scope: 'Survivor words'. What is left in the words; refused, as found.
  unfoldable pub survivor_words : List ℕ
  survivor_words = if_accepted survivors_lent (listed (word N (each lambda) l) 64) words

  -- Scope: 'Survivor words'. The survivor count is the number of ones in the words; 0 in a refusal.
  unfoldable pub survivor_count : ℕ
  survivor_count = if_accepted survivors_lent (sum (λ w. ones (word N (each lambda) l w)) 64) 0
