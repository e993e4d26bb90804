-- Verdicts: accepted, or a refusal; and the first refusal of several. Assumes nothing: these are definitions.
use Rattle.std.specs.Prelude.{Bool, true, false, ℕ, zero, suc}

-- Scope: 'Numbers of refusal'. Accepted, or a number with level, involution and dart.
pub data Verdict : Type 0 where
  accepted : Verdict
  refused : (number level involution dart : ℕ) → Verdict

-- a refusal where the test holds
abbrev pub when : Bool → Verdict → Verdict
when true v = v
when false v = accepted

-- one value where accepted, another where refused
abbrev pub if_accepted : {A : Type 0} → Verdict → A → A → A
if_accepted accepted new old = new
if_accepted (refused number level involution dart) new old = old

-- Scope: 'Order of tests'. The first verdict where it is a refusal, else the second.
infixr 5 ◌then◌
abbrev pub ◌then◌ : Verdict → Verdict → Verdict
accepted then v = v
(refused number level involution dart) then v = refused number level involution dart

-- Scope: 'First place found'. The first refusal of v 0, v 1, .., v (m − 1).
unfoldable pub scan : ℕ → (ℕ → Verdict) → Verdict
scan zero v = accepted
scan (suc m) v = scan m v then v m
