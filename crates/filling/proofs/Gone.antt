-- Whether a dart is gone from a level, by the Λ that was read. Assumes nothing.
use mathlib.Core.Path.{◌≡◌, sym, ap, ◌∙◌}
use mathlib.Core.Bool.{Bool, true, false}
use Prim.Native.Nat.{ℕ, ◌≤◌, ◌<◌}
use lib.Dec.{ltb}
use borrow.Author.Tests.{ltb-true, ltb-false}

module _ (l : ℕ) {own Λ : ℕ} {gone : Bool} (read : own ≡ Λ) (told : gone ≡ ltb own l) where
  is_gone : gone ≡ ltb Λ l
  is_gone = told ∙ ap (λ (x : ℕ). ltb x l) read

  pub off_level : gone ≡ true → Λ < l
  off_level e = ltb-true Λ l (sym is_gone ∙ e)

  pub on_level : gone ≡ false → l ≤ Λ
  on_level e = ltb-false Λ l (sym is_gone ∙ e)
