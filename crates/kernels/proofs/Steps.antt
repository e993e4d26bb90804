-- One kernel, tested and removed. Assumes nothing.
use mathlib.Core.Path.{◌≡◌, sym}
use mathlib.Core.List.{List}
use Prim.Native.Nat.{ℕ}
use Rattle.maps.specs.Verdict.{Verdict, accepted}
use Rattle.maps.specs.Table.{entry}
use Rattle.maps.specs.Check.{check_kernel}
use Rattle.maps.specs.Explicit.{present, There}
use Rattle.facts.proofs.Checks.{kernel_sound}
use Rattle.answers.specs.Numbers.{refusal_of}
use Rattle.answers.specs.declared.Refusal.{Refusal}
use Rattle.answers.proofs.Refusals.{refusal_keeps}
use Rattle.kernels.specs.Ready.{Tested, Ready, removed_from, step_leaves}

module _ {n N : ℕ} {mark : ℕ → ℕ} {table : List ℕ} (t : Tested n N mark table) (l : ℕ) where
  abbrev both : Verdict
  both = check_kernel (entry N table) n N mark l

  pub step_refused : (r : Refusal) → refusal_of r ≡ both → (refusal_of r ≡ both) × (table ≡ step_leaves n N l mark table)
  step_refused r e = (e, refusal_keeps r both (removed_from n N mark table) table e)

  module _ (all : accepted ≡ both) where
    pub step_ready : Ready n N mark table
    step_ready = record { tested = t; kernel = kernel_sound (entry N table) n N mark l (There N (present N table)) t.sound.valid (λ d o. o.0) (sym all) }

    pub step_removed : {after : List ℕ} → after ≡ removed_from n N mark table → (accepted ≡ both) × (after ≡ step_leaves n N l mark table)
    step_removed e = (all, rw (← all) e)
