-- Kernels of an accepted pyramid removed one after the other: each is ready, and its removal leaves the next level. Assumes nothing.
use mathlib.Core.Path.{◌≡◌, sym, ◌∙◌}
use mathlib.Core.List.{List}
use Prim.Native.Nat.{ℕ, ◌+◌, ◌<◌}
use Rattle.maps.specs.Verdict.{accepted}
use Rattle.maps.specs.Table.{entry, each}
use Rattle.maps.specs.Folded.{Folded}
use Rattle.maps.specs.Check.{check_kernel, kernel_at, check_kernels}
use Rattle.maps.specs.Explicit.{present, There}
use Rattle.laws.proofs.Verdicts.{scan_accepted}
use Rattle.facts.proofs.Checks.{kernel_sound}
use Rattle.kernels.specs.Strings.{kernel_row}
use Rattle.kernels.specs.Ready.{Ready, removed_from}
use Rattle.climbing.specs.Climb.{climbs, Climbed}
use Rattle.climbing.proofs.Steps.{climb_tested, climb_next, kernel_is}

module _ {P : Folded} {l : ℕ} {head next table : List ℕ} (c : Climbed P l head next table) (f : l < P.h) (all : climbs P ≡ accepted) where
  open P use {n, N, h, rows, lambda, delta}

  abbrev row : ℕ → ℕ
  row = kernel_row lambda delta l

  passed : accepted ≡ check_kernel (entry N table) n N row l
  unfolding check_kernels
  passed = sym (kernel_is c f ∙ scan_accepted h (kernel_at (entry N rows) n N h (each lambda) (each delta)) all l f)

  pub kernel_ready : Ready n N row table
  kernel_ready = let t = climb_tested c f in record { tested = t; kernel = kernel_sound (entry N table) n N row l (There N (present N table)) t.sound.valid (λ d o. o.0) (sym passed) }

  pub kernel_removed : {after : List ℕ} → after ≡ removed_from n N row table → Climbed P (l + 1) head next after
  kernel_removed e = climb_next c f (rw (← passed) e) passed
