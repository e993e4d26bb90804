-- The pyramids that are accepted. Assumes nothing: these are definitions.
use Rattle.std.specs.Prelude.{◌≡◌, false, ℕ, ◌≤◌, ◌<◌}
use Rattle.maps.specs.Map.{Involutions, Valid}
use Rattle.maps.specs.Mark.{widest}
use Rattle.maps.specs.Kernel.{Kernel}
use Rattle.maps.specs.Folded.{On, refused_marks, marks, level}

-- Scope: 'Accepted pyramids'. A valid base, marks that are allowed, and below h at each level a kernel of that level. (n is 1 to 4;
-- all that the facts need of it is that a byte says one thing.)
pub record Pyramid (a : Involutions) (n N h : ℕ) (Λ Δ : ℕ → ℕ) : Type 0 where
  pub dimension : n ≤ widest
  pub base : Valid a n (λ d. d < N)
  pub allowed : (d : ℕ) → d < N → refused_marks n h (Λ d) (Δ d) ≡ false
  pub kernel : (l : ℕ) → l < h → Kernel (level a n N (marks h Λ Δ) l) n (On N Λ l) (marks h Λ Δ l)
