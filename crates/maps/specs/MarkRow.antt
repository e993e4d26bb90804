-- What a mark row may hold, and the kernels that can be folded one after the other. Assumes nothing: these are definitions.
use Rattle.std.specs.Prelude.{◌≡◌, true, false, ℕ, ◌≤◌, ◌<◌}
use Rattle.maps.specs.Map.{Involutions, Valid}
use Rattle.maps.specs.Mark.{is_mark, stay, widest}
use Rattle.maps.specs.Kernel.{Kernel}
use Rattle.maps.specs.Folded.{On, foldΛ, level}

-- Scope: 'Mark rows'. A mark row of level h: a mark, on a dart of level h alone, or 255.
pub record Row (n N h : ℕ) (Λ mark : ℕ → ℕ) : Type 0 where
  pub top : (d : ℕ) → d < N → is_mark n (mark d) ≡ true → Λ d ≡ h
  pub rest : (d : ℕ) → d < N → is_mark n (mark d) ≡ false → mark d ≡ stay

-- Scope: 'Λ and Δ'. Kernels 0 to h−1, each a mark row and a kernel of the level that the removals before it leave.
pub record Kernels (a : Involutions) (n N h : ℕ) (kernels : ℕ → ℕ → ℕ) : Type 0 where
  pub dimension : n ≤ widest
  pub base : Valid a n (λ d. d < N)
  pub row : (l : ℕ) → l < h → Row n N l (foldΛ n kernels l) (kernels l)
  pub kernel : (l : ℕ) → l < h → Kernel (level a n N kernels l) n (On N (foldΛ n kernels l) l) (kernels l)
