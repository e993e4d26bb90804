-- What a walk is lent. Assumes nothing: these are definitions.
use Rattle.std.specs.Prelude.{◌≡◌, ℕ, suc, ◌*◌, ◌≤◌, length}
use Rattle.maps.specs.Folded.{Folded}

-- what every walk at level l is lent
pub record Lent (f : Folded) (l : ℕ) : Type 0 where
  pub dimension : f.n ≤ 4
  pub darts : f.N ≤ 4096
  pub height : f.h ≤ 32
  pub rows_length : length f.rows ≡ suc f.n * f.N
  pub lambda_length : length f.lambda ≡ f.N
  pub delta_length : length f.delta ≡ f.N
  pub level : l ≤ f.h
