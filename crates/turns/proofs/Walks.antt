-- How many base entries direct walks read, on any tables: the count that is answered where a neighbour is found, 1 + 2N at most where none is. Assumes nothing.
use mathlib.Core.Path.{◌≡◌, refl}
use mathlib.Core.Bool.{Bool, true, false, cond}
use Prim.Native.Nat.{ℕ, zero, suc, ◌+◌, ◌*◌, ◌≤◌}
use native.Mathlib.Omega.{arith}
use lib.Dec.{ltb}
use Rattle.maps.specs.Count.{sum}
use Rattle.maps.specs.Map.{Involutions}
use Rattle.maps.specs.Mark.{can_pass, across}
use Rattle.maps.specs.Folded.{gone, survives, refused_marks}
use Rattle.maps.specs.Walk.{Walked, ended, stopped, walk_from, walk}
use Rattle.laws.proofs.Counting.{sum_const}
use Rattle.turns.specs.Walks.{walk_entries, level_entries}
use Rattle.turns.proofs.Counts.{sum_at_most}

module _ (a : Involutions) (n N h : ℕ) (Λ Δ : ℕ → ℕ) (l i b : ℕ) where
  abbrev entries : ℕ → ℕ → ℕ → ℕ
  entries = walk_entries a n N h Λ Δ l

  -- what is told of the entries by how the walk ended, with c read before and k more that might be
  abbrev Told : ℕ → ℕ → Walked → ℕ → Type 0
  Told k c (ended u e c₁) x = (c + x ≡ c₁) × (x ≤ k)
  Told k c (stopped m r d) x = x ≤ k

  later : (k c : ℕ) (w : Walked) (x : ℕ) → Told k (suc c) w x → Told (suc k) c w (suc x)
  later k c (ended u e c₁) x m = (omega arith, omega arith)
  later k c (stopped r s d) x m = omega arith

  told : (k t d c : ℕ) → Told k c (walk_from a n N h Λ Δ l i b k t d c) (entries k t d)
  unfolding walk_from walk_entries
  told zero t d c = omega arith
  told (suc k) t d c =
      go (ltb (a t d) N) refl (refused_marks n h (Λ (a t d)) (Δ (a t d))) refl (gone Λ l (a t d)) refl (can_pass (Δ (a t d)) t) refl (told k (across (Δ (a t d)) t) (a t d) (suc c))
    where
      go : (v : Bool) → ltb (a t d) N ≡ v → (w : Bool) → refused_marks n h (Λ (a t d)) (Δ (a t d)) ≡ w → (x : Bool) → gone Λ l (a t d) ≡ x → (y : Bool) → can_pass (Δ (a t d)) t ≡ y
          → Told k (suc c) (walk_from a n N h Λ Δ l i b k (across (Δ (a t d)) t) (a t d) (suc c)) (entries k (across (Δ (a t d)) t) (a t d)) → Told (suc k) c (walk_from a n N h Λ Δ l i b (suc k) t d c) (entries (suc k) t d)
      go false o w p x q y r m = rw (o, walk_from, walk_entries) (omega arith)
      go true o true p x q y r m = rw (o, p, walk_from, walk_entries) (omega arith)
      go true o false p false q y r m = rw (o, p, q, walk_from, walk_entries) (omega arith, omega arith)
      go true o false p true q false r m = rw (o, p, q, r, walk_from, walk_entries) (omega arith)
      go true o false p true q true r m = rw (o, p, q, r, walk_from, walk_entries) (later k c (walk_from a n N h Λ Δ l i b k (across (Δ (a t d)) t) (a t d) (suc c)) (entries k (across (Δ (a t d)) t) (a t d)) m)

  -- one question, whatever the tables
  pub walk_entries_lem : entries (1 + 2 * N) i b ≤ 1 + 2 * N
  walk_entries_lem = go (walk_from a n N h Λ Δ l i b (1 + 2 * N) i b 0) (told (1 + 2 * N) i b 0)
    where
      go : (w : Walked) → Told (1 + 2 * N) 0 w (entries (1 + 2 * N) i b) → entries (1 + 2 * N) i b ≤ 1 + 2 * N
      go (ended u e c) m = m.1
      go (stopped r s d) m = m

  -- and where a neighbour is found, the count that is answered
  pub found_entries : (u e c : ℕ) → walk a n N h Λ Δ l i b ≡ ended u e c → entries (1 + 2 * N) i b ≡ c
  unfolding walk
  found_entries u e c q = go (walk_from a n N h Λ Δ l i b (1 + 2 * N) i b 0) q (told (1 + 2 * N) i b 0)
    where
      go : (w : Walked) → w ≡ ended u e c → Told (1 + 2 * N) 0 w (entries (1 + 2 * N) i b) → entries (1 + 2 * N) i b ≡ c
      go (ended u₁ e₁ c₁) p m = let z : c₁ ≡ c = cc in omega (arith, m.0)
      go (stopped r s d) p m = let z : ◌≡◌ {A = ℕ} 0 1 = cc in absurd (omega arith)

-- a whole level, whatever the tables
pub level_entries_lem : (a : Involutions) (n N h : ℕ) (Λ Δ : ℕ → ℕ) (l : ℕ) → level_entries a n N h Λ Δ l ≤ suc n * (N * (1 + 2 * N))
unfolding level_entries
level_entries_lem a n N h Λ Δ l =
    omega (arith, sum_at_most (λ i. sum (each i) N) (λ i. N * (1 + 2 * N)) (suc n) (λ i li. omega (arith, sum_at_most (each i) (λ b. 1 + 2 * N) N (λ b lb. go i b (survives Λ l b)), sum_const (1 + 2 * N) N)), sum_const (N * (1 + 2 * N)) (suc n))
  where
    each : ℕ → ℕ → ℕ
    each i b = cond (survives Λ l b) (walk_entries a n N h Λ Δ l (1 + 2 * N) i b) 0

    go : (i b : ℕ) (x : Bool) → cond x (walk_entries a n N h Λ Δ l (1 + 2 * N) i b) 0 ≤ 1 + 2 * N
    go i b true = walk_entries_lem a n N h Λ Δ l i b
    go i b false = omega arith
