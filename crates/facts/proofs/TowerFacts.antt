-- The walk facts, of every tower and every n, for any two rows by which a dart is passed. Assumes nothing.
use mathlib.Core.Path.{◌≡◌, refl, sym, ap, ◌∙◌}
use mathlib.Core.Logic.{inl, inr}
use mathlib.Core.Bool.{true, false, cond}
use Prim.Native.Nat.{ℕ, zero, suc, ◌+◌, ◌*◌, ◌≤◌, ◌<◌}
use native.Mathlib.Omega.{arith}
use borrow.Author.Tests.{ltb-false, le-ltb}
use Rattle.maps.specs.Count.{sum}
use Rattle.maps.specs.Map.{Involutions, Valid}
use Rattle.maps.specs.Folded.{On, gone, survives, survivors, removed_below}
use Rattle.facts.proofs.Runs.{swap, swap_fst, swap_snd, turn, Run, short}
use Rattle.facts.proofs.Removals.{Pairs, without, led}
use Rattle.facts.proofs.Strings.{widen, join}
use Rattle.facts.proofs.Towers.{in_kernel, floor, Tower, on_below, on_above, gone_suc, gone_kernel, tower_valid, tower_ground}
use Rattle.facts.proofs.AllWalks.{sum_le}

-- Kernel `Λ d` takes dart d, which is passed between the rows `dim d` and `via d`.
module _ (a : Involutions) (n N : ℕ) (Λ dim via : ℕ → ℕ) where
  -- Level 0 is the base, level l+1 is level l without kernel l.
  abbrev floor_at : ℕ → Involutions
  floor_at l = floor a dim via N Λ l

  -- Reading by levels. The walk over level l that finds row t of dart d on level l+1: `R p t d e` says that a reading of row t of d on level l
  -- passes p darts and ends at e. The first dart of a pass is in kernel l with dimension t, the second in the same kernel, passed between the same two rows.
  pub data Rounds (R : ℕ → ℕ → ℕ → ℕ → Type 0) (l t : ℕ) : ℕ → ℕ → ℕ → Type 0 where
    stop : {p d e : ℕ} → R p t d e → gone Λ (suc l) e ≡ false → Rounds R l t p d e
    pass : {p₁ p₂ p₃ d e₁ e₂ e : ℕ} → R p₁ t d e₁ → in_kernel Λ l e₁ ≡ true → dim e₁ ≡ t → R p₂ (via e₁) e₁ e₂ → in_kernel Λ l e₂ ≡ true → dim e₂ ≡ dim e₁ → via e₂ ≡ via e₁ → Rounds R l t p₃ e₂ e
        → Rounds R l t (p₁ + suc (p₂ + suc p₃)) d e

  -- every step of it is again a reading one level lower, down to the base
  abbrev pub ByLevels : ℕ → ℕ → ℕ → ℕ → ℕ → Type 0
  ByLevels zero p t d e = (p ≡ 0) × (e ≡ a t d)
  ByLevels (suc l) p t d e = Rounds (ByLevels l) l t p d e

  -- the direct walk of dart b at level l by row i
  pub record Course (l i b : ℕ) : Type 0 where
    -- it passes so many darts and ends at the level's neighbour, by the row it began with
    pub passes : ℕ
    pub run : Run a dim via (gone Λ l) passes i b i (floor a dim via N Λ l i b)
    -- the reading by levels ends there too, and passes as many
    pub alike : ByLevels l passes i b (floor a dim via N Λ l i b)

  -- of level l
  pub record FactsOf (l : ℕ) : Type 0 where
    -- the level is a valid map on exactly the survivors
    pub valid : Valid (floor a dim via N Λ l) n (On N Λ l)
    -- every direct walk ends, and so does every reading by levels
    pub course : (i b : ℕ) → i ≤ n → On N Λ l b → Course l i b
    -- it passes at most 2·(darts removed or contracted below)
    pub few : (i b : ℕ) (li : i ≤ n) (o : On N Λ l b) → (course i b li o).passes ≤ 2 * removed_below N Λ l
    -- a walk that passes p darts counts p + 1: the whole level costs at most (n+1)·survivors + 2·(removed or contracted)
    pub bound : (counts : ℕ → ℕ → ℕ) → ((i b : ℕ) (li : i ≤ n) (o : On N Λ l b) → counts i b ≡ suc (course i b li o).passes)
        → sum (λ i. sum (λ b. cond (survives Λ l b) (counts i b) 0) N) (suc n) ≤ suc n * survivors N Λ l + 2 * removed_below N Λ l

  module _ (h : ℕ) (tower : Tower a n N h Λ dim via) where
    -- walks over level l, each of whose steps is a walk over the base and a reading by levels
    module _ (l : ℕ) (z : l < h) (below : (t d : ℕ) → t ≤ n → On N Λ l d → Course l t d) (t : ℕ) (lt : t ≤ n) where
      rounds : (f d e : ℕ) → On N Λ l d → Pairs (floor_at l) dim via (in_kernel Λ l) f t d e → (p : ℕ) × Rounds (ByLevels l) l t p d e × Run a dim via (gone Λ (suc l)) p t d t e
      rounds zero d e o x =
          let w = below t d lt o in
          let v = tower_valid a n N h Λ dim via tower l (omega arith) in
          let q = le-ltb (Λ (floor_at l t d)) (suc l) (on_above N Λ l (floor_at l t d) (v.inside t d lt o, x.0)).1 in
          rw x.1 (w.passes, stop w.alike q, (widen a dim via (gone Λ l) (gone Λ (suc l)) (gone_suc Λ l) w.passes t d t (floor_at l t d) w.run.0, q))
      rounds (suc f) d e o x =
          let v = tower_valid a n N h Λ dim via tower l (omega arith) in
          let e₁ = floor_at l t d in
          let o₁ = v.inside t d lt o in
          let P = x.0 in
          let s = via e₁ in
          let ls = (tower.kernel l z).high e₁ o₁ P.first in
          let e₂ = floor_at l s e₁ in
          let w₁ = below t d lt o in
          let w₂ = below s e₁ ls o₁ in
          let w₃ = rounds f e₂ e (v.inside s e₁ ls o₁) x.1 in
          let more = gone Λ (suc l) in
          let up = gone_suc Λ l in
          let g₁ = gone_kernel Λ l e₁ P.first in
          let g₂ = gone_kernel Λ l e₂ P.second in
          let s₁ : turn a dim via more e₁ t ≡ s = ap (swap (dim e₁) s) (sym P.first_dim) ∙ swap_fst (dim e₁) s in
          let s₂ : turn a dim via more e₂ s ≡ t = ap (swap (dim e₂) (via e₂)) (sym P.second_via) ∙ swap_snd (dim e₂) (via e₂) ∙ P.second_dim ∙ P.first_dim in
          let r₂ = join a dim via (gone Λ l) more up w₂.passes w₃.0 s e₁ s e₂ t e w₂.run.0 g₂ (inr (sym P.second_via)) (rw s₂ w₃.2) in (
            w₁.passes + suc (w₂.passes + suc w₃.0),
            pass w₁.alike P.first P.first_dim w₂.alike P.second P.second_dim P.second_via w₃.1,
            join a dim via (gone Λ l) more up w₁.passes (w₂.passes + suc w₃.0) t d t e₁ t e w₁.run.0 g₁ (inl (sym P.first_dim)) (rw s₁ r₂),
          )

    -- by induction on the level
    pub tower_course : (l : ℕ) → l ≤ h → (i d : ℕ) → i ≤ n → On N Λ l d → Course l i d
    unfolding floor
    tower_course zero z i d li o = record { passes = 0; run = ((refl, refl), le-ltb (Λ (a i d)) zero (omega arith)); alike = (refl, refl) }
    tower_course (suc l) z i d li o =
        let x = on_below N Λ l d o in
        let v = tower_valid a n N h Λ dim via tower l (omega arith) in
        let w = led (floor_at l) n (On N Λ l) v dim via (in_kernel Λ l) (tower.kernel l z) N (λ e y. y.0) i d li x.0 x.1 in
        let r = rounds l z (tower_course l (omega arith)) i li w.half d (without (floor_at l) dim via (in_kernel Λ l) N i d) x.0 w.by_two in
        record { passes = r.0; run = r.2; alike = r.1 }

    pub tower_facts : (l : ℕ) → l ≤ h → FactsOf l
    tower_facts l z =
        let g = tower_ground a n N h Λ dim via tower l z in
        let course = tower_course l z in
        record {
          valid = tower_valid a n N h Λ dim via tower l z;
          course = course;
          few = λ i b li o. let w = course i b li o in short a dim via (gone Λ l) n (λ d. d < N) g N (λ d x. x) w.passes i b i (floor_at l i b) li o.0 (le-ltb (Λ b) l o.1) w.run.0;
          bound = λ counts same. sum_le a dim via (gone Λ l) N n g counts (λ i b li lb q.
              let o : On N Λ l b = (lb, ltb-false (Λ b) l q) in
              let w = course i b li o in
              (w.passes, i, floor_at l i b, w.run.0, same i b li o));
        }
