-- What an accepted explicit level tells: it is valid, and a search on it by one choice for all darts is a search by the rows of that choice. Assumes nothing.
use mathlib.Core.Path.{◌≡◌, refl, sym, ◌∙◌}
use mathlib.Core.Logic.{inl, inr}
use mathlib.Core.Bool.{Bool, true, false, true≢false}
use mathlib.Core.List.{List}
use Prim.Native.Nat.{ℕ, ◌≤◌, ◌<◌}
use native.Mathlib.Omega.{arith}
use lib.ListN.{length, replicate, get_or-eq_default}
use lib.Dec.{ltb}
use borrow.Author.Tests.{ltb-true, ltb-false}
use Rattle.maps.specs.Map.{Valid}
use Rattle.maps.specs.Orbit.{Orbit, here, further}
use Rattle.maps.specs.Table.{entry}
use Rattle.maps.specs.Explicit.{present, There}
use Rattle.facts.proofs.Checks.{map_sound}
use Rattle.orbits.specs.Choices.{uses, chosen}
use Rattle.orbits.specs.Search.{has, Room}
use Rattle.orbits.specs.Orbits.{Closed, Ready, Added}
use Rattle.orbits.proofs.Choices.{same_choice}
use Rattle.orbits.specs.Explicit.{ExplicitLevel}

-- the darts present
abbrev pub Present : ℕ → ℕ → List ℕ → ℕ → Type 0
Present n N table = There N (present N table)

-- what is in a stored set has its place
has_low : (list : List Bool) (d : ℕ) → has list d ≡ true → d < length list
has_low list d h = go (ltb d (length list)) refl
  where
    go : (b : Bool) → ltb d (length list) ≡ b → d < length list
    go true q = ltb-true d (length list) q
    go false q = absurd (true≢false (sym h ∙ get_or-eq_default list false (ltb-false d (length list) q)))

module _ (n N : ℕ) (table : List ℕ) (level : ExplicitLevel n N table) where
  pub level_valid : Valid (entry N table) n (Present n N table)
  level_valid = (map_sound (entry N table) n N (present N table) level.accepts).valid

  -- a choice for all darts, and the rows that it uses
  module _ (choice : ℕ) (rows : ℕ → Bool) (is : (j : ℕ) → j < 5 → uses choice j ≡ rows j) where
    agree : (j d : ℕ) → j ≤ n → d < 4096 → chosen (replicate 4096 choice) j d ≡ rows j
    agree j d lj ld = same_choice choice j d ld ∙ is j (omega (arith, level.rows.dimension))

    by_rows : (x y : ℕ) → Present n N table x → Orbit (entry N table) n (chosen (replicate 4096 choice)) x y → Orbit (entry N table) n (λ j d. rows j) x y × Present n N table y
    by_rows x _ p here = (here, p)
    by_rows x _ p (further d j o lj u) =
        let r = by_rows x d p o in
        (further d j r.0 lj (sym (agree j d lj (omega (arith, r.1.0, level.rows.darts))) ∙ u), level_valid.inside j d lj r.1)

    by_choice : (x y : ℕ) → Present n N table x → Orbit (entry N table) n (λ j d. rows j) x y → Orbit (entry N table) n (chosen (replicate 4096 choice)) x y × Present n N table y
    by_choice x _ p here = (here, p)
    by_choice x _ p (further d j o lj u) =
        let r = by_choice x d p o in
        (further d j r.0 lj (agree j d lj (omega (arith, r.1.0, level.rows.darts)) ∙ u), level_valid.inside j d lj r.1)

    -- a search may begin at a dart present
    pub level_ready : (d : ℕ) (reached : List Bool) (queue : List ℕ) → Present n N table d → Room reached queue → Closed (entry N table) n (λ j d. rows j) (has reached)
        → Ready n N table (chosen (replicate 4096 choice)) d (has reached)
    level_ready d reached queue p z c = record {
      rows = level.rows;
      first = p.0;
      inside = λ e j o lj u. (level_valid.inside j e lj (by_rows d e p o).1).0;
      closed = λ e j h lj u. c e j h lj (sym (agree j e lj (omega (arith, has_low reached e h, z.reached_long))) ∙ u);
    }

    -- and adds what the rows reach
    pub level_added : (d : ℕ) (old new : List Bool) (queue : List ℕ) → Present n N table d → Room new queue → Added (entry N table) n (chosen (replicate 4096 choice)) d (has old) (has new)
        → Added (entry N table) n (λ j d. rows j) d (has old) (has new)
    level_added d old new queue p z w = record {
      kept = w.kept;
      whole = λ e o. w.whole e (by_choice d e p o).0;
      only = λ e h. elim (w.only e h) [ inl o ↦ inl o | inr o ↦ inr (by_rows d e p o).0 ];
      closed = λ e j h lj u. w.closed e j h lj (agree j e lj (omega (arith, has_low new e h, z.reached_long)) ∙ u);
    }
